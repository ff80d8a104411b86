use Rattle.std.proofs.Common.{◌↔◌, map, sym, ap, subst, refl, ◌∙◌}
use Rattle.std.specs.Prelude.{IsTrue, option_map}
use Rattle.std.proofs.lemmas.Bool.{false≢true}
use Rattle.std.specs.Option.{option_copied}
use Rattle.names_hosts.specs.Mail.{mail_text}
use Rattle.cert.specs.CertificateHosts.{seen_hosts}
use Rattle.path_host_constraints.specs.Lists.{members_of}
use Rattle.path_host_constraints.specs.MailLists.{ExcludesNoMail}
use Rattle.path_host_constraints.specs.HostLists.{ExcludesNoHost}
use Rattle.path_host_constraints.specs.HostConstraints.{HostConstraints, DoNotExclude}
use Rattle.path_host_constraints.proofs.constraints.HostConstraints.excludes_none.Goals as goal

pub returns-then-excludes_no_mail : goal.returns-then-excludes_no_mail
returns-then-excludes_no_mail c = subst (λ (held : HostConstraints). IsTrue c.excludes_no_host.result ↔ DoNotExclude held (seen_hosts c.args.hosts.now)) c.self.view_is (
  λ t. record {
    mail = subst (λ names. ExcludesNoMail (members_of c.self.inside.excluded_mail.items) names) (ap (map (option_map mail_text)) c.deref-2.ensures.value)
        (subst (λ indexes. ExcludesNoMail (members_of indexes) (map (option_map mail_text) c.deref-2.result.now)) c.deref.ensures.value (c.if-excludes_no_mail.ensures.0 refl));
    hosts = subst (λ hosts. ExcludesNoHost (members_of c.self.inside.excluded_hosts.items) hosts) (ap (map option_copied) c.deref-then-excludes_no_mail-2.ensures.value)
        (subst (λ indexes. ExcludesNoHost (members_of indexes) (map option_copied c.deref-then-excludes_no_mail-2.result.now)) c.deref-then-excludes_no_mail.ensures.value (c.excludes_no_host.ensures.0 t));
  },
  λ d. c.excludes_no_host.ensures.1
      (subst (λ indexes. ExcludesNoHost (members_of indexes) (map option_copied c.deref-then-excludes_no_mail-2.result.now)) (sym c.deref-then-excludes_no_mail.ensures.value)
      (subst (λ hosts. ExcludesNoHost (members_of c.self.inside.excluded_hosts.items) hosts) (sym (ap (map option_copied) c.deref-then-excludes_no_mail-2.ensures.value)) d.hosts)),
)

pub returns-else-excludes_no_mail : goal.returns-else-excludes_no_mail
returns-else-excludes_no_mail c = subst (λ (held : HostConstraints). IsTrue c.excludes_no_mail.result ↔ DoNotExclude held (seen_hosts c.args.hosts.now)) c.self.view_is (
  λ t. absurd (false≢true (sym c.if-excludes_no_mail.false ∙ t)),
  λ d. c.excludes_no_mail.ensures.1
      (subst (λ indexes. ExcludesNoMail (members_of indexes) (map (option_map mail_text) c.deref-2.result.now)) (sym c.deref.ensures.value)
      (subst (λ names. ExcludesNoMail (members_of c.self.inside.excluded_mail.items) names) (sym (ap (map (option_map mail_text)) c.deref-2.ensures.value)) d.mail)),
)

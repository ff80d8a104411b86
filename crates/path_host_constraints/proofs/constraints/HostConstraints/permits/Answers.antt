use Rattle.std.proofs.Common.{◌↔◌, ◌∙◌, map, sym, ap, subst, refl}
use Rattle.std.proofs.lemmas.Bool.{false≢true}
use Rattle.std.specs.Prelude.{IsTrue, option_map}
use Rattle.std.specs.Option.{option_copied}
use Rattle.names_hosts.specs.Mail.{mail_text}
use Rattle.cert.specs.CertificateHosts.{seen_hosts}
use Rattle.path_host_constraints.specs.MailLists.{PermitsAllMail}
use Rattle.path_host_constraints.specs.HostLists.{PermitsAllHosts}
use Rattle.path_host_constraints.specs.HostConstraints.{HostConstraints, Permit}
use Rattle.path_host_constraints.proofs.constraints.HostConstraints.permits.Goals as goal

pub returns-then-permits_all_mail : goal.returns-then-permits_all_mail
returns-then-permits_all_mail c = subst (λ (held : HostConstraints). IsTrue c.permits_all_hosts.result ↔ Permit held (seen_hosts c.args.hosts.now)) c.self.view_is (
  λ t. record {
    mail = subst (λ names. PermitsAllMail c.self.inside.mail names) (ap (map (option_map mail_text)) c.deref.ensures.value) (c.if-permits_all_mail.ensures.0 refl);
    hosts = subst (λ hosts. PermitsAllHosts c.self.inside.hosts hosts) (ap (map option_copied) c.deref-then-permits_all_mail.ensures.value) (c.permits_all_hosts.ensures.0 t);
  },
  λ p. c.permits_all_hosts.ensures.1 (subst (λ hosts. PermitsAllHosts c.self.inside.hosts hosts) (sym (ap (map option_copied) c.deref-then-permits_all_mail.ensures.value)) p.hosts),
)

pub returns-else-permits_all_mail : goal.returns-else-permits_all_mail
returns-else-permits_all_mail c = subst (λ (held : HostConstraints). IsTrue c.permits_all_mail.result ↔ Permit held (seen_hosts c.args.hosts.now)) c.self.view_is (
  λ t. absurd (false≢true (sym c.if-permits_all_mail.false ∙ t)),
  λ p. c.permits_all_mail.ensures.1 (subst (λ names. PermitsAllMail c.self.inside.mail names) (sym (ap (map (option_map mail_text)) c.deref.ensures.value)) p.mail),
)

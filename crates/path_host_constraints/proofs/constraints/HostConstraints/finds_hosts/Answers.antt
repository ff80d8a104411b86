use Rattle.std.proofs.Common.{◌↔◌, sym, subst, refl, ◌∙◌}
use Rattle.std.specs.Prelude.{IsTrue}
use Rattle.std.proofs.lemmas.Bool.{false≢true}
use Rattle.cert.specs.CertificateHosts.{seen_hosts}
use Rattle.path_host_constraints.specs.HostConstraints.{HostConstraints, FindHosts}
use Rattle.path_host_constraints.proofs.constraints.HostConstraints.finds_hosts.Goals as goal

pub returns-then-has_each_mailbox : goal.returns-then-has_each_mailbox
returns-then-has_each_mailbox c = subst (λ (held : HostConstraints). IsTrue c.has_each_host.result ↔ FindHosts held (seen_hosts c.args.hosts.now)) c.self.view_is (
  λ t. record { mail = c.if-has_each_mailbox.ensures.0 refl; uris = c.has_each_host.ensures.0 t },
  λ found. c.has_each_host.ensures.1 found.uris,
)

pub returns-else-has_each_mailbox : goal.returns-else-has_each_mailbox
returns-else-has_each_mailbox c = subst (λ (held : HostConstraints). IsTrue c.has_each_mailbox.result ↔ FindHosts held (seen_hosts c.args.hosts.now)) c.self.view_is (
  λ t. absurd (false≢true (sym c.if-has_each_mailbox.false ∙ t)),
  λ found. c.has_each_mailbox.ensures.1 found.mail,
)

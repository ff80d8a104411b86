-- What the mail addresses and URIs of a certificate have to meet under the constraints of those before it (RFC 5280, 4.2.1.10, 6.1.3 (b)
-- and (c)). The emailAddresses of a subject are mail addresses too, also where the certificate has a subjectAltName (a choice of this
-- profile, by which more is refused: the RFC asks for it where there is none).
--
-- `says i` is what certificate i of a path says of mail addresses and of the hosts of URIs. Certificates are numbered from 1 on, behind the
-- trust anchor, which constrains nothing (6.1.1 (h) and (i)).
use Rattle.std.specs.Prelude.{◌≢◌, ◌⊎◌, ◌<◌, ◌≤◌, ℕ, List, [], None, Some, Contains}
use Rattle.names_hosts.specs.Mail.{MailText}
use Rattle.names_hosts.specs.HostLists.{HasHost}
use Rattle.names_hosts.specs.MailLists.{HasMail}
use Rattle.cert.specs.CertificateHosts.{CertificateHosts}

-- where a certificate has permitted subtrees of mail addresses, the address is among those of one; the same of hosts
abbrev pub PermitsMail : CertificateHosts → MailText → Type 0
PermitsMail constraints name = constraints.permitted_mail ≢ [] → HasMail constraints.permitted_mail name

abbrev pub PermitsHost : CertificateHosts → List ℕ → Type 0
PermitsHost constraints host = constraints.permitted_hosts ≢ [] → HasHost constraints.permitted_hosts host

-- there is a subtree of mail addresses, or one of URIs
abbrev pub ConstrainsMail : CertificateHosts → Type 0
ConstrainsMail constraints = (constraints.permitted_mail ≢ []) ⊎ (constraints.excluded_mail ≢ [])

abbrev pub ConstrainsUris : CertificateHosts → Type 0
ConstrainsUris constraints = (constraints.permitted_hosts ≢ []) ⊎ (constraints.excluded_hosts ≢ [])

-- a certificate permits each mail address of a later one that is a mailbox, and the host of each URI that has one (6.1.3 (b))
pub record PermitHosts (above c : CertificateHosts) : Type 0 where
  pub mail : (name : MailText) → Contains c.mail (Some name) → PermitsMail above name
  pub hosts : (host : List ℕ) → Contains c.hosts (Some host) → PermitsHost above host

-- it excludes none of them (6.1.3 (c))
pub record ExcludeNoHost (above c : CertificateHosts) : Type 0 where
  pub mail : (name : MailText) → Contains c.mail (Some name) → ¬ HasMail above.excluded_mail name
  pub hosts : (host : List ℕ) → Contains c.hosts (Some host) → ¬ HasHost above.excluded_hosts host

-- If it constrains mail addresses, each of them is a mailbox of the form that is processed (a choice of this profile: another one may lie in
-- any subtree). If it constrains URIs, each URI has a host that is a fully qualified DNS name (4.2.1.10).
pub record HaveHosts (above c : CertificateHosts) : Type 0 where
  pub mail : ConstrainsMail above → ¬ Contains c.mail None
  pub uris : ConstrainsUris above → ¬ Contains c.hosts None

-- each certificate before number j does
abbrev pub HostsArePermitted : (ℕ → CertificateHosts) → ℕ → Type 0
HostsArePermitted says j = (i : ℕ) → 1 ≤ i → i < j → PermitHosts (says i) (says j)

abbrev pub HostsAreNotExcluded : (ℕ → CertificateHosts) → ℕ → Type 0
HostsAreNotExcluded says j = (i : ℕ) → 1 ≤ i → i < j → ExcludeNoHost (says i) (says j)

abbrev pub UrisHaveHosts : (ℕ → CertificateHosts) → ℕ → Type 0
UrisHaveHosts says j = (i : ℕ) → 1 ≤ i → i < j → HaveHosts (says i) (says j)

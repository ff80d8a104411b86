-- The constraints on mail addresses and on the hosts of URIs that hold behind the certificates passed so far (RFC 5280, 6.1.2 (b) and (c),
-- 6.1.4 (g)).
use Rattle.std.specs.Prelude.{◌≡◌, ◌⊎◌, ◌↔◌, ◌+◌, ◌^◌, ◌<◌, ◌≤◌, ℕ, zero, suc, List, [], Bool, true, false, Option, None, length}
use Rattle.names_hosts.specs.Hosts.{HostNames}
use Rattle.names_hosts.specs.Mail.{MailText, MailNames}
use Rattle.names_hosts.specs.HostLists.{HasHost}
use Rattle.names_hosts.specs.MailLists.{HasMail}
use Rattle.cert.specs.CertificateHosts.{CertificateHosts}
use Rattle.path_host_constraints.specs.Lists.{size_of, HasEach}
use Rattle.path_host_constraints.specs.MailLists.{PermitsMailIn, PermitsAllMail, ExcludesNoMail, IsNarrowedMail}
use Rattle.path_host_constraints.specs.HostLists.{PermitsHostIn, PermitsAllHosts, ExcludesNoHost, IsNarrowedHosts}
use Rattle.path_host_constraints.specs.HostConditions.{PermitsMail, PermitsHost, ConstrainsMail, ConstrainsUris}

pub record HostConstraints : Type 0 where
  -- the permitted bases of either form, where some certificate had any
  pub mail : Option (List MailNames)
  pub hosts : Option (List HostNames)
  -- the excluded ones
  pub excluded_mail : List MailNames
  pub excluded_hosts : List HostNames
  -- some certificate constrained mail addresses, or URIs
  pub constrains_mail : Bool
  pub constrains_uris : Bool

-- how many bases are held, permitted and excluded, and how many a certificate has
abbrev pub base_count : HostConstraints → ℕ
base_count held = size_of held.mail + size_of held.hosts + length held.excluded_mail + length held.excluded_hosts

abbrev pub bases_in : CertificateHosts → ℕ
bases_in c = length c.permitted_mail + length c.permitted_hosts + length c.excluded_mail + length c.excluded_hosts

-- and how many the certificates 1 to j - 1 have together
unfoldable pub bases_before : (ℕ → CertificateHosts) → ℕ → ℕ
bases_before says zero = 0
bases_before says (suc zero) = 0
bases_before says (suc (suc k)) = bases_before says (suc k) + bases_in (says (suc k))

-- those before the first certificate, which admit every name (6.1.1 (h) and (i))
abbrev pub no_constraints : HostConstraints
no_constraints = record {
  mail = None;
  hosts = None;
  excluded_mail = [];
  excluded_hosts = [];
  constrains_mail = false;
  constrains_uris = false;
}

-- what one more certificate makes of them (6.1.4 (g))
pub record Narrows (constraints : CertificateHosts) (old new : HostConstraints) : Type 0 where
  pub mail : IsNarrowedMail old.mail constraints.permitted_mail new.mail
  pub hosts : IsNarrowedHosts old.hosts constraints.permitted_hosts new.hosts
  pub excluded_mail :
      (name : MailText) → HasMail new.excluded_mail name
      ↔ (HasMail old.excluded_mail name ⊎ HasMail constraints.excluded_mail name)
  pub excluded_hosts :
      (host : List ℕ) → HasHost new.excluded_hosts host
      ↔ (HasHost old.excluded_hosts host ⊎ HasHost constraints.excluded_hosts host)
  pub constrains_mail : (new.constrains_mail ≡ true) ↔ ((old.constrains_mail ≡ true) ⊎ ConstrainsMail constraints)
  pub constrains_uris : (new.constrains_uris ≡ true) ↔ ((old.constrains_uris ≡ true) ⊎ ConstrainsUris constraints)
  -- no base comes but those that it has
  pub few : base_count new ≤ base_count old + bases_in constraints

-- a certificate has no subtree of either form
pub record HasNoBase (constraints : CertificateHosts) : Type 0 where
  pub permitted_mail : constraints.permitted_mail ≡ []
  pub permitted_hosts : constraints.permitted_hosts ≡ []
  pub excluded_mail : constraints.excluded_mail ≡ []
  pub excluded_hosts : constraints.excluded_hosts ≡ []

-- The constraints are those that the certificates 1 to j - 1 leave: each name is permitted that each of them permits, each is excluded that
-- one of them excludes, and no more bases are held than they have.
pub record AreLeftBy (says : ℕ → CertificateHosts) (j : ℕ) (held : HostConstraints) : Type 0 where
  pub mail :
      (name : MailText) → PermitsMailIn held.mail name ↔ ((i : ℕ) → 1 ≤ i → i < j → PermitsMail (says i) name)
  pub hosts :
      (host : List ℕ) → PermitsHostIn held.hosts host ↔ ((i : ℕ) → 1 ≤ i → i < j → PermitsHost (says i) host)
  pub excluded_mail :
      (name : MailText) → HasMail held.excluded_mail name
      ↔ ((i : ℕ) × (1 ≤ i) × (i < j) × HasMail (says i).excluded_mail name)
  pub excluded_hosts :
      (host : List ℕ) → HasHost held.excluded_hosts host
      ↔ ((i : ℕ) × (1 ≤ i) × (i < j) × HasHost (says i).excluded_hosts host)
  pub constrains_mail : (held.constrains_mail ≡ true) ↔ ((i : ℕ) × (1 ≤ i) × (i < j) × ConstrainsMail (says i))
  pub constrains_uris : (held.constrains_uris ≡ true) ↔ ((i : ℕ) × (1 ≤ i) × (i < j) × ConstrainsUris (says i))
  pub few : base_count held ≤ bases_before says j

-- what they ask of a certificate
pub record Permit (held : HostConstraints) (c : CertificateHosts) : Type 0 where
  pub mail : PermitsAllMail held.mail c.mail
  pub hosts : PermitsAllHosts held.hosts c.hosts

pub record DoNotExclude (held : HostConstraints) (c : CertificateHosts) : Type 0 where
  pub mail : ExcludesNoMail held.excluded_mail c.mail
  pub hosts : ExcludesNoHost held.excluded_hosts c.hosts

pub record FindHosts (held : HostConstraints) (c : CertificateHosts) : Type 0 where
  pub mail : held.constrains_mail ≡ true → HasEach c.mail
  pub uris : held.constrains_uris ≡ true → HasEach c.hosts

-- this many bases are excluded, and no more than a machine has room for
pub record CountsExcluded (mail : List MailNames) (hosts : List HostNames) (count : ℕ) : Type 0 where
  pub value : count ≡ length mail + length hosts
  pub small : count < 2 ^ 62

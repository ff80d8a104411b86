-- What a certificate says of mail addresses and of the hosts of URIs, and which of its bases is the first that is malformed.
use Rattle.std.specs.Prelude.{◌≡◌, ◌⊎◌, ℕ, Bool, true, false, List, [], ◌∷◌, ◌++◌, filter, Result, Ok, Err}
use Rattle.std.specs.List.{AllZip}
use Rattle.asn.specs.Place.{Place, body}
use Rattle.names.specs.NameRule.TheVariants.{MailForm, UriForm}
use Rattle.cert.specs.declared.fault.CertFault.{CertFault}
use Rattle.cert.specs.declared.fault.CertFault.TheVariants.{Refused, Memory}
use Rattle.cert.specs.declared.fault.CertRule.{CertRule}
use Rattle.cert.specs.declared.fault.CertRule.TheVariants.{Name}
use Rattle.names_hosts.specs.Hosts.{HostNames, AreHostsOf}
use Rattle.names_hosts.specs.Mail.{MailNames, IsMailOf}
use Rattle.cert.specs.Certificate.{Certificate}
use Rattle.cert.specs.CertificateHosts.{CertificateHosts}
use Rattle.cert.specs.ExtensionValues.{ExtensionValues}
use Rattle.cert_hosts.specs.BaseLists.{BaseLists}
use Rattle.cert_hosts.specs.Bases.{Base, mail_base, host_base, bases_in}
use Rattle.cert_hosts.specs.Mailboxes.{IsMail}
use Rattle.cert_hosts.specs.OwnNames.{mail_values, uris, IsUriOf}

-- which bases are of one form, and permitted or not
abbrev pub same_flag : Bool → Bool → Bool
same_flag true true = true
same_flag false false = true
same_flag _ _ = false

abbrev pub is_mail_base : Bool → Base → Bool
is_mail_base permitted (mail_base one value) = same_flag permitted one
is_mail_base permitted _ = false

abbrev pub is_host_base : Bool → Base → Bool
is_host_base permitted (host_base one value) = same_flag permitted one
is_host_base permitted _ = false

abbrev pub IsMailBaseAt : Base → MailNames → Type 0
IsMailBaseAt (mail_base permitted value) names = IsMailOf (body value) names
IsMailBaseAt _ names = ⊥

abbrev pub IsHostBaseAt : Base → HostNames → Type 0
IsHostBaseAt (host_base permitted value) names = AreHostsOf (body value) names
IsHostBaseAt _ names = ⊥

-- the bases say this: of each form what they are, one for one, in order
pub record AreSaid (bases : List Base) (lists : BaseLists) : Type 0 where
  pub permitted_mail : AllZip IsMailBaseAt (filter (is_mail_base true) bases) lists.permitted_mail
  pub excluded_mail : AllZip IsMailBaseAt (filter (is_mail_base false) bases) lists.excluded_mail
  pub permitted_hosts : AllZip IsHostBaseAt (filter (is_host_base true) bases) lists.permitted_hosts
  pub excluded_hosts : AllZip IsHostBaseAt (filter (is_host_base false) bases) lists.excluded_hosts

-- the rule that a base breaks, and where it stands
abbrev pub IsMalformed : Base → CertRule → ℕ → Type 0
IsMalformed (host_base permitted value) rule at =
    ((names : HostNames) → AreHostsOf (body value) names → ⊥) × (rule ≡ Name UriForm) × (at ≡ value.at)
IsMalformed (mail_base permitted value) rule at =
    ((names : MailNames) → IsMailOf (body value) names → ⊥) × (rule ≡ Name MailForm) × (at ≡ value.at)

-- the first of the bases that is malformed
pub record IsFirstMalformed (bases : List Base) (rule : CertRule) (at : ℕ) : Type 0 where
  pub before : List Base
  pub base : Base
  pub behind : List Base
  pub joined : bases ≡ before ++ base ∷ behind
  pub read : BaseLists
  pub well_formed : AreSaid before read
  pub malformed : IsMalformed base rule at

abbrev pub IsFirstFor : List Base → CertFault → Type 0
IsFirstFor bases (Refused rule at) = IsFirstMalformed bases rule at
IsFirstFor bases Memory = Unit {0}

-- what the bases before one say, and what they say with it; or it is malformed
abbrev pub TellsWith : Base → BaseLists → BaseLists → Type 0
TellsWith base old new = (before : List Base) → AreSaid before old → AreSaid (before ++ base ∷ []) new

abbrev pub IsMalformedFor : Base → CertFault → Type 0
IsMalformedFor base (Refused rule at) = IsMalformed base rule at
IsMalformedFor base Memory = Unit {0}

abbrev pub Tells : Base → BaseLists → BaseLists → Result (Unit {0}) CertFault → Type 0
Tells base old new (Ok done) = TellsWith base old new
Tells base old new (Err fault) = IsMalformedFor base fault

-- The value of nameConstraints has these bases.
pub record SaysBases (values : ExtensionValues) (lists : BaseLists) : Type 0 where
  pub bases : List Base
  pub found : bases_in values ≡ Ok bases
  pub said : AreSaid bases lists

pub record HasMalformed (values : ExtensionValues) (rule : CertRule) (at : ℕ) : Type 0 where
  pub bases : List Base
  pub found : bases_in values ≡ Ok bases
  pub first : IsFirstMalformed bases rule at

abbrev pub lists_of : CertificateHosts → BaseLists
lists_of hosts = record {
  permitted_mail = hosts.permitted_mail;
  excluded_mail = hosts.excluded_mail;
  permitted_hosts = hosts.permitted_hosts;
  excluded_hosts = hosts.excluded_hosts;
}

-- The certificate says this: of each value that is to be a mailbox which one it is, if it is one; of each URI its host, if it has one; and
-- the bases of its constraints.
pub record SaysHosts (c : Certificate) (hosts : CertificateHosts) : Type 0 where
  pub mail : AllZip IsMail (mail_values c) hosts.mail
  pub uris : AllZip IsUriOf (uris c) hosts.hosts
  pub bases : SaysBases c.extensions.values (lists_of hosts)

-- The value of nameConstraints does not have its layout, as that of a certificate that was read has; or this is its first base that is
-- malformed. Nothing else is refused.
abbrev pub IsRefusedIn : ExtensionValues → CertRule → ℕ → Type 0
IsRefusedIn values rule at = (bases_in values ≡ Err (rule, at)) ⊎ HasMalformed values rule at

abbrev pub IsRefusedAt : Certificate → CertRule → ℕ → Type 0
IsRefusedAt c rule at = IsRefusedIn c.extensions.values rule at

abbrev pub IsRefusedFor : Certificate → CertFault → Type 0
IsRefusedFor c (Refused rule at) = IsRefusedAt c rule at
IsRefusedFor c Memory = Unit {0}

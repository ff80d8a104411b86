-- Names on the command line: hosts, IP addresses and mailboxes (RFC 9525, 2 and 6.3; RFC 4291, 2.2; RFC 5280, 4.2.1.6).
use Rattle.std.specs.Prelude.{◌==◌, ◌⊎◌, ℕ, Bool, true, false, List, Option, Some, None}
use Rattle.std.specs.List.{list_any}
use Rattle.std.specs.Net.Addr.{ipv4_octets, ipv6_octets}
use Rattle.std.specs.Net.Grammar.{IsIpText}
use Rattle.std.specs.declared.net.ip_addr.IpAddr.{IpAddr}
use Rattle.std.specs.declared.net.ip_addr.IpAddr.TheVariants as Ip
use Rattle.names_identity.specs.declared.fault.IdentityRule.{IdentityRule}
use Rattle.names_identity.specs.Host.{IsHost, without_final_dot}
use Rattle.names_identity.specs.Identity.{ReferenceIdentity, address_identity, reference_identity}
use Rattle.names_identity.specs.Mailbox.{IsMailboxFault}
use Rattle.names_identity.specs.Reading.{IsAddressOf, IsHostOf, IsMailboxOf, IsRefusedHost}
use Rattle.cli_failures.specs.declared.failure.Failure.{Failure}
use Rattle.cli_failures.specs.declared.failure.Failure.TheVariants.{BadName}
use Rattle.cli_operands.specs.declared.name.Name.{Name}
use Rattle.cli_operands.specs.declared.name.Name.TheVariants as Of

-- a name, without where it lies in memory
abbrev pub identity_named : Name → ReferenceIdentity
identity_named (Of.Text identity) = reference_identity identity
identity_named (Of.V4 octets) = address_identity octets
identity_named (Of.V6 octets) = address_identity octets

-- the octets of an IP address, as an iPAddress has them
abbrev pub address_octets : IpAddr → List ℕ
address_octets (Ip.V4 address) = ipv4_octets address
address_octets (Ip.V6 address) = ipv6_octets address

-- the text writes an IP address, and this is it
pub record IsWrittenAddress (text : List ℕ) (name : ReferenceIdentity) : Type 0 where
  pub address : IpAddr
  pub written : IsIpText text address
  pub is : IsAddressOf (address_octets address) name

abbrev pub WritesNoAddress : List ℕ → Type 0
WritesNoAddress text = (address : IpAddr) → ¬ IsIpText text address

-- an at sign stands in the text
abbrev pub has_at_sign : List ℕ → Bool
has_at_sign text = list_any (λ octet. octet == 64) text

-- the identity that a text is, with an at sign or without one
abbrev pub IsNameBy : Bool → List ℕ → ReferenceIdentity → Type 0
IsNameBy true text name = IsMailboxOf text name
IsNameBy false text name =
    IsWrittenAddress text name ⊎ (WritesNoAddress text × IsHost (without_final_dot text) × IsHostOf text name)

-- the text is this mailbox if it has an at sign, and otherwise this IP address if it writes one, and otherwise this host
abbrev pub IsName : List ℕ → ReferenceIdentity → Type 0
IsName text name = IsNameBy (has_at_sign text) text name

-- the rule that the text breaks, and where
abbrev pub IsNoNameBy : Bool → List ℕ → IdentityRule → ℕ → Type 0
IsNoNameBy true text rule at = IsMailboxFault text rule at
IsNoNameBy false text rule at = WritesNoAddress text × IsRefusedHost text rule at

abbrev pub IsNoName : List ℕ → IdentityRule → ℕ → Type 0
IsNoName text rule at = IsNoNameBy (has_at_sign text) text rule at

-- a name is asked for by its text, or none is
abbrev pub IsNameOf : Option (List ℕ) → Option ReferenceIdentity → Type 0
IsNameOf None None = Unit {0}
IsNameOf (Some text) (Some name) = IsName text name
IsNameOf _ _ = ⊥

-- the text is no name: it breaks a rule there
abbrev pub IsBadName : Option (List ℕ) → Failure → Type 0
IsBadName (Some text) (BadName at) = (rule : IdentityRule) × IsNoName text rule at
IsBadName _ _ = ⊥

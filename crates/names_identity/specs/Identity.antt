-- Whom the names of a certificate speak for (RFC 9525, 6.3 to 6.5; RFC 5280, 4.2.1.6 and 7.5).
use Rattle.std.specs.Prelude.{◌≡◌, ◌⊎◌, ◌<◌, ℕ, List, [], ◌∷◌, ◌++◌, Any, length, map}
use Rattle.std.specs.Char.{to_ascii_lowercase}
use Rattle.names.specs.Dns.{labels}
use Rattle.names.specs.declared.general.General.{General}
use Rattle.names.specs.GeneralView.{general_name}
use Rattle.names.specs.GeneralLayout.{GeneralName, dns_name, ip_address, other_name}
use Rattle.names_identity.specs.declared.identity.Identity.{Identity}
use Rattle.names_identity.specs.declared.identity.Identity.TheVariants as I

-- a reference identity, without where it lies in memory
pub data ReferenceIdentity : Type 0 where
  host_identity : List ℕ → ReferenceIdentity
  address_identity : List ℕ → ReferenceIdentity
  mailbox_identity : List ℕ → List ℕ → ReferenceIdentity

abbrev pub reference_identity : Identity → ReferenceIdentity
reference_identity (I.Host host) = host_identity host.now
reference_identity (I.Address octets) = address_identity octets.now
reference_identity (I.Mailbox local host) = mailbox_identity local.now host.now

-- names, likewise
abbrev pub seen_name_list : List General → List GeneralName
seen_name_list names = map general_name names

abbrev pub folded : List ℕ → List ℕ
folded text = map to_ascii_lowercase text

-- a text of one label, and one that a dot cuts behind its first
abbrev pub IsOneLabel : List ℕ → Type 0
IsOneLabel text = labels text ≡ folded text ∷ []

abbrev pub IsCut : List ℕ → List ℕ → List ℕ → Type 0
IsCut text first rest = labels text ≡ folded first ∷ labels rest

-- the left-most label of the name is an asterisk alone, and stands for the first label of the host; the rest is the same (RFC 9525, 6.3)
pub record MatchesByWildcard (name host : List ℕ) : Type 0 where
  pub first : List ℕ
  pub rest : List (List ℕ)
  pub some : 0 < length rest
  pub wildcard : labels name ≡ (42 ∷ []) ∷ rest
  pub same : labels host ≡ first ∷ rest

-- a dNSName matches a host: label by label, with ASCII case folded, or by its wildcard
abbrev pub MatchesHost : List ℕ → List ℕ → Type 0
MatchesHost name host = (labels name ≡ labels host) ⊎ MatchesByWildcard name host

-- an rfc822Name has just this local part, and this host with ASCII case folded (RFC 5280, 7.5)
pub record MatchesMailbox (name local host : List ℕ) : Type 0 where
  pub behind : List ℕ
  pub joined : name ≡ local ++ 64 ∷ behind
  pub same : folded behind ≡ folded host

-- so a name reads: the local part, an at sign, and a host
abbrev pub IsBehind : List ℕ → List ℕ → List ℕ → Type 0
IsBehind name local host = name ≡ local ++ 64 ∷ host

abbrev pub HasNoHost : List ℕ → List ℕ → Type 0
HasNoHost name local = (host : List ℕ) → IsBehind name local host → ⊥

-- dNSName [2], iPAddress [7], rfc822Name [1]
abbrev pub Matches : ReferenceIdentity → GeneralName → Type 0
Matches (host_identity host) (dns_name name) = MatchesHost name host
Matches (address_identity octets) (ip_address name) = name ≡ octets
Matches (mailbox_identity local host) (other_name form name) = (form ≡ 1) × MatchesMailbox name local host
Matches _ _ = ⊥

-- one of the names does
abbrev pub SpeaksFor : List GeneralName → ReferenceIdentity → Type 0
SpeaksFor names identity = Any (Matches identity) names

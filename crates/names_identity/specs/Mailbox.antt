-- Mailboxes, and where a text stops being one (RFC 5280, 4.2.1.6; RFC 5321, 4.1.2).
use Rattle.std.specs.Prelude.{◌≡◌, ◌≢◌, ◌⊎◌, ◌<◌, ◌+◌, ◌==◌, ◌||◌, ◌&&◌, ℕ, List, ◌∷◌, ◌++◌, Bool, not, length, slice_index, Some, None}
use Rattle.std.specs.List.{AllPass, position}
use Rattle.std.specs.Char.{is_ascii_graphic}
use Rattle.names_identity.specs.declared.fault.IdentityRule.{IdentityRule}
use Rattle.names_identity.specs.declared.fault.IdentityRule.TheVariants as R
use Rattle.names_identity.specs.Host.{IsHost, IsHostFault}

-- ASCII that prints, but for the quote and the at sign, which only quoted local parts have
abbrev pub is_local_octet : ℕ → Bool
is_local_octet octet = is_ascii_graphic octet && not (octet == 34 || octet == 64)

abbrev pub not_local_octet : ℕ → Bool
not_local_octet octet = not (is_local_octet octet)

-- a local part, an at sign, and what follows
pub record IsDivided (text local host : List ℕ) : Type 0 where
  pub joined : text ≡ local ++ 64 ∷ host
  pub some : 0 < length local
  pub octets : AllPass is_local_octet local

-- Mailbox = Local-part "@" Domain
pub record IsMailbox (text local host : List ℕ) : Type 0 where
  pub divided : IsDivided text local host
  pub behind : IsHost host

-- no at sign up to the end; or the first octet that is not of a local part is another one, or comes first
abbrev pub IsDivisionFault : List ℕ → IdentityRule → ℕ → Type 0
IsDivisionFault text R.NoHost at = (position not_local_octet text ≡ None) × (at ≡ length text)
IsDivisionFault text R.LocalPart at = (position not_local_octet text ≡ Some at) × ((at ≡ 0) ⊎ (slice_index text at ≢ 64))
IsDivisionFault text _ at = ⊥

-- what stands behind the at sign is no host
pub record IsFaultBehind (text : List ℕ) (rule : IdentityRule) (at : ℕ) : Type 0 where
  pub local : List ℕ
  pub host : List ℕ
  pub divided : IsDivided text local host
  pub within : ℕ
  pub fault : IsHostFault host rule within
  pub place : at ≡ length local + 1 + within

abbrev pub IsMailboxFault : List ℕ → IdentityRule → ℕ → Type 0
IsMailboxFault text rule at = IsDivisionFault text rule at ⊎ IsFaultBehind text rule at

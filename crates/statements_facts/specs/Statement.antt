-- What signed statements say of certificates, and what is held of them (RFC 5280, 5; RFC 6960, 4.2).
use Rattle.std.specs.Prelude.{◌&&◌, ◌++◌, ℕ, ℤ, Bool, true, false, List, [], ◌∷◌, map, Option, None}
use Rattle.std.specs.Str.{bytes_eq}
use Rattle.statements_facts.specs.declared.profile.Profile.{Profile}
use Rattle.statements_facts.specs.declared.profile.Profile.TheVariants.{Stated}
use Rattle.statements_facts.specs.declared.scope.Scope.{Scope}
use Rattle.statements_facts.specs.declared.scope.Scope.TheVariants.{All, User, Ca}
use Rattle.statements_facts.specs.declared.single.Status.{Status}

-- whom a statement speaks for: the key of the issuer's name, which is that of each name that matches it (RFC 5280, 7.1), and the
-- whole encoding of its subjectPublicKeyInfo
pub record IssuerIdentity : Type 0 where
  pub name : List ℕ
  pub key_info : List ℕ

-- the issuer at a point, a general name as its octets, where it publishes lists (RFC 5280, 5.2.5): behind the key of a name nothing stands,
-- so what is held under the issuer at a point is apart from what is held under the issuer
abbrev pub at_point : List ℕ → IssuerIdentity → IssuerIdentity
at_point point issuer = record { name = issuer.name ++ point; key_info = issuer.key_info }

-- for whom a list of an issuer is kept, in order: the issuer, or, if the list is published at points, the issuer at each of them
abbrev pub kept_for : List (List ℕ) → IssuerIdentity → List IssuerIdentity
kept_for [] issuer = issuer ∷ []
kept_for (point ∷ points) issuer = map (λ name. at_point name issuer) (point ∷ points)

-- when a statement counts: from thisUpdate until nextUpdate (RFC 5280, 5.1.2.4 and 5.1.2.5; RFC 6960, 4.2.2.1)
pub record Window : Type 0 where
  pub from : ℤ
  pub until : ℤ

-- what a list says: its number (5.2.3), its window, and for each serial number that it lists the reason (5.3.1)
pub record CrlFact : Type 0 where
  pub number : ℕ
  pub window : Window
  pub reasons : List ℕ → Option ℕ

-- when a response was made: thisUpdate, and then producedAt (RFC 6960, 2.4)
pub record Times : Type 0 where
  pub this_update : ℤ
  pub produced_at : ℤ

-- what a list says of one serial number: the reason, where it is listed
pub record CrlAnswer : Type 0 where
  pub number : ℕ
  pub window : Window
  pub reason : Option ℕ

abbrev pub answer_for : List ℕ → CrlFact → CrlAnswer
answer_for serial fact = record { number = fact.number; window = fact.window; reason = fact.reasons serial }

-- what a response says of one certificate
pub record OcspFact : Type 0 where
  pub times : Times
  pub window : Window
  pub status : Status

-- what a list is numbered within: its issuer and scope (RFC 5280, 5.2.3)
pub record CrlSlot : Type 0 where
  pub issuer : IssuerIdentity
  pub scope : Scope

-- what a response speaks of: the issuer, the hash of the name that the certificate gives it, and the certificate's serial number
-- (RFC 6960, 4.1.1)
pub record OcspSlot : Type 0 where
  pub issuer : IssuerIdentity
  pub name_hash : List ℕ
  pub serial : List ℕ

-- what a store holds: its profile, and slot by slot the fact, where one is held
pub record Holdings : Type 0 where
  pub profile : Profile
  pub crl : CrlSlot → Option CrlFact
  pub ocsp : OcspSlot → Option OcspFact

abbrev pub empty_under : Profile → Holdings
empty_under profile = record { profile = profile; crl = λ slot. None; ocsp = λ slot. None }

abbrev pub empty_holdings : Holdings
empty_holdings = empty_under Stated

-- ---- tests

abbrev pub same_issuer : IssuerIdentity → IssuerIdentity → Bool
same_issuer one other = bytes_eq one.name other.name && bytes_eq one.key_info other.key_info

abbrev pub same_scope : Scope → Scope → Bool
same_scope All All = true
same_scope User User = true
same_scope Ca Ca = true
same_scope _ _ = false

abbrev pub same_crl_slot : CrlSlot → CrlSlot → Bool
same_crl_slot one other = same_issuer one.issuer other.issuer && same_scope one.scope other.scope

abbrev pub same_ocsp_slot : OcspSlot → OcspSlot → Bool
same_ocsp_slot one other = same_issuer one.issuer other.issuer && (bytes_eq one.name_hash other.name_hash && bytes_eq one.serial other.serial)

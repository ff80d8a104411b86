-- The key of a name, with octets behind, is that of another name with others behind just where the names match, and the octets are the same.
use Rattle.std.proofs.Common.{◌≡◌, ◌++◌, ◌&&◌, ◌||◌, ◌==◌, ◌↔◌, ◌+◌, ℕ, zero, suc, List, [], ◌∷◌, length, map, Bool, true, false, IsTrue, inl, inr, refl, sym, ap, ap₂, ◌∙◌, append-nil, Contains, arith}
use Rattle.std.specs.Cmp.{both_ways}
use Rattle.std.specs.List.{list_any}
use Rattle.std.specs.Str.{bytes_eq}
use Rattle.std.proofs.lemmas.Bool.{and_parts, and_from, cases_Bool}
use Rattle.std.proofs.lemmas.Bool.Decides.{Decides-eqb}
use Rattle.std.proofs.lemmas.Slice.Eq.{bytes_eq-Decides}
use Rattle.asn.specs.Members.{Members, none_in, none_left, octets_of_each}
use Rattle.asn.specs.Place.{Place}
use Rattle.statements_facts.specs.Statement.{IssuerIdentity, at_point, same_issuer}
use Rattle.relying_texts.specs.View.{is_kept_at, is_published_at}

-- ---- whether one of the names has these octets

pub any_is : (names : List (List ℕ)) (point : List ℕ) → Contains names point → list_any (λ name. bytes_eq name point) names ≡ true
any_is [] point (k, within, found) = absurd (omega (arith, within))
any_is (name ∷ names) point (zero, within, found) = rw ((bytes_eq-Decides name point).1 found) refl
any_is (name ∷ names) point (suc k, within, found) = elim (cases_Bool (bytes_eq name point)) [
  | inl same ↦ rw same refl
  | inr other ↦ rw other (any_is names point (k, omega (arith, within), found))
]

pub is_any : (names : List (List ℕ)) (point : List ℕ) → list_any (λ name. bytes_eq name point) names ≡ true → Contains names point
is_any [] point e = absurd cc
is_any (name ∷ names) point e = elim (cases_Bool (bytes_eq name point)) [
  | inl same ↦ (zero, omega arith, (bytes_eq-Decides name point).0 same)
  | inr other ↦ (let later = is_any names point (rw other at e) in (suc later.0, let low = later.1 in omega (arith, low), later.2))
]

none_there : (left : Members) → none_left left ≡ true → octets_of_each left.values ≡ []
unfolding none_left
none_there left e = by left.values e where
  by : (values : List Place) → none_in values ≡ true → octets_of_each values ≡ []
  by [] e = refl
  by (value ∷ values) e = absurd cc

no_octets : (point : List ℕ) → (length point == 0) ≡ bytes_eq [] point
no_octets point = both_ways _ _
    (λ e. (bytes_eq-Decides [] point).1 (by point e))
    (λ e. ap (λ p. length p == 0) (sym ((bytes_eq-Decides [] point).0 e)))
  where
    by : (point : List ℕ) → (length point == 0) ≡ true → [] ≡ point
    by [] e = refl
    by (octet ∷ point) e = let none = (Decides-eqb (length (octet ∷ point)) 0).0 e in absurd (omega (arith, none))

pub anywhere : (point : List ℕ) (b : Bool) → b ≡ (length point == 0) → b ≡ is_published_at [] point
anywhere point b is = is ∙ no_octets point

pub anywhere_if_none : (left : Members) (point : List ℕ) (b : Bool) → none_left left ≡ true → b ≡ (length point == 0) → b ≡ is_published_at (octets_of_each left.values) point
anywhere_if_none left point b none is = anywhere point b is ∙ ap (λ names. is_published_at names point) (sym (none_there left none))

pub at_one_of : (left : Members) (point : List ℕ) (b : Bool) → none_left left ≡ false → (IsTrue b ↔ Contains (octets_of_each left.values) point) → b ≡ is_published_at (octets_of_each left.values) point
unfolding none_left
at_one_of left point b some is = by left.values some is where
  by : (values : List Place) → none_in values ≡ false → (IsTrue b ↔ Contains (octets_of_each values) point) → b ≡ is_published_at (octets_of_each values) point
  by [] some is = absurd cc
  by (value ∷ values) some is = both_ways _ _ (λ t. any_is (octets_of_each (value ∷ values)) point (is.0 t)) (λ e. is.1 (is_any (octets_of_each (value ∷ values)) point e))

-- ---- an issuer at a point

module _ (one other : IssuerIdentity) (ends : (behind after : List ℕ) → one.name ++ behind ≡ other.name ++ after → (one.name ≡ other.name) × (behind ≡ after)) where
  at_alike : (name point : List ℕ) → same_issuer (at_point name one) (at_point point other) ≡ (same_issuer one other && bytes_eq name point)
  at_alike name point = both_ways _ _
      (λ t. let parts = and_parts (bytes_eq (one.name ++ name) (other.name ++ point)) (bytes_eq one.key_info other.key_info) t in
      let same = ends name point ((bytes_eq-Decides (one.name ++ name) (other.name ++ point)).0 parts.0) in
      and_from (same_issuer one other) (bytes_eq name point) (and_from (bytes_eq one.name other.name) (bytes_eq one.key_info other.key_info) ((bytes_eq-Decides one.name other.name).1 same.0) parts.1) ((bytes_eq-Decides name point).1 same.1))
      (λ t. let both = and_parts (same_issuer one other) (bytes_eq name point) t in
      let parts = and_parts (bytes_eq one.name other.name) (bytes_eq one.key_info other.key_info) both.0 in
      and_from (bytes_eq (one.name ++ name) (other.name ++ point)) (bytes_eq one.key_info other.key_info)
      ((bytes_eq-Decides (one.name ++ name) (other.name ++ point)).1 (ap₂ (λ n p. n ++ p) ((bytes_eq-Decides one.name other.name).0 parts.0) ((bytes_eq-Decides name point).0 both.1))) parts.1)

  any_at : (names : List (List ℕ)) (point : List ℕ) → list_any (λ issuer. same_issuer issuer (at_point point other)) (map (λ name. at_point name one) names) ≡ (same_issuer one other && list_any (λ name. bytes_eq name point) names)
  any_at [] point = none (same_issuer one other)
    where
      none : (b : Bool) → false ≡ (b && false)
      none true = refl
      none false = refl
  any_at (name ∷ names) point = ap₂ (λ a b. a || b) (at_alike name point) (any_at names point) ∙ together (same_issuer one other) (bytes_eq name point) (list_any (λ name. bytes_eq name point) names)
    where
      together : (a b c : Bool) → ((a && b) || (a && c)) ≡ (a && (b || c))
      together true b c = refl
      together false b c = refl

  pub kept_at : (names : List (List ℕ)) (point : List ℕ) → (same_issuer one other && is_published_at names point) ≡ is_kept_at one names other point
  kept_at [] point = sym (at_alike [] point) ∙ ap (λ name. same_issuer (record { name = name; key_info = one.key_info }) (at_point point other)) (append-nil one.name) ∙ alone (same_issuer one (at_point point other))
    where
      alone : (b : Bool) → b ≡ (b || false)
      alone true = refl
      alone false = refl
  kept_at (name ∷ names) point = sym (any_at (name ∷ names) point)

-- Which names are among those under which complete lists may be published.
use Rattle.std.proofs.Common.{◌≡◌, ℕ, zero, suc, List, [], ◌∷◌, Option, Some, None, arith, refl, sym, subst, inl, inr, Contains}
use Rattle.std.proofs.lemmas.List.Elements.{Contains-append_left, Contains-append_right, Contains-append_cases}
use Rattle.cert_points.specs.PointName.{PointName, full_name, relative}
use Rattle.cert_points.specs.DistributionPoint.{DistributionPoint}
use Rattle.cert_points.specs.CompleteNames.{complete_names_in, complete_names_of, complete_names, HasCompleteName, CompleteNamesAreExact}

none_in : (name : List ℕ) → Contains [] name → ⊥
none_in name (k, within, found) = omega (arith, within)

-- the fields of a point with such a name
record IsComplete (found : Option PointName) (reasons : Option (List ℕ)) (issuer : Option (List (List ℕ))) (name : List ℕ) : Type 0 where
  names : List (List ℕ)
  named : found ≡ Some (full_name names)
  all_reasons : reasons ≡ None
  own_issuer : issuer ≡ None
  among : Contains names name

in_fields : (found : Option PointName) (reasons : Option (List ℕ)) (issuer : Option (List (List ℕ))) (name : List ℕ) → Contains (complete_names_in found reasons issuer) name → IsComplete found reasons issuer name
in_fields None reasons issuer name has = absurd (none_in name has)
in_fields (Some relative) reasons issuer name has = absurd (none_in name has)
in_fields (Some (full_name names)) (Some some) issuer name has = absurd (none_in name has)
in_fields (Some (full_name names)) None (Some other) name has = absurd (none_in name has)
in_fields (Some (full_name names)) None None name has = record { names = names; named = refl; all_reasons = refl; own_issuer = refl; among = has }

of_point : (point : DistributionPoint) (name : List ℕ) → Contains (complete_names_of point) name → HasCompleteName point name
of_point point name has =
    let is = in_fields point.name point.reasons point.issuer name has in
    record { names = is.names; named = is.named; all_reasons = is.all_reasons; own_issuer = is.own_issuer; among = is.among }

in_point : (point : DistributionPoint) (name : List ℕ) → HasCompleteName point name → Contains (complete_names_of point) name
in_point point name has =
    let fields : complete_names_of point ≡ has.names = rw (has.named, has.all_reasons, has.own_issuer) refl in
    subst (λ (names : List (List ℕ)). Contains names name) (sym fields) has.among

abbrev HasOne : List DistributionPoint → List ℕ → Type 0
HasOne points name = (point : DistributionPoint) × Contains points point × HasCompleteName point name

later : (first : DistributionPoint) (points : List DistributionPoint) (name : List ℕ) → HasOne points name → HasOne (first ∷ points) name
later first points name (point, (k, within, found), has) = (point, (suc k, omega (arith, within), found), has)

some_point : (points : List DistributionPoint) (name : List ℕ) → Contains (complete_names points) name → HasOne points name
some_point [] name has = absurd (none_in name has)
some_point (point ∷ points) name has = elim (Contains-append_cases (complete_names_of point) (complete_names points) name has) [
  | inl here ↦ (point, (zero, omega arith, refl), of_point point name here)
  | inr behind ↦ later point points name (some_point points name behind)
]

among_all : (points : List DistributionPoint) (name : List ℕ) → HasOne points name → Contains (complete_names points) name
among_all [] name (point, (k, within, found), has) = absurd (omega (arith, within))
among_all (first ∷ points) name (point, (zero, within, found), has) =
    Contains-append_left (complete_names_of first) (complete_names points) name (in_point first name (subst (λ (p : DistributionPoint). HasCompleteName p name) (sym found) has))
among_all (first ∷ points) name (point, (suc k, within, found), has) =
    Contains-append_right (complete_names_of first) (complete_names points) name (among_all points name (point, (k, omega (arith, within), found), has))

pub complete_names_are_exact : CompleteNamesAreExact
complete_names_are_exact points name = (some_point points name, among_all points name)

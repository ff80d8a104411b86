-- Which names are among those of points with reasons or cRLIssuer.
use Rattle.std.proofs.Common.{◌≡◌, ◌≢◌, ◌⊎◌, ℕ, zero, suc, List, [], ◌∷◌, Option, Some, None, arith, refl, sym, subst, inl, inr, Contains}
use Rattle.std.proofs.lemmas.List.Elements.{Contains-append_left, Contains-append_right, Contains-append_cases}
use Rattle.cert_points.specs.PointName.{PointName, full_name, relative}
use Rattle.cert_points.specs.DistributionPoint.{DistributionPoint}
use Rattle.cert_points.specs.LimitedNames.{limited_names_in, limited_names_of, limited_names, HasLimitedName, LimitedNamesAreExact}

none_in : (name : List ℕ) → Contains [] name → ⊥
none_in name (k, within, found) = omega (arith, within)

-- the fields of a point with such a name
record IsLimited (found : Option PointName) (reasons : Option (List ℕ)) (issuer : Option (List (List ℕ))) (name : List ℕ) : Type 0 where
  names : List (List ℕ)
  named : found ≡ Some (full_name names)
  limited : (reasons ≢ None) ⊎ (issuer ≢ None)
  among : Contains names name

in_fields : (found : Option PointName) (reasons : Option (List ℕ)) (issuer : Option (List (List ℕ))) (name : List ℕ) → Contains (limited_names_in found reasons issuer) name → IsLimited found reasons issuer name
in_fields None reasons issuer name has = absurd (none_in name has)
in_fields (Some relative) reasons issuer name has = absurd (none_in name has)
in_fields (Some (full_name names)) (Some some) issuer name has = record { names = names; named = refl; limited = inl (λ e. absurd cc); among = has }
in_fields (Some (full_name names)) None (Some other) name has = record { names = names; named = refl; limited = inr (λ e. absurd cc); among = has }
in_fields (Some (full_name names)) None None name has = absurd (none_in name has)

fields_in : (reasons : Option (List ℕ)) (issuer : Option (List (List ℕ))) (names : List (List ℕ)) → (reasons ≢ None) ⊎ (issuer ≢ None) → limited_names_in (Some (full_name names)) reasons issuer ≡ names
fields_in (Some some) issuer names limited = refl
fields_in None (Some other) names limited = refl
fields_in None None names (inl reasons) = absurd (reasons refl)
fields_in None None names (inr issuer) = absurd (issuer refl)

of_point : (point : DistributionPoint) (name : List ℕ) → Contains (limited_names_of point) name → HasLimitedName point name
of_point point name has =
    let is = in_fields point.name point.reasons point.issuer name has in
    record { names = is.names; named = is.named; limited = is.limited; among = is.among }

in_point : (point : DistributionPoint) (name : List ℕ) → HasLimitedName point name → Contains (limited_names_of point) name
in_point point name has =
    let fields : limited_names_of point ≡ has.names = rw has.named (fields_in point.reasons point.issuer has.names has.limited) in
    subst (λ (names : List (List ℕ)). Contains names name) (sym fields) has.among

abbrev HasOne : List DistributionPoint → List ℕ → Type 0
HasOne points name = (point : DistributionPoint) × Contains points point × HasLimitedName point name

later : (first : DistributionPoint) (points : List DistributionPoint) (name : List ℕ) → HasOne points name → HasOne (first ∷ points) name
later first points name (point, (k, within, found), has) = (point, (suc k, omega (arith, within), found), has)

some_point : (points : List DistributionPoint) (name : List ℕ) → Contains (limited_names points) name → HasOne points name
some_point [] name has = absurd (none_in name has)
some_point (point ∷ points) name has = elim (Contains-append_cases (limited_names_of point) (limited_names points) name has) [
  | inl here ↦ (point, (zero, omega arith, refl), of_point point name here)
  | inr behind ↦ later point points name (some_point points name behind)
]

among_all : (points : List DistributionPoint) (name : List ℕ) → HasOne points name → Contains (limited_names points) name
among_all [] name (point, (k, within, found), has) = absurd (omega (arith, within))
among_all (first ∷ points) name (point, (zero, within, found), has) =
    Contains-append_left (limited_names_of first) (limited_names points) name (in_point first name (subst (λ (p : DistributionPoint). HasLimitedName p name) (sym found) has))
among_all (first ∷ points) name (point, (suc k, within, found), has) =
    Contains-append_right (limited_names_of first) (limited_names points) name (among_all points name (point, (k, omega (arith, within), found), has))

pub limited_names_are_exact : LimitedNamesAreExact
limited_names_are_exact points name = (some_point points name, among_all points name)

-- What stands behind the key of a name.
use Rattle.std.proofs.Common.{◌≡◌, ◌∙◌, ◌<◌, ◌^◌, ℕ, zero, suc, nat_lt, false, List, [], ◌∷◌, ◌++◌, Option, Some, None, ◌-◌, length, refl, sym, ap, arith, append_assoc, length-append, option_and_then}
use Rattle.std.proofs.lemmas.Bool.Decides.{nat_tests}
use Rattle.std.proofs.lemmas.List.{take_at, drop_at}
use Rattle.std.proofs.lemmas.Nat.{from_be_bytes-to_be_bytes_4}
use Rattle.std.specs.Int.{from_be_bytes, w32}
use Rattle.std.specs.List.{flat_map, AllByRecursion}
use Rattle.std.specs.FinMap.{entries}
use Rattle.names_distinguished.specs.AttributeValue.{ComparedValue, Text, Other}
use Rattle.names_distinguished.specs.DistinguishedName.{ComparedAttribute, RdnMap}
use Rattle.names_distinguished.specs.NameKey.{four_octets, counted, value_key, entry_key, rdn_key, name_key, ValueFits, EntryFits, RdnFits}
use Rattle.cli_listing.specs.PointText.{behind_all, behind_attribute, behind_counted, behind_each, behind_octets, behind_set, behind_value, number_in, PointsAreFound}

number_found : (n : ℕ) (rest : List ℕ) → n < 2 ^ 32 → number_in (four_octets n ++ rest) ≡ Some (n, rest)
number_found n rest fits =
    let long : nat_lt (length (four_octets n ++ rest)) 4 ≡ false = grind (arith, nat_tests, length-append (four_octets n) rest) in
    rw long (λ i. Some (((ap (from_be_bytes w32) (take_at (four_octets n) rest 4 refl)) ∙ from_be_bytes-to_be_bytes_4 n fits) i, drop_at (four_octets n) rest 4 refl i))

octets_passed : (octets rest : List ℕ) → behind_octets (length octets, octets ++ rest) ≡ Some rest
octets_passed octets rest =
    let long : nat_lt (length (octets ++ rest)) (length octets) ≡ false = grind (arith, nat_tests, length-append octets rest) in
    rw long (ap Some (drop_at octets rest (length octets) refl))

counted_passed : (octets rest : List ℕ) → length octets < 2 ^ 32 → behind_counted (counted octets ++ rest) ≡ Some rest
counted_passed octets rest fits =
    ap behind_counted (append_assoc (four_octets (length octets)) octets rest)
    ∙ ap (option_and_then behind_octets) (number_found (length octets) (octets ++ rest) fits) ∙ octets_passed octets rest

value_passed : (value : ComparedValue) (rest : List ℕ) → ValueFits value → behind_value (value_key value ++ rest) ≡ Some rest
value_passed (Text text) rest fits = counted_passed text rest fits
value_passed (Other octets) rest fits = counted_passed octets rest fits

attribute_passed : (attribute : ComparedAttribute) (rest : List ℕ) → EntryFits attribute → behind_attribute (entry_key attribute ++ rest) ≡ Some rest
attribute_passed attribute rest fits =
    ap behind_attribute (append_assoc (counted attribute.0) (value_key attribute.1) rest)
    ∙ ap (option_and_then behind_value) (counted_passed attribute.0 (value_key attribute.1 ++ rest) fits.type_fits)
    ∙ value_passed attribute.1 rest fits.value_fits

-- encodings one behind the other
module _ {X : Type 0} (f : X → List ℕ) (Fit : X → Type 0) (behind : List ℕ → Option (List ℕ)) (passed : (x : X) (rest : List ℕ) → Fit x → behind (f x ++ rest) ≡ Some rest) where
  all_passed : (xs : List X) (rest : List ℕ) → AllByRecursion Fit xs → behind_each behind (length xs) (flat_map f xs ++ rest) ≡ Some rest
  all_passed [] rest fit = refl
  all_passed (x ∷ xs) rest fit =
      ap (λ (octets : List ℕ). option_and_then (behind_each behind (length xs)) (behind octets)) (append_assoc (f x) (flat_map f xs) rest)
      ∙ ap (option_and_then (behind_each behind (length xs))) (passed x (flat_map f xs ++ rest) fit.0)
      ∙ all_passed xs rest fit.1

  counted_all_passed : (xs : List X) (rest : List ℕ) → length xs < 2 ^ 32 → AllByRecursion Fit xs
      → option_and_then (behind_all behind) (number_in ((four_octets (length xs) ++ flat_map f xs) ++ rest)) ≡ Some rest
  counted_all_passed xs rest count fit =
      ap (λ (octets : List ℕ). option_and_then (behind_all behind) (number_in octets)) (append_assoc (four_octets (length xs)) (flat_map f xs) rest)
      ∙ ap (option_and_then (behind_all behind)) (number_found (length xs) (flat_map f xs ++ rest) count)
      ∙ all_passed xs rest fit

-- what is passed in a step, and in those behind it
pub one_more : (behind : List ℕ → Option (List ℕ)) (count left : ℕ) (octets rest after : List ℕ) → 0 < left → behind rest ≡ Some after
    → behind_each behind left rest ≡ behind_each behind count octets → behind_each behind (left - 1) after ≡ behind_each behind count octets
one_more behind count zero octets rest after some passed kept = absurd (omega (arith, some))
one_more behind count (suc left) octets rest after some passed kept =
    let before : suc left - 1 ≡ left = omega arith in
    ap (λ (n : ℕ). behind_each behind n after) before ∙ sym (ap (option_and_then (behind_each behind left)) passed) ∙ kept

-- none can be passed
pub none_more : (behind : List ℕ → Option (List ℕ)) (count left : ℕ) (octets rest : List ℕ) → 0 < left → behind rest ≡ None
    → behind_each behind left rest ≡ behind_each behind count octets → None ≡ behind_each behind count octets
none_more behind count zero octets rest some none kept = absurd (omega (arith, some))
none_more behind count (suc left) octets rest some none kept = sym (ap (option_and_then (behind_each behind left)) none) ∙ kept

set_passed : (set : RdnMap) (rest : List ℕ) → RdnFits set → behind_set (rdn_key set ++ rest) ≡ Some rest
set_passed set rest fits = counted_all_passed entry_key EntryFits behind_attribute attribute_passed (entries set) rest fits.count_fits fits.each

pub points_are_found : PointsAreFound
unfolding name_key
points_are_found name point fits = counted_all_passed rdn_key RdnFits behind_set set_passed name point fits.count_fits fits.each

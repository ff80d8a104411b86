-- The values of a text stand at ascending offsets.
use Rattle.std.proofs.Common.{◌≡◌, ℕ, zero, suc, ◌<◌, ◌≤◌, List, [], ◌∷◌, ◌++◌, length, refl, arith, true, false, Bool, subst}
use Rattle.std.specs.List.{AllByRecursion}
use Rattle.der.proofs.Laws.{two_octets}
use Rattle.asn.specs.Place.{Place, ends, front, behind, parts, values, body_place}
use Rattle.asn.specs.Members.{members, members_at}

-- the places stand at this offset or behind it, each behind the one before
abbrev AscendFrom : ℕ → List Place → Type 0
AscendFrom from [] = Unit {0}
AscendFrom from (place ∷ places) = (from ≤ place.at) × AscendFrom (suc place.at) places

from_earlier : (early late : ℕ) (places : List Place) → early ≤ late → AscendFrom late places → AscendFrom early places
from_earlier early late [] le ascend = tt
from_earlier early late (place ∷ places) le ascend = let h = ascend.0 in (omega arith, ascend.1)

behind_at : (text : Place) → suc text.at ≤ (behind text).at
unfolding behind
behind_at text = let two = two_octets text.octets in omega arith

parts_ascend : (n : ℕ) (text : Place) → AscendFrom text.at (parts n text)
unfolding front
parts_ascend zero text = tt
parts_ascend (suc n) text = by_end (parts_ascend n (behind text)) (ends text) refl
  where
    by_end : AscendFrom (behind text).at (parts n (behind text)) → (b : Bool) → ends text ≡ b → AscendFrom text.at (parts (suc n) text)
    by_end h true e = rw e tt
    by_end h false e = rw e (omega arith, from_earlier (suc text.at) (behind text).at (parts n (behind text)) (behind_at text) h)

reaches : (from : ℕ) (before behind : List Place) (place : Place) → AscendFrom from (before ++ place ∷ behind) → from ≤ place.at
reaches from [] behind place ascend = ascend.0
reaches from (first ∷ before) behind place ascend = let h = reaches (suc first.at) before behind place ascend.1 in let g = ascend.0 in omega arith

stand_before : (from : ℕ) (before behind : List Place) (place : Place) → AscendFrom from (before ++ place ∷ behind) → AllByRecursion (λ earlier. earlier.at < place.at) before
stand_before from [] behind place ascend = tt
stand_before from (first ∷ before) behind place ascend =
    let h = reaches (suc first.at) before behind place ascend.1 in
    (omega arith, stand_before (suc first.at) before behind place ascend.1)

-- whatever the octets are, the values that stand before another have lesser offsets
pub values_before : (text : Place) (before behind : List Place) (place : Place) → values text ≡ before ++ place ∷ behind → AllByRecursion (λ earlier. earlier.at < place.at) before
unfolding values
values_before text before behind place e = stand_before text.at before behind place (subst (AscendFrom text.at) e (parts_ascend (length text.octets) text))

pub members_before : (value : Place) (before behind : List Place) (place : Place) → (members value).values ≡ before ++ place ∷ behind → AllByRecursion (λ earlier. earlier.at < place.at) before
unfolding members_at
members_before value before behind place e = values_before (body_place value) before behind place e

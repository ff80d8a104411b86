-- How many values a text holds, and how long they are.
use Rattle.std.proofs.Common.{◌≡◌, ℕ, zero, suc, ◌≤◌, List, [], ◌∷◌, length, refl, arith, true, false, Bool}
use Rattle.std.specs.List.{AllByRecursion}
use Rattle.std.proofs.lemmas.List.{length-take, length-drop}
use Rattle.der.specs.Length.{end_of}
use Rattle.asn.specs.Part.{contents}
use Rattle.asn.specs.Place.{Place, body, body_place, ends, front, behind, parts, values}
use Rattle.asn.specs.Members.{members, members_at}
use Rattle.asn.proofs.Views.{contents_shorter}

parts_count : (n : ℕ) (text : Place) → length (parts n text) ≤ n
parts_count zero text = omega arith
parts_count (suc n) text = by_end (parts_count n (behind text)) (ends text) refl
  where
    by_end : length (parts n (behind text)) ≤ n → (b : Bool) → ends text ≡ b → length (parts (suc n) text) ≤ suc n
    by_end h true e = rw e (omega arith)
    by_end h false e = rw e (omega arith)

abbrev IsShort : ℕ → Place → Type 0
IsShort most place = length place.octets ≤ most

weaker : (most more : ℕ) (places : List Place) → most ≤ more → AllByRecursion (IsShort most) places → AllByRecursion (IsShort more) places
weaker most more [] le all = tt
weaker most more (p ∷ ps) le all = let h = all.0 in (omega arith, weaker most more ps le all.1)

front_short : (text : Place) → length (front text).octets ≤ length text.octets
unfolding front
front_short text = omega (arith, length-take (end_of text.octets) text.octets)

behind_short : (text : Place) → length (behind text).octets ≤ length text.octets
unfolding behind
behind_short text = omega (arith, length-drop (end_of text.octets) text.octets)

parts_short : (n : ℕ) (text : Place) → AllByRecursion (IsShort (length text.octets)) (parts n text)
parts_short zero text = tt
parts_short (suc n) text = by_end (parts_short n (behind text)) (ends text) refl
  where
    by_end : AllByRecursion (IsShort (length (behind text).octets)) (parts n (behind text)) → (b : Bool) → ends text ≡ b → AllByRecursion (IsShort (length text.octets)) (parts (suc n) text)
    by_end h true e = rw e tt
    by_end h false e = rw e (front_short text, weaker (length (behind text).octets) (length text.octets) (parts n (behind text)) (behind_short text) h)

-- a text has at most as many values as octets, none longer than the text
pub values_count : (text : Place) → length (values text) ≤ length text.octets
unfolding values
values_count text = parts_count (length text.octets) text

pub values_short : (text : Place) → AllByRecursion (λ place. length place.octets ≤ length text.octets) (values text)
unfolding values
values_short text = parts_short (length text.octets) text

-- the same of the members of a value
pub members_count : (place : Place) → length (members place).values ≤ length place.octets
unfolding members_at body_place
members_count place = let h = values_count (body_place place) in let c = contents_shorter place.octets in omega arith

pub members_short : (place : Place) → AllByRecursion (λ member. length member.octets ≤ length place.octets) (members place).values
unfolding members_at body_place
members_short place = weaker (length (body_place place).octets) (length place.octets) ((members place).values) (contents_shorter place.octets) (values_short (body_place place))

pub body_short : (place : Place) → length (body place) ≤ length place.octets
unfolding contents
body_short place = contents_shorter place.octets

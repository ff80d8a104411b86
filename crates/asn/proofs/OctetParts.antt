-- Parts of a text of octets are octets.
use Rattle.std.proofs.Common.{◌≡◌, ℕ, zero, suc, ◌+◌, List, [], ◌∷◌, take, drop, refl, arith, true, false, Bool}
use Rattle.std.specs.List.{AllByRecursion}
use Rattle.std.proofs.lemmas.List.{get_or-drop}
use Rattle.der.specs.Laws.{AreOctets}
use Rattle.der.specs.Length.{header_len, contents_len, end_of}
use Rattle.asn.specs.Part.{contents}
use Rattle.asn.specs.Place.{Place, body, body_place, ends, front, behind, parts, values}
use Rattle.asn.specs.Members.{members, members_at}

octets_take : (n : ℕ) (text : List ℕ) → AreOctets text → AreOctets (take n text)
octets_take zero text are k = omega arith
octets_take (suc n) [] are k = omega arith
octets_take (suc n) (octet ∷ text) are zero = are zero
octets_take (suc n) (octet ∷ text) are (suc k) = octets_take n text (λ j. are (suc j)) k

octets_drop : (n : ℕ) (text : List ℕ) → AreOctets text → AreOctets (drop n text)
octets_drop n text are k = let h = are (n + k) in rw (get_or-drop n text k 0) h

octets_inside : (text : List ℕ) → AreOctets text → AreOctets (take (contents_len text) (drop (header_len text) text))
octets_inside text are = octets_take (contents_len text) (drop (header_len text) text) (octets_drop (header_len text) text are)

octets_front : (text : Place) → AreOctets text.octets → AreOctets (front text).octets
unfolding front
octets_front text are = octets_take (end_of text.octets) text.octets are

octets_behind : (text : Place) → AreOctets text.octets → AreOctets (behind text).octets
unfolding behind
octets_behind text are = octets_drop (end_of text.octets) text.octets are

parts_octets : (n : ℕ) (text : Place) → AreOctets text.octets → AllByRecursion (λ part. AreOctets part.octets) (parts n text)
parts_octets zero text are = tt
parts_octets (suc n) text are = by_end (parts_octets n (behind text) (octets_behind text are)) (ends text) refl
  where
    by_end : AllByRecursion (λ part. AreOctets part.octets) (parts n (behind text)) → (b : Bool) → ends text ≡ b → AllByRecursion (λ part. AreOctets part.octets) (parts (suc n) text)
    by_end h true e = rw e tt
    by_end h false e = rw e (octets_front text are, h)

-- the members of a value
pub members_octets : (value : Place) → AreOctets value.octets → AllByRecursion (λ member. AreOctets member.octets) (members value).values
unfolding members_at body_place values
members_octets value are = parts_octets _ (body_place value) (octets_inside value.octets are)

-- its contents
pub body_octets : (value : Place) → AreOctets value.octets → AreOctets (body value)
unfolding contents
body_octets value are = octets_inside value.octets are

-- and the value that its contents are
pub inside_octets : (value : Place) → AreOctets value.octets → AreOctets (body_place value).octets
unfolding body_place
inside_octets value are = octets_inside value.octets are

-- Values that stand in a text, and the values inside them.
use Rattle.std.proofs.Common.{◌≡◌, ℕ, zero, suc, ◌+◌, ◌≤◌, List, [], ◌∷◌, ◌++◌, length, true, false, sym, ap, ◌∙◌, subst, arith}
use Rattle.std.proofs.lemmas.List.{length-append}
use Rattle.asn.specs.Value.{Value, primitive, constructed}
use Rattle.asn.specs.Identifier.{is_constructed}
use Rattle.asn.specs.Encoding.{EncodesAt}
use Rattle.asn.specs.DerLaws.{AreOctets}
use Rattle.asn.specs.Part.{IsPartOf}
use Rattle.asn.specs.Place.{Place, tag}
use Rattle.asn.specs.Members.{Members, members, next_at, next_in}
use Rattle.asn.proofs.Laws.{IsEncodedPart, AllParts, members_stand, holds}
use Rattle.cert.specs.Offsets.{StandsIn}

-- a part ends within its text
pub part_ends : (text : List ℕ) (at : ℕ) (part : List ℕ) → IsPartOf text at part → at + length part ≤ length text
part_ends text at part is = omega (arith, is.place, ap length is.joined, length-append (is.before ++ part) is.behind, length-append is.before part)

pub encoded_part : (text : List ℕ) (value : Place) → StandsIn text value → IsEncodedPart text value
encoded_part text value is = record { stands = is.part; depth = is.encoded.0; value = is.encoded.1; encodes = is.encoded.2 }

-- it begins within it
pub begins_at : (text : List ℕ) (value : Place) → IsEncodedPart text value → value.at ≤ length text
begins_at text value is = omega (arith, part_ends text value.at value.octets is.stands)

-- values that are left, which stand in the text, and where they end
pub record Left (text : List ℕ) (left : Members) : Type 0 where
  pub parts : AllParts text left.values
  pub ends : left.end ≤ length text

pub next_begins : (text : List ℕ) (left : Members) → Left text left → next_at left ≤ length text
unfolding next_at
next_begins text left is = by left.values is.parts
  where
    by : (values : List Place) → AllParts text values → next_in left.end values ≤ length text
    by [] parts = is.ends
    by (value ∷ values) parts = begins_at text value parts.0

-- the members of a constructed value
pub members_left : (text : List ℕ) (value : Place) → is_constructed (tag value) ≡ true → IsEncodedPart text value → Left text (members value)
members_left text value form is = record { parts = members_stand text value form is; ends = by is.value is.encodes }
  where
    by : (v : Value) → EncodesAt is.depth value.octets v → (members value).end ≤ length text
    by (primitive identifier contents) encodes =
        let h = holds is.depth (primitive identifier contents) value encodes in
        let off : true ≡ false = sym form ∙ ap is_constructed h.0 ∙ h.1 in
        absurd cc
    by (constructed identifier values) encodes =
        let h = holds is.depth (constructed identifier values) value encodes in
        omega (arith, h.3, part_ends text value.at value.octets is.stands)

-- octets of a part are octets
front_octets : (part behind : List ℕ) → AreOctets (part ++ behind) → AreOctets part
front_octets [] behind are k = omega arith
front_octets (octet ∷ part) behind are zero = are zero
front_octets (octet ∷ part) behind are (suc k) = front_octets part behind (λ j. are (suc j)) k

behind_octets : (before part : List ℕ) → AreOctets (before ++ part) → AreOctets part
behind_octets [] part are = are
behind_octets (octet ∷ before) part are = behind_octets before part (λ k. are (suc k))

pub part_octets : (text : List ℕ) (at : ℕ) (part : List ℕ) → AreOctets text → IsPartOf text at part → AreOctets part
part_octets text at part are is =
    behind_octets is.before part (front_octets (is.before ++ part) is.behind (subst AreOctets is.joined are))

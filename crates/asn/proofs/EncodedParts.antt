-- Values that stand in a text, and the values inside them.
use Rattle.std.proofs.Common.{◌≡◌, ℕ, ◌+◌, true, false, List, [], ◌∷◌, length, sym, ap, ◌∙◌}
use Rattle.der.specs.Value.{Value, Values, primitive, constructed, none, more}
use Rattle.der.specs.Identifier.{is_constructed}
use Rattle.der.specs.Encoding.{EncodesAt}
use Rattle.asn.specs.Part.{IsPartOf}
use Rattle.asn.specs.Place.{Place, tag, body_place}
use Rattle.asn.specs.Members.{members}
use Rattle.asn.specs.Layout.{AreMembersAt, AreParts}
use Rattle.asn.proofs.MemberLemmas.{holds}
use Rattle.asn.proofs.PartLemmas.{contents_part, members_are_parts}

-- a part of the text that is an encoding
pub record IsEncodedPart (text : List ℕ) (place : Place) : Type 0 where
  pub stands : IsPartOf text place.at place.octets
  pub depth : ℕ
  pub value : Value
  pub encodes : EncodesAt depth place.octets value

abbrev pub AllParts : List ℕ → List Place → Type 0
AllParts text [] = Unit {0}
AllParts text (place ∷ places) = IsEncodedPart text place × AllParts text places

both : (text : List ℕ) (depth at : ℕ) (values : Values) (places : List Place) → AreMembersAt depth at values places → AreParts text places → AllParts text places
both text depth at none [] are parts = tt
both text depth at none (place ∷ places) are parts = absurd are
both text depth at (more value values) [] are parts = absurd are
both text depth at (more value values) (place ∷ places) are parts =
    (record { stands = parts.0; depth = depth; value = value; encodes = are.1 }, both text depth (at + length place.octets) values places are.2 parts.1)

pub members_stand : (text : List ℕ) (place : Place) → is_constructed (tag place) ≡ true → IsEncodedPart text place → AllParts text (members place).values
members_stand text place form whole = by whole.value whole.encodes
  where
    by : (value : Value) → EncodesAt whole.depth place.octets value → AllParts text (members place).values
    by (primitive identifier contents) encodes =
        let h = holds whole.depth (primitive identifier contents) place encodes in
        let never : true ≡ false = sym form ∙ ap is_constructed h.0 ∙ h.1 in
        absurd cc
    by (constructed identifier values) encodes =
        let h = holds whole.depth (constructed identifier values) place encodes in
        both text (whole.depth + 1) _ values (members place).values h.2 (members_are_parts text whole.depth identifier values place whole.stands encodes)

pub contents_stand : (text : List ℕ) (place : Place) → IsEncodedPart text place → IsPartOf text (body_place place).at (body_place place).octets
unfolding body_place
contents_stand text place whole = contents_part text whole.depth place.at place.octets whole.value whole.encodes whole.stands

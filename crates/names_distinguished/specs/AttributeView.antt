-- The members of an attribute, as places, and an attribute among others.
use Rattle.std.specs.Prelude.{ℕ, List, Result}
use Rattle.asn.specs.Members.{left}
use Rattle.asn.specs.declared.tlv.Tlv.{Tlv}
use Rattle.asn.specs.declared.tlv.Cursor.{Cursor}
use Rattle.asn.specs.Place.{seen_tlv}
use Rattle.names_distinguished.specs.declared.attribute.AttributeMembers.{AttributeMembers}
use Rattle.names_distinguished.specs.NameLayout.{AttributePlaces, attribute_order, attribute}
use Rattle.names_distinguished.specs.declared.fault.NameRule.{NameRule}

abbrev pub seen_members : AttributeMembers → AttributePlaces
seen_members members = record { kind = seen_tlv members.kind; value = seen_tlv members.value }

-- the order of an attribute among those that a cursor has left
abbrev pub order_among : Cursor → List ℕ → List ℕ → Tlv → Result (Unit {0}) (NameRule × ℕ)
order_among all before kind tlv = attribute_order ((left all).values) before kind (seen_tlv tlv)

-- an attribute among those that a cursor has left
abbrev pub attribute_among : Cursor → List ℕ → Tlv → Result (List ℕ) (NameRule × ℕ)
attribute_among all before tlv = attribute ((left all).values) before (seen_tlv tlv)

-- A name is compared by the attributes that its layout has.
use Rattle.std.proofs.Common.{◌≡◌, List, [], ◌∷◌, map, refl, ap, ap₂, ◌∙◌}
use Rattle.std.specs.List.{AllZip}
use Rattle.asn.specs.Value.{Value, primitive, constructed}
use Rattle.asn.specs.Place.{Place, tag, body}
use Rattle.asn.specs.Members.{members}
use Rattle.asn.specs.Layout.{IsEncodingOf}
use Rattle.asn.proofs.Laws.{of_primitive, of_constructed, of_more, of_none, of_list, contents_held}
use Rattle.names_distinguished.specs.AttributeValue.{compared}
use Rattle.names_distinguished.specs.DistinguishedName.{rdn_map}
use Rattle.names_distinguished.specs.NameParts.{entry_at, map_at, rdns_at}
use Rattle.names_distinguished.specs.NameForms.{IsAttributeAt, NameAttribute, attribute_of, rdn_of, HoldsString, AreAnRdn}
use Rattle.names_distinguished.specs.NameComparison.{compared_as, entry_of_attribute, set_of, NameIsComparedByLayout}
use Rattle.names_distinguished.proofs.NameLaws.{members_again}
use Rattle.names_distinguished.proofs.NameValues.{string_held}

compared_at : (value : Value) (place : Place) → IsEncodingOf value place → compared (tag place) (body place) ≡ compared_as value
compared_at (primitive identifier contents) place is = let shown = of_primitive is refl in rw (shown.0, shown.1) refl
compared_at (constructed identifier values) place is = rw ((of_constructed is refl).0, contents_held is.depth identifier values place is.encodes) refl

record ShowsEntry (place : Place) (attribute : NameAttribute) : Type 0 where
  pub entry : entry_at place ≡ entry_of_attribute attribute

entry_is : (attribute : NameAttribute) (value : Value) (place : Place) → IsEncodingOf value place → value ≡ attribute_of attribute → HoldsString attribute.value → ShowsEntry place attribute
unfolding entry_at
entry_is attribute value place encoded e string =
    let inside = of_constructed encoded e in
    let first = of_more inside.1 refl in
    let second = of_more first.4 refl in
    let kind = of_primitive first.3 refl in
    let is : IsAttributeAt place = record {
      kind = first.0;
      value = second.0;
      sequence = inside.0;
      members_are = first.2 ∙ ap (◌∷◌ first.0) (second.2 ∙ ap (◌∷◌ second.0) (of_none second.4 refl));
      identifier = kind.0;
      string = string_held attribute.value second.0 second.3 string;
    } in
    record { entry = rw (members_again place is, kind.1, compared_at attribute.value second.0 second.3) refl }

entries_are : (places : List Place) (attributes : List NameAttribute) → AllZip ShowsEntry places attributes → map entry_at places ≡ map entry_of_attribute attributes
entries_are [] [] all = refl
entries_are [] (attribute ∷ attributes) all = absurd all
entries_are (place ∷ places) [] all = absurd all
entries_are (place ∷ places) (attribute ∷ attributes) all = ap₂ ◌∷◌ all.0.entry (entries_are places attributes all.1)

record ShowsSet (place : Place) (attributes : List NameAttribute) : Type 0 where
  pub set : map_at place ≡ set_of attributes

set_is : (attributes : List NameAttribute) (value : Value) (place : Place) → IsEncodingOf value place → value ≡ rdn_of attributes → AreAnRdn attributes → ShowsSet place attributes
unfolding map_at
set_is attributes value place encoded e are =
    let inside = of_constructed encoded e in
    let all = of_list attribute_of (λ attribute. HoldsString attribute.value) ShowsEntry entry_is attributes inside.1 refl are.strings in
    record { set = ap rdn_map (entries_are (members place).values attributes all) }

sets_are : (places : List Place) (rdns : List (List NameAttribute)) → AllZip ShowsSet places rdns → map map_at places ≡ map set_of rdns
sets_are [] [] all = refl
sets_are [] (rdn ∷ rdns) all = absurd all
sets_are (place ∷ places) [] all = absurd all
sets_are (place ∷ places) (rdn ∷ rdns) all = ap₂ ◌∷◌ all.0.set (sets_are places rdns all.1)

pub compared_by_layout : NameIsComparedByLayout
unfolding rdns_at
compared_by_layout depth value place rdns encodes has =
    let inside = of_constructed (record { depth = depth; encodes = encodes }) has.layout in
    sets_are (members place).values rdns (of_list rdn_of AreAnRdn ShowsSet set_is rdns inside.1 refl has.each)

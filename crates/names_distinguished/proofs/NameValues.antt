-- The encoding of a value is read as a name exactly where the value has the layout of one.
use Rattle.std.proofs.Common.{◌≡◌, ◌≢◌, ℕ, List, ◌∷◌, Bool, true, false, refl, sym, ap, ◌∙◌, subst₂, is_lt, nat_cmp}
use Rattle.std.specs.Cmp.Lexicographic.{slice_cmp}
use Rattle.asn.specs.Value.{Value, primitive, constructed, more}
use Rattle.asn.specs.Identifier.{is_constructed}
use Rattle.asn.specs.Place.{Place, tag, body}
use Rattle.asn.specs.Members.{members}
use Rattle.asn.specs.Layout.{IsEncodingOf}
use Rattle.asn.specs.Size.{octets_of}
use Rattle.asn.proofs.Laws.{as_primitive, as_constructed, as_more, as_none, of_primitive, of_constructed, of_more, of_none, as_list, of_list, octets_are}
use Rattle.names_distinguished.specs.NameForms.{IsStringOf, IsAttributeAt, HaveOtherTypes, IsRdnAt, IsName, NameAttribute, attribute_of, rdn_of, HoldsString, AreAnRdn, HasNameLayout, NameHasLayout}
use Rattle.names_distinguished.proofs.NameLaws.{same_kind, is_name, name_is}
use Rattle.names_distinguished.proofs.Zipped.{zip_flip, zip_some, zip_all, zip_pairs, zip_sorted}

-- strings
holds_string : (value : Value) (place : Place) → IsEncodingOf value place → IsStringOf (tag place) (body place) → HoldsString value
holds_string (primitive identifier contents) place encoded string = let shown = of_primitive encoded refl in subst₂ IsStringOf shown.0 shown.1 string
holds_string (constructed identifier values) place encoded string = tt

not_constructed : (identifier other : ℕ) → is_constructed identifier ≡ true → is_constructed other ≡ false → identifier ≡ other → ⊥
not_constructed identifier other flag clear same = absurd cc

pub string_held : (value : Value) (place : Place) → IsEncodingOf value place → HoldsString value → IsStringOf (tag place) (body place)
string_held (primitive identifier contents) place encoded string = let shown = of_primitive encoded refl in subst₂ IsStringOf (sym shown.0) (sym shown.1) string
string_held (constructed identifier values) place encoded string =
    let shown = of_constructed encoded refl in
    let flag = encoded.encodes.2 in
    record {
      utf8 = λ is. absurd (not_constructed identifier 12 flag refl (sym shown.0 ∙ is));
      printable = λ is. absurd (not_constructed identifier 19 flag refl (sym shown.0 ∙ is));
      ia5 = λ is. absurd (not_constructed identifier 22 flag refl (sym shown.0 ∙ is));
    }

-- attributes
record ShowsAttribute (place : Place) (attribute : NameAttribute) : Type 0 where
  pub is : IsAttributeAt place
  pub kind_is : body is.kind ≡ attribute.kind
  pub octets : place.octets ≡ octets_of (attribute_of attribute)
  pub string : HoldsString attribute.value

as_attribute : (value : Value) (place : Place) → IsEncodingOf value place → IsAttributeAt place → (attribute : NameAttribute) × (value ≡ attribute_of attribute) × ShowsAttribute place attribute
as_attribute value place encoded is =
    let inside = as_constructed encoded is.sequence refl in
    let first = as_more inside.2 is.members_are in
    let second = as_more first.4 refl in
    let kind = as_primitive first.3 is.identifier refl in
    let attribute : NameAttribute = record { kind = body is.kind; value = second.0 } in
    let e : value ≡ attribute_of attribute = inside.1 ∙ ap (constructed 0x30) (first.2 ∙ ap (λ v. more v first.1) kind ∙ ap (more (primitive 0x06 (body is.kind))) (second.2 ∙ ap (more second.0) (as_none second.4 refl))) in (
      attribute,
      e,
      record { is = is; kind_is = refl; octets = octets_are encoded ∙ ap octets_of e; string = holds_string second.0 is.value second.3 is.string },
    )

of_attribute : (attribute : NameAttribute) (value : Value) (place : Place) → IsEncodingOf value place → value ≡ attribute_of attribute → HoldsString attribute.value → ShowsAttribute place attribute
of_attribute attribute value place encoded e string =
    let inside = of_constructed encoded e in
    let first = of_more inside.1 refl in
    let second = of_more first.4 refl in
    let kind = of_primitive first.3 refl in
    record {
      is = record {
        kind = first.0;
        value = second.0;
        sequence = inside.0;
        members_are = first.2 ∙ ap (◌∷◌ first.0) (second.2 ∙ ap (◌∷◌ second.0) (of_none second.4 refl));
        identifier = kind.0;
        string = string_held attribute.value second.0 second.3 string;
      };
      kind_is = kind.1;
      octets = octets_are encoded ∙ ap octets_of e;
      string = string;
    }

kinds_differ : (p : Place) (a : NameAttribute) (q : Place) (b : NameAttribute) → ShowsAttribute p a → ShowsAttribute q b → HaveOtherTypes p q → a.kind ≢ b.kind
kinds_differ p a q b one two differ same = differ one.is two.is (one.kind_is ∙ same ∙ sym two.kind_is)

types_differ : (a : NameAttribute) (p : Place) (b : NameAttribute) (q : Place) → ShowsAttribute p a → ShowsAttribute q b → a.kind ≢ b.kind → HaveOtherTypes p q
types_differ a p b q one two differ first second same =
    differ (sym one.kind_is ∙ ap body (same_kind one.is first) ∙ same ∙ ap body (same_kind second two.is) ∙ two.kind_is)

less_place : Place → Place → Bool
less_place p q = is_lt (slice_cmp nat_cmp p.octets q.octets)

less_attribute : NameAttribute → NameAttribute → Bool
less_attribute a b = is_lt (slice_cmp nat_cmp (octets_of (attribute_of a)) (octets_of (attribute_of b)))

same_order : (p : Place) (a : NameAttribute) (q : Place) (b : NameAttribute) → ShowsAttribute p a → ShowsAttribute q b → less_place p q ≡ less_attribute a b
unfolding less_place less_attribute
same_order p a q b one two = rw (one.octets, two.octets) refl

-- RDNs
as_rdn : (value : Value) (place : Place) → IsEncodingOf value place → IsRdnAt place → (attributes : List NameAttribute) × (value ≡ rdn_of attributes) × AreAnRdn attributes
unfolding less_place less_attribute
as_rdn value place encoded is =
    let all = (members place).values in
    let inside = as_constructed encoded is.set refl in
    let list = as_list attribute_of IsAttributeAt ShowsAttribute as_attribute inside.2 is.attributes in (
      list.0,
      inside.1 ∙ ap (constructed 0x31) list.1,
      record {
        some = zip_some ShowsAttribute all list.0 list.2 is.some;
        strings = zip_all ShowsAttribute (λ attribute. HoldsString attribute.value) (λ p a shows. shows.string) all list.0 list.2;
        types = zip_pairs ShowsAttribute HaveOtherTypes (λ one other. one.kind ≢ other.kind) kinds_differ all list.0 list.2 is.types;
        order = zip_sorted ShowsAttribute less_place less_attribute same_order all list.0 list.2 is.order;
      },
    )

of_rdn : (attributes : List NameAttribute) (value : Value) (place : Place) → IsEncodingOf value place → value ≡ rdn_of attributes → AreAnRdn attributes → IsRdnAt place
unfolding less_place less_attribute
of_rdn attributes value place encoded e are =
    let all = (members place).values in
    let inside = of_constructed encoded e in
    let zip = of_list attribute_of (λ attribute. HoldsString attribute.value) ShowsAttribute of_attribute attributes inside.1 refl are.strings in
    let back = zip_flip ShowsAttribute all attributes zip in
    let Shown : NameAttribute → Place → Type 0 = λ a p. ShowsAttribute p a in
    record {
      set = inside.0;
      some = zip_some Shown attributes all back are.some;
      attributes = zip_all Shown IsAttributeAt (λ a p shows. shows.is) attributes all back;
      types = zip_pairs Shown (λ one other. one.kind ≢ other.kind) HaveOtherTypes types_differ attributes all back are.types;
      order = zip_sorted Shown less_attribute less_place (λ a p b q one two. sym (same_order p a q b one two)) attributes all back are.order;
    }

-- names
as_name : (value : Value) (place : Place) → IsEncodingOf value place → IsName place → (rdns : List (List NameAttribute)) × HasNameLayout value rdns
as_name value place encoded is =
    let inside = as_constructed encoded is.sequence refl in
    let Is : Place → List NameAttribute → Type 0 = λ p rdn. AreAnRdn rdn in
    let list = as_list rdn_of IsRdnAt Is as_rdn inside.2 is.rdns in
    (list.0, record { layout = inside.1 ∙ ap (constructed 0x30) list.1; each = zip_all Is AreAnRdn (λ p rdn are. are) (members place).values list.0 list.2 })

of_name : (rdns : List (List NameAttribute)) (value : Value) (place : Place) → IsEncodingOf value place → HasNameLayout value rdns → IsName place
of_name rdns value place encoded has =
    let inside = of_constructed encoded has.layout in
    let Is : Place → List NameAttribute → Type 0 = λ p rdn. IsRdnAt p in
    let zip = of_list rdn_of AreAnRdn Is of_rdn rdns inside.1 refl has.each in
    record { sequence = inside.0; rdns = zip_all (λ rdn p. Is p rdn) IsRdnAt (λ rdn p is. is) rdns (members place).values (zip_flip Is (members place).values rdns zip) }

pub name_has_layout : NameHasLayout
name_has_layout depth value place encodes = (
  λ e. as_name value place (record { depth = depth; encodes = encodes }) (is_name place tt e),
  λ (rdns, has). name_is place (of_name rdns value place (record { depth = depth; encodes = encodes }) has),
)

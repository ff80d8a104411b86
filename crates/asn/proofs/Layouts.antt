-- From places to the values that they hold, and back: for laws of layouts.
use Rattle.std.proofs.Common.{◌≡◌, ℕ, ◌+◌, List, [], ◌∷◌, length, true, false, refl, sym, ap, ◌∙◌, subst}
use Rattle.der.specs.Value.{Value, Values, primitive, constructed, none, more}
use Rattle.der.specs.Identifier.{is_constructed}
use Rattle.asn.specs.Place.{Place, tag, body}
use Rattle.asn.specs.Members.{members, AtMostOne}
use Rattle.asn.specs.Layout.{AreMembersAt, IsValueAt, IsEncodingOf, HoldEach, AreEncodingsOf, AtMostOneValue}
use Rattle.asn.proofs.MemberLemmas.{holds}

encodings : (depth at : ℕ) (values : Values) (places : List Place) → AreMembersAt depth at values places → HoldEach values places
encodings depth at none [] are = tt
encodings depth at none (place ∷ places) are = absurd are
encodings depth at (more value values) [] are = absurd are
encodings depth at (more value values) (place ∷ places) are =
    (record { depth = depth; encodes = are.1 }, encodings depth (at + length place.octets) values places are.2)

shown : {value other : Value} {place : Place} → (is : IsEncodingOf value place) → value ≡ other → IsValueAt is.depth other place
shown {value = value} {place = place} is e = subst (λ v. IsValueAt is.depth v place) e (holds is.depth value place is.encodes)

-- What a place shows of its value.
pub of_primitive : {identifier : ℕ} {contents : List ℕ} {value : Value} {place : Place} → IsEncodingOf value place → value ≡ primitive identifier contents → (tag place ≡ identifier) × (body place ≡ contents)
of_primitive is e = let h = shown is e in (h.0, h.2)

pub of_constructed : {identifier : ℕ} {values : Values} {value : Value} {place : Place} → IsEncodingOf value place → value ≡ constructed identifier values → (tag place ≡ identifier) × AreEncodingsOf values (members place).values
of_constructed {values = values} {place = place} is e = let h = shown is e in (h.0, record { each = encodings _ _ values (members place).values h.2 })

other_form : {A : Type 0} (a b : ℕ) → a ≡ b → is_constructed a ≡ true → is_constructed b ≡ false → A
other_form a b same flag other = absurd cc

-- The value that a place shows.
as_primitive_of : (identifier : ℕ) (value : Value) (place : Place) → IsEncodingOf value place → tag place ≡ identifier → is_constructed identifier ≡ false → value ≡ primitive identifier (body place)
as_primitive_of identifier (primitive i c) place is t form =
    let h = of_primitive is refl in
    rw (sym h.0 ∙ t, h.1) refl
as_primitive_of identifier (constructed i values) place is t form =
    let h = shown is refl in
    other_form i identifier (sym h.0 ∙ t) h.1 form

pub as_primitive : {identifier : ℕ} {value : Value} {place : Place} → IsEncodingOf value place → tag place ≡ identifier → is_constructed identifier ≡ false → value ≡ primitive identifier (body place)
as_primitive {identifier = identifier} {value = value} {place = place} = as_primitive_of identifier value place

as_constructed_of : (identifier : ℕ) (value : Value) (place : Place) → IsEncodingOf value place → tag place ≡ identifier → is_constructed identifier ≡ true → (values : Values) × (value ≡ constructed identifier values) × AreEncodingsOf values (members place).values
as_constructed_of identifier (primitive i c) place is t form =
    let h = shown is refl in
    other_form identifier i (sym t ∙ h.0) form h.1
as_constructed_of identifier (constructed i values) place is t form =
    let h = of_constructed is refl in
    (values, ap (λ (k : ℕ). constructed k values) (sym h.0 ∙ t), h.1)

pub as_constructed : {identifier : ℕ} {value : Value} {place : Place} → IsEncodingOf value place → tag place ≡ identifier → is_constructed identifier ≡ true → (values : Values) × (value ≡ constructed identifier values) × AreEncodingsOf values (members place).values
as_constructed {identifier = identifier} {value = value} {place = place} = as_constructed_of identifier value place

-- The next value, or none.
pub of_more : {value : Value} {rest values : Values} {places : List Place} → AreEncodingsOf values places → values ≡ more value rest → (place : Place) × (others : List Place) × (places ≡ place ∷ others) × IsEncodingOf value place × AreEncodingsOf rest others
of_more {value = value} {rest = rest} {values = values} {places = places} are e = by places (subst (λ vs. HoldEach vs places) e are.each) where
  by : (ps : List Place) → HoldEach (more value rest) ps → (place : Place) × (others : List Place) × (ps ≡ place ∷ others) × IsEncodingOf value place × AreEncodingsOf rest others
  by [] each = absurd each
  by (place ∷ others) each = (place, others, refl, each.0, record { each = each.1 })

pub as_more : {values : Values} {place : Place} {places others : List Place} → AreEncodingsOf values places → places ≡ place ∷ others → (value : Value) × (rest : Values) × (values ≡ more value rest) × IsEncodingOf value place × AreEncodingsOf rest others
as_more {values = values} {place = place} {others = others} are e = by values (subst (HoldEach values) e are.each) where
  by : (vs : Values) → HoldEach vs (place ∷ others) → (value : Value) × (rest : Values) × (vs ≡ more value rest) × IsEncodingOf value place × AreEncodingsOf rest others
  by none each = absurd each
  by (more value rest) each = (value, rest, refl, each.0, record { each = each.1 })

pub of_none : {values : Values} {places : List Place} → AreEncodingsOf values places → values ≡ none → places ≡ []
of_none {places = places} are e = by places (subst (λ vs. HoldEach vs places) e are.each) where
  by : (ps : List Place) → HoldEach none ps → ps ≡ []
  by [] each = refl
  by (place ∷ places) each = absurd each

pub as_none : {values : Values} {places : List Place} → AreEncodingsOf values places → places ≡ [] → values ≡ none
as_none {values = values} are e = by values (subst (HoldEach values) e are.each) where
  by : (vs : Values) → HoldEach vs [] → vs ≡ none
  by none each = refl
  by (more value rest) each = absurd each

-- At most one value.
of_one : (values : Values) (places : List Place) → HoldEach values places → AtMostOneValue values → AtMostOne places
of_one none [] each one = tt
of_one none (p ∷ ps) each one = absurd each
of_one (more v vs) [] each one = absurd each
of_one (more v none) (p ∷ []) each one = tt
of_one (more v none) (p ∷ q ∷ ps) each one = absurd each.1
of_one (more v (more w vs)) (p ∷ ps) each one = absurd one

as_one : (values : Values) (places : List Place) → HoldEach values places → AtMostOne places → AtMostOneValue values
as_one none places each one = tt
as_one (more v none) places each one = tt
as_one (more v (more w vs)) [] each one = absurd each
as_one (more v (more w vs)) (p ∷ []) each one = absurd each.1
as_one (more v (more w vs)) (p ∷ q ∷ ps) each one = absurd one

pub of_at_most_one : {values : Values} {places : List Place} → AreEncodingsOf values places → AtMostOneValue values → AtMostOne places
of_at_most_one {values = values} {places = places} are one = of_one values places are.each one

pub as_at_most_one : {values : Values} {places : List Place} → AreEncodingsOf values places → AtMostOne places → AtMostOneValue values
as_at_most_one {values = values} {places = places} are one = as_one values places are.each one

-- From lists of places to the lists of values that they hold, and back: for laws of SEQUENCE OF and SET OF.
use Rattle.std.proofs.Common.{◌≡◌, List, [], ◌∷◌, map, refl, sym, ap, ◌∙◌, subst}
use Rattle.std.specs.List.{All, AllByRecursion, AllZip}
use Rattle.std.proofs.lemmas.List.Elements.{recursion_from_All, All-from_recursion, All-head, All-tail}
use Rattle.der.specs.Value.{Value, Values, none, more}
use Rattle.asn.specs.Place.{Place}
use Rattle.asn.specs.Layout.{IsEncodingOf, AreEncodingsOf}
use Rattle.asn.specs.ListLayout.{values_of, AllValues}
use Rattle.asn.specs.Size.{octets_of}
use Rattle.asn.proofs.Sizes.{encodable}
use Rattle.asn.proofs.Layouts.{of_more, as_more, of_none, as_none}

-- what the places show of their values is so of each of them, and the other way round
pub as_each : {values : Values} {places : List Place} (AtPlace : Place → Type 0) (OfValue : Value → Type 0)
    → ((value : Value) (place : Place) → IsEncodingOf value place → AtPlace place → OfValue value)
    → AreEncodingsOf values places → All AtPlace places → AllValues OfValue values
as_each {values = values} {places = places} AtPlace OfValue one are all = by values places are all where
  by : (vs : Values) (ps : List Place) → AreEncodingsOf vs ps → All AtPlace ps → AllValues OfValue vs
  by none ps are all = tt
  by (more v vs) ps are all =
      let next = of_more are refl in
      let here : All AtPlace (next.0 ∷ next.1) = subst (All AtPlace) next.2 all in
      (one v next.0 next.3 (All-head AtPlace next.0 next.1 here), by vs next.1 next.4 (All-tail AtPlace next.0 next.1 here))

pub of_each : {values : Values} {places : List Place} (AtPlace : Place → Type 0) (OfValue : Value → Type 0)
    → ((value : Value) (place : Place) → IsEncodingOf value place → OfValue value → AtPlace place)
    → AreEncodingsOf values places → AllValues OfValue values → All AtPlace places
of_each {values = values} {places = places} AtPlace OfValue one are all = All-from_recursion AtPlace places (by places values are all) where
  by : (ps : List Place) (vs : Values) → AreEncodingsOf vs ps → AllValues OfValue vs → AllByRecursion AtPlace ps
  by [] vs are all = tt
  by (p ∷ ps) vs are all =
      let next = as_more are refl in
      let here : AllValues OfValue (more next.0 next.1) = subst (AllValues OfValue) next.2 all in
      (one next.0 p next.3 here.0, by ps next.1 next.4 here.1)

-- The same where each value is one of these fields in a form. Shows ties a place to the fields; it has to be a record, or a
-- type without arguments that are left out.
pub as_list : {Fields : Type 0} {values : Values} {places : List Place} (form : Fields → Value) (AtPlace : Place → Type 0) (Shows : Place → Fields → Type 0)
    → ((value : Value) (place : Place) → IsEncodingOf value place → AtPlace place → (fields : Fields) × (value ≡ form fields) × Shows place fields)
    → AreEncodingsOf values places → All AtPlace places → (list : List Fields) × (values ≡ values_of (map form list)) × AllZip Shows places list
as_list {Fields = Fields} {values = values} {places = places} form AtPlace Shows one are all = by places values are (recursion_from_All AtPlace places all) where
  by : (ps : List Place) (vs : Values) → AreEncodingsOf vs ps → AllByRecursion AtPlace ps → (list : List Fields) × (vs ≡ values_of (map form list)) × AllZip Shows ps list
  by [] vs are all = ([], as_none are refl, tt)
  by (p ∷ ps) vs are all =
      let next = as_more are refl in
      let here = one next.0 p next.3 all.0 in
      let others = by ps next.1 next.4 all.1 in
      (here.0 ∷ others.0, next.2 ∙ ap (λ v. more v next.1) here.1 ∙ ap (more (form here.0)) others.1, (here.2, others.2))

pub of_list : {Fields : Type 0} {values : Values} {places : List Place} (form : Fields → Value) (Is : Fields → Type 0) (Shows : Place → Fields → Type 0)
    → ((fields : Fields) (value : Value) (place : Place) → IsEncodingOf value place → value ≡ form fields → Is fields → Shows place fields)
    → (list : List Fields) → AreEncodingsOf values places → values ≡ values_of (map form list) → All Is list → AllZip Shows places list
of_list {Fields = Fields} {values = values} {places = places} form Is Shows one list are e all = by list values places are e (recursion_from_All Is list all) where
  by : (fs : List Fields) (vs : Values) (ps : List Place) → AreEncodingsOf vs ps → vs ≡ values_of (map form fs) → AllByRecursion Is fs → AllZip Shows ps fs
  by [] vs ps are e all = subst (λ (l : List Place). AllZip Shows l []) (sym (of_none are e)) tt
  by (f ∷ fs) vs ps are e all =
      let next = of_more are e in
      subst (λ (l : List Place). AllZip Shows l (f ∷ fs)) (sym next.2) (one f (form f) next.0 next.3 refl all.0, by fs (values_of (map form fs)) next.1 next.4 refl all.1)

-- the octets of a place are those of its value, for the order of SET OF (X.690, 11.6)
pub octets_are : {value : Value} {place : Place} → IsEncodingOf value place → place.octets ≡ octets_of value
octets_are {value = value} {place = place} is = (encodable value is.depth place.octets is.encodes).1

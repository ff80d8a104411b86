-- The walk of a relative name finds what the standard calls one, and nothing else.
use Rattle.std.proofs.Common.{◌≡◌, ◌≢◌, List, [], ◌∷◌, Ok, refl, sym, ap, ◌∙◌}
use Rattle.std.specs.List.{AllByRecursion}
use Rattle.asn.specs.Members.{Members, members}
use Rattle.asn.specs.Place.{Place}
use Rattle.asn.specs.Walk.{Leads}
use Rattle.asn.proofs.Laws.{bind_ok, is_a_ok, is_a_again, required_ok, required_again, next_or_ok, next_or_again, some_ok, some_again, ended_ok, ended_again, each_ok, each_again}
use Rattle.cert.specs.declared.fault.CertRule.TheVariants.{ExtensionValue}
use Rattle.cert_points.specs.RelativeName.{type_and_value, relative_name, IsTypeAndValue, IsRelativeName}

abbrev IsOne : Unit {0} → Place → Unit {0} → Type 0
IsOne from value to = IsTypeAndValue value

attribute_ok : (from : Unit {0}) (value : Place) (to : Unit {0}) → type_and_value from value ≡ Ok to → IsOne from value to
unfolding type_and_value
attribute_ok from value to e =
    let sequence = bind_ok _ _ to e in
    let type = bind_ok _ _ to sequence.2 in
    let said = bind_ok _ _ to type.2 in
    let first = required_ok _ _ _ _ type.1 in
    let second = next_or_ok _ _ _ said.1 in
    let end = ended_ok _ _ _ said.2 in
    record {
      type = type.0.0;
      said = said.0.0;
      sequence = is_a_ok _ _ _ _ sequence.1;
      members_are = first.values ∙ ap (◌∷◌ type.0.0) (second.values ∙ ap (◌∷◌ said.0.0) end);
      oid = first.tag_is;
    }

attribute_again : (from : Unit {0}) (value : Place) (to : Unit {0}) → IsOne from value to → type_and_value from value ≡ Ok to
unfolding type_and_value
attribute_again from value to is =
    let left : List Place → Members = λ values. record { values = values; end = (members value).end } in
    rw (
      is_a_again 0x30 ExtensionValue value is.sequence,
      required_again 0x06 ExtensionValue (members value) is.type (is.said ∷ []) is.members_are is.oid,
      next_or_again ExtensionValue (left (is.said ∷ [])) is.said [] refl,
      ended_again ExtensionValue (left []) refl,
    ) refl

each_is : (from : Unit {0}) (values : List Place) (to : Unit {0}) → Leads IsOne from values to → AllByRecursion IsTypeAndValue values
each_is from [] to same = tt
each_is from (value ∷ values) to (next, one, others) = (one, each_is next values to others)

is_each : (from : Unit {0}) (values : List Place) → AllByRecursion IsTypeAndValue values → Leads IsOne from values tt
is_each from [] are = refl
is_each from (value ∷ values) are = (tt, are.0, is_each tt values are.1)

first_of : (values : List Place) → values ≢ [] → (value : Place) × (others : List Place) × (values ≡ value ∷ others)
first_of [] some = absurd (some refl)
first_of (value ∷ others) some = (value, others, refl)

pub is_relative : (value : Place) → relative_name value ≡ Ok tt → IsRelativeName value
unfolding relative_name
is_relative value e =
    let relative = bind_ok _ _ tt e in
    let one = bind_ok _ _ tt relative.2 in
    let first = some_ok _ _ _ one.1 in
    record {
      relative = is_a_ok _ _ _ _ relative.1;
      some = λ none. let never : first.0 ∷ first.1 ≡ [] = sym first.2 ∙ none in absurd cc;
      each = each_is tt (members value).values tt (each_ok type_and_value IsOne attribute_ok tt (members value).values tt one.2);
    }

pub relative_is : (value : Place) → IsRelativeName value → relative_name value ≡ Ok tt
unfolding relative_name
relative_is value is =
    let values = (members value).values in
    let first = first_of values is.some in
    rw (is_a_again 0xA1 ExtensionValue value is.relative, some_again ExtensionValue (members value) first.0 first.1 first.2)
    (each_again type_and_value IsOne attribute_again tt values tt (is_each tt values is.each))

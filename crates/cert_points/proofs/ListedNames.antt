-- The walk of general names finds what the standard calls them, and nothing else.
use Rattle.std.proofs.Common.{◌≡◌, ℕ, true, List, [], ◌∷◌, Result, Ok, Err, refl, sym, ap, ◌∙◌, subst}
use Rattle.std.specs.List.{AllZip}
use Rattle.asn.specs.Identifier.{is_constructed}
use Rattle.asn.specs.Members.{Members, members, octets_of_each}
use Rattle.asn.specs.Place.{Place, tag}
use Rattle.asn.specs.Walk.{Leads}
use Rattle.asn.proofs.Laws.{bind_ok, ok_is, check_ok, check_again, some_ok, some_again, each_ok, each_again}
use Rattle.names.specs.NameRule.{NameRule}
use Rattle.names.specs.GeneralLayout.{GeneralName, general}
use Rattle.names.specs.GeneralForms.{IsGeneralName}
use Rattle.names.proofs.Laws.{general_names_are_read}
use Rattle.cert.specs.Fault.{as_name}
use Rattle.cert.specs.declared.fault.CertRule.{CertRule}
use Rattle.cert.specs.declared.fault.CertRule.TheVariants.{ExtensionValue}
use Rattle.cert_points.specs.GeneralNames.{any_general_name, constructed_members, general_names, IsNameWithOctets, AreGeneralNames}
use Rattle.cert_points.proofs.AddedItems.{some_of, is_some_of}

as_name_ok : {A : Type 0} (r : Result A (NameRule × ℕ)) (x : A) → as_name r ≡ Ok x → r ≡ Ok x
as_name_ok (Ok y) x e = cc
as_name_ok (Err fault) x e = absurd cc

-- the value is some general name
abbrev IsSome : Unit {0} → Place → Unit {0} → Type 0
IsSome from value to = (said : GeneralName) × IsGeneralName value said

name_ok : (from : Unit {0}) (value : Place) (to : Unit {0}) → any_general_name from value ≡ Ok to → IsSome from value to
unfolding any_general_name
name_ok from value to e =
    let said = bind_ok (as_name (general value)) _ to e in
    (said.0, (general_names_are_read value said.0).0 (as_name_ok (general value) said.0 said.1))

name_again : (from : Unit {0}) (value : Place) (to : Unit {0}) → IsSome from value to → any_general_name from value ≡ Ok to
unfolding any_general_name
name_again from value to (said, is) = let read = (general_names_are_read value said).1 is in rw read refl

-- by their octets
each_named : (from : Unit {0}) (values : List Place) (to : Unit {0}) → Leads IsSome from values to → AllZip IsNameWithOctets values (octets_of_each values)
each_named from [] to same = tt
each_named from (value ∷ values) to (next, one, others) =
    (record { octets = refl; said = one.0; is_name = one.1 }, each_named next values to others)

named_each : (from : Unit {0}) (values : List Place) (names : List (List ℕ)) → AllZip IsNameWithOctets values names → Leads IsSome from values tt
named_each from [] [] are = refl
named_each from [] (name ∷ names) are = absurd are
named_each from (value ∷ values) [] are = absurd are
named_each from (value ∷ values) (name ∷ names) are = (tt, (are.0.said, are.0.is_name), named_each tt values names are.1)

their_octets : (values : List Place) (names : List (List ℕ)) → AllZip IsNameWithOctets values names → octets_of_each values ≡ names
their_octets [] [] are = refl
their_octets [] (name ∷ names) are = absurd are
their_octets (value ∷ values) [] are = absurd are
their_octets (value ∷ values) (name ∷ names) are =
    ap (λ (octets : List ℕ). octets ∷ octets_of_each values) are.0.octets ∙ ap (◌∷◌ name) (their_octets values names are.1)

-- the values in a constructed value
record Holds (value : Place) (left : Members) : Type 0 where
  form : is_constructed (tag value) ≡ true
  left_is : left ≡ members value

members_ok : (value : Place) (left : Members) → constructed_members value ≡ Ok left → Holds value left
unfolding constructed_members
members_ok value left e =
    let form = bind_ok _ _ left e in
    record { form = check_ok _ _ _ _ form.1; left_is = sym (ok_is {E = CertRule × ℕ} (members value) left form.2) }

members_again : (value : Place) → is_constructed (tag value) ≡ true → constructed_members value ≡ Ok (members value)
unfolding constructed_members
members_again value form = rw (check_again (is_constructed (tag value)) ExtensionValue value.at form) refl

pub are_names : (value : Place) (names : List (List ℕ)) → general_names value ≡ Ok names → AreGeneralNames value names
unfolding general_names
are_names value names e =
    let left = bind_ok _ _ names e in
    let one = bind_ok _ _ names left.2 in
    let all = bind_ok _ _ names one.2 in
    let held = members_ok value left.0 left.1 in
    let first = some_ok _ _ _ one.1 in
    let named = each_named tt left.0.values all.0 (each_ok any_general_name IsSome name_ok tt left.0.values all.0 all.1) in
    let zip : AllZip IsNameWithOctets left.0.values names = subst (AllZip IsNameWithOctets left.0.values) (ok_is {E = CertRule × ℕ} (octets_of_each left.0.values) names all.2) named in
    record {
      form = held.form;
      some = some_of IsNameWithOctets left.0.values names first.0 first.1 first.2 zip;
      each = subst (λ (m : Members). AllZip IsNameWithOctets m.values names) held.left_is zip;
    }

pub names_are : (value : Place) (names : List (List ℕ)) → AreGeneralNames value names → general_names value ≡ Ok names
unfolding general_names
names_are value names are =
    let values = (members value).values in
    let first = is_some_of IsNameWithOctets values names are.each are.some in
    let all = each_again any_general_name IsSome name_again tt values tt (named_each tt values names are.each) in
    rw (members_again value are.form, some_again ExtensionValue (members value) first.0 first.1 first.2, all)
    (ap Ok (their_octets values names are.each))

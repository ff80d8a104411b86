-- The walk of alternative names finds what the standard calls them, and nothing else.
use Rattle.std.proofs.Common.{◌≡◌, ℕ, true, List, length, is_some, Ok, arith, refl, sym, subst}
use Rattle.std.specs.List.{AllZip}
use Rattle.asn.specs.DerLaws.{AreOctets}
use Rattle.asn.specs.Place.{Place, tag, body, body_place}
use Rattle.asn.specs.Members.{members}
use Rattle.asn.proofs.Laws.{bind_ok, ok_is, check_again, is_a_ok, is_a_again}
use Rattle.names.specs.NameRule.TheVariants.{NameLayout}
use Rattle.names.specs.GeneralLayout.{GeneralName, directory_name, dns_name, ip_address, other_name, form_of_identifier, general}
use Rattle.names.specs.GeneralForms.{IsGeneralName}
use Rattle.names.proofs.Laws.{general_names_are_read}
use Rattle.cert.specs.declared.fault.CertRule.{CertRule}
use Rattle.cert.specs.declared.fault.CertRule.TheVariants.{Name, ExtensionValue}
use Rattle.cert.specs.AlternativeNames.{has_name_form, one_more_name, alternative_names, AreAlternativeNames}
use Rattle.cert.proofs.ContainedValues.{contained_ok, contained_again}
use Rattle.cert.proofs.AddedItems.{Adds, RoomBelow, at_most, some_items_ok, some_items_again}
use Rattle.cert.proofs.Rooms.{as_name_ok, room_ok, room_again}

formed : (value : Place) (said : GeneralName) → IsGeneralName value said → is_some (form_of_identifier (tag value)) ≡ true
formed value (directory_name contents) is = rw is.0 refl
formed value (dns_name text) is = rw is.0 refl
formed value (ip_address octets) is = rw is.0 refl
formed value (other_name number contents) is = rw is.0 refl

name_ok : (from : List GeneralName) (value : Place) (to : List GeneralName) → one_more_name from value ≡ Ok to → Adds IsGeneralName (RoomBelow 4096) from value to
unfolding one_more_name
name_ok from value to e =
    let form = bind_ok (has_name_form value) _ to e in
    let room = bind_ok _ _ to form.2 in
    let name = bind_ok _ _ to room.2 in
    record {
      item = name.0;
      is_item = (general_names_are_read value name.0).0 (as_name_ok (general value) name.0 name.1);
      room = room_ok 4096 (length from) value.at room.0 room.1;
      added = sym (ok_is {E = CertRule × ℕ} _ to name.2);
    }

name_again : (from : List GeneralName) (value : Place) (to : List GeneralName) → Adds IsGeneralName (RoomBelow 4096) from value to → one_more_name from value ≡ Ok to
unfolding one_more_name has_name_form
name_again from value to adds =
    let read = (general_names_are_read value adds.item).1 adds.is_item in
    rw (check_again (is_some (form_of_identifier (tag value))) (Name NameLayout) value.at (formed value adds.item adds.is_item), room_again 4096 (length from) value.at adds.room, read, ← adds.added) refl

pub are_alternative_names : (octet_string : Place) (names : List GeneralName) → AreOctets (body octet_string) → alternative_names octet_string ≡ Ok names → AreAlternativeNames octet_string names
unfolding alternative_names
are_alternative_names octet_string names fits e =
    let value = bind_ok _ _ names e in
    let sequence = bind_ok _ _ names value.2 in
    let held = contained_ok octet_string value.0 fits value.1 in
    let found = some_items_ok one_more_name IsGeneralName (RoomBelow 4096) name_ok ExtensionValue (members value.0) names sequence.2 in
    record {
      whole = held.1;
      sequence = subst (λ (p : Place). tag p ≡ 0x30) held.0 (is_a_ok _ _ _ _ sequence.1);
      some = found.one;
      served = at_most (length names) 4096 found.room;
      each = subst (λ (p : Place). AllZip IsGeneralName (members p).values names) held.0 found.are_items;
    }

pub alternative_names_are : (octet_string : Place) (names : List GeneralName) → AreAlternativeNames octet_string names → alternative_names octet_string ≡ Ok names
unfolding alternative_names
alternative_names_are octet_string names are =
    let served = are.served in
    rw (contained_again octet_string are.whole, is_a_again 0x30 ExtensionValue (body_place octet_string) are.sequence)
    (some_items_again one_more_name IsGeneralName (RoomBelow 4096) name_again ExtensionValue (members (body_place octet_string)) names record { one = are.some; are_items = are.each; room = λ k high. omega arith })

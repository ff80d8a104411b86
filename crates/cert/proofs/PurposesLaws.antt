-- The walk of purposes finds what the standard calls them, and nothing else.
use Rattle.std.proofs.Common.{◌≡◌, ℕ, List, Ok, refl, sym, subst}
use Rattle.std.specs.List.{AllZip}
use Rattle.asn.specs.DerLaws.{AreOctets}
use Rattle.asn.specs.Place.{Place, tag, body, body_place}
use Rattle.asn.specs.Members.{members}
use Rattle.asn.proofs.Laws.{bind_ok, ok_is, is_a_ok, is_a_again}
use Rattle.cert.specs.declared.fault.CertRule.{CertRule}
use Rattle.cert.specs.declared.fault.CertRule.TheVariants.{ExtensionValue}
use Rattle.cert.specs.Purposes.{one_more_purpose, purposes, IsPurpose, ArePurposes}
use Rattle.cert.proofs.ContainedValues.{contained_ok, contained_again}
use Rattle.cert.proofs.AddedItems.{Adds, AnyRoom, some_items_ok, some_items_again}

purpose_ok : (from : List (List ℕ)) (value : Place) (to : List (List ℕ)) → one_more_purpose from value ≡ Ok to → Adds IsPurpose AnyRoom from value to
unfolding one_more_purpose
purpose_ok from value to e =
    let identifier = bind_ok _ _ to e in
    record {
      item = body value;
      is_item = (is_a_ok _ _ _ _ identifier.1, refl);
      room = tt;
      added = sym (ok_is {E = CertRule × ℕ} _ to identifier.2);
    }

purpose_again : (from : List (List ℕ)) (value : Place) (to : List (List ℕ)) → Adds IsPurpose AnyRoom from value to → one_more_purpose from value ≡ Ok to
unfolding one_more_purpose
purpose_again from value to adds = rw (is_a_again 0x06 ExtensionValue value adds.is_item.0, adds.is_item.1, ← adds.added) refl

pub are_purposes : (octet_string : Place) (oids : List (List ℕ)) → AreOctets (body octet_string) → purposes octet_string ≡ Ok oids → ArePurposes octet_string oids
unfolding purposes
are_purposes octet_string oids fits e =
    let value = bind_ok _ _ oids e in
    let sequence = bind_ok _ _ oids value.2 in
    let held = contained_ok octet_string value.0 fits value.1 in
    let found = some_items_ok one_more_purpose IsPurpose AnyRoom purpose_ok ExtensionValue (members value.0) oids sequence.2 in
    record {
      whole = held.1;
      sequence = subst (λ (p : Place). tag p ≡ 0x30) held.0 (is_a_ok _ _ _ _ sequence.1);
      some = found.one;
      each = subst (λ (p : Place). AllZip IsPurpose (members p).values oids) held.0 found.are_items;
    }

pub purposes_are : (octet_string : Place) (oids : List (List ℕ)) → ArePurposes octet_string oids → purposes octet_string ≡ Ok oids
unfolding purposes
purposes_are octet_string oids are =
    rw (contained_again octet_string are.whole, is_a_again 0x30 ExtensionValue (body_place octet_string) are.sequence)
    (some_items_again one_more_purpose IsPurpose AnyRoom purpose_again ExtensionValue (members (body_place octet_string)) oids record { one = are.some; are_items = are.each; room = λ k high. tt })

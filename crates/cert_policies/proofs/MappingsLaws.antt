-- The walk of policy mappings finds what the standard calls them, and nothing else.
use Rattle.std.proofs.Common.{◌≡◌, ℕ, List, [], ◌∷◌, Ok, refl, sym, ap, ◌∙◌, subst}
use Rattle.std.specs.List.{AllZip}
use Rattle.asn.specs.DerLaws.{AreOctets}
use Rattle.asn.specs.Place.{Place, tag, body, body_place}
use Rattle.asn.specs.Members.{Members, members}
use Rattle.asn.proofs.Laws.{bind_ok, ok_is, is_a_ok, is_a_again, required_ok, required_again, ended_ok, ended_again}
use Rattle.cert.specs.declared.fault.CertRule.{CertRule}
use Rattle.cert.specs.declared.fault.CertRule.TheVariants.{ExtensionValue}
use Rattle.cert_policies.specs.PolicyExtensions.{PolicyMapping}
use Rattle.cert_policies.specs.PolicyMappings.{policy_mapping, one_more_mapping, policy_mappings, IsPolicyMapping, ArePolicyMappings}
use Rattle.cert_policies.proofs.ContainedValues.{contained_ok, contained_again}
use Rattle.cert_policies.proofs.AddedItems.{Adds, some_items_ok, some_items_again}

is_mapping : (value : Place) (mapping : PolicyMapping) → policy_mapping value ≡ Ok mapping → IsPolicyMapping value mapping
unfolding policy_mapping
is_mapping value mapping e =
    let sequence = bind_ok _ _ mapping e in
    let issuer = bind_ok _ _ mapping sequence.2 in
    let subject = bind_ok _ _ mapping issuer.2 in
    let done = bind_ok _ _ mapping subject.2 in
    let first = required_ok _ _ _ _ issuer.1 in
    let second = required_ok _ _ _ _ subject.1 in
    let end = ended_ok _ _ _ done.1 in
    subst (IsPolicyMapping value) (ok_is {E = CertRule × ℕ} _ mapping done.2) record {
      issuer = issuer.0.0;
      subject = subject.0.0;
      sequence = is_a_ok _ _ _ _ sequence.1;
      members_are = first.values ∙ ap (◌∷◌ issuer.0.0) (second.values ∙ ap (◌∷◌ subject.0.0) end);
      issuer_oid = first.tag_is;
      subject_oid = second.tag_is;
      issuer_is = refl;
      subject_is = refl;
    }

mapping_is : (value : Place) (mapping : PolicyMapping) → IsPolicyMapping value mapping → policy_mapping value ≡ Ok mapping
unfolding policy_mapping
mapping_is value mapping is =
    let left : List Place → Members = λ values. record { values = values; end = (members value).end } in
    rw (is_a_again 0x30 ExtensionValue value is.sequence, required_again 0x06 ExtensionValue (members value) is.issuer (is.subject ∷ []) is.members_are is.issuer_oid, required_again 0x06 ExtensionValue (left (is.subject ∷ [])) is.subject [] refl is.subject_oid, ended_again ExtensionValue (left []) refl, ← is.issuer_is, ← is.subject_is) refl

added_ok : (from : List PolicyMapping) (value : Place) (to : List PolicyMapping) → one_more_mapping from value ≡ Ok to → Adds IsPolicyMapping from value to
unfolding one_more_mapping
added_ok from value to e =
    let mapping = bind_ok _ _ to e in
    record { item = mapping.0; is_item = is_mapping value mapping.0 mapping.1; added = sym (ok_is {E = CertRule × ℕ} _ to mapping.2) }

added_again : (from : List PolicyMapping) (value : Place) (to : List PolicyMapping) → Adds IsPolicyMapping from value to → one_more_mapping from value ≡ Ok to
unfolding one_more_mapping
added_again from value to adds = rw (mapping_is value adds.item adds.is_item, ← adds.added) refl

pub are_mappings : (octet_string : Place) (mappings : List PolicyMapping) → AreOctets (body octet_string) → policy_mappings octet_string ≡ Ok mappings → ArePolicyMappings octet_string mappings
unfolding policy_mappings
are_mappings octet_string mappings fits e =
    let value = bind_ok _ _ mappings e in
    let sequence = bind_ok _ _ mappings value.2 in
    let held = contained_ok octet_string value.0 fits value.1 in
    let found = some_items_ok one_more_mapping IsPolicyMapping added_ok ExtensionValue (members value.0) mappings sequence.2 in
    record {
      whole = held.1;
      sequence = subst (λ (p : Place). tag p ≡ 0x30) held.0 (is_a_ok _ _ _ _ sequence.1);
      some = found.one;
      each = subst (λ (p : Place). AllZip IsPolicyMapping (members p).values mappings) held.0 found.are_items;
    }

pub mappings_are : (octet_string : Place) (mappings : List PolicyMapping) → ArePolicyMappings octet_string mappings → policy_mappings octet_string ≡ Ok mappings
unfolding policy_mappings
mappings_are octet_string mappings are =
    rw (contained_again octet_string are.whole, is_a_again 0x30 ExtensionValue (body_place octet_string) are.sequence)
    (some_items_again one_more_mapping IsPolicyMapping added_again ExtensionValue (members (body_place octet_string)) mappings record { one = are.some; are_items = are.each })

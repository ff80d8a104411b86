-- What is read of the values of a certificate's extensions is, field by field, what they say of policies.
use Rattle.std.proofs.Common.{◌≡◌, ◌↔◌, ℕ, List, [], Option, Some, None, Result, Ok, refl, sym, ap, ◌∙◌, subst}
use Rattle.asn.specs.DerLaws.{AreOctets}
use Rattle.asn.specs.Place.{Place, body}
use Rattle.asn.specs.Walk.{◌>>=◌}
use Rattle.asn.proofs.Laws.{bind_ok, ok_is}
use Rattle.cert.specs.declared.extension_kind.ExtensionKind.{ExtensionKind}
use Rattle.cert.specs.declared.extension_kind.ExtensionKind.TheVariants as Kind
use Rattle.cert.specs.declared.fault.CertRule.{CertRule}
use Rattle.cert.specs.Certificate.{Certificate}
use Rattle.cert.specs.CertificateForms.{IsCertificate}
use Rattle.cert.specs.ExtensionValues.{ExtensionValues, SaysIfThere, value_of}
use Rattle.cert.proofs.KeptValues.{says_if_there}
use Rattle.cert.proofs.StandingValues.{value_octets}
use Rattle.cert_policies.specs.PolicyExtensions.{PolicyMapping, PolicyExtensions}
use Rattle.cert_policies.specs.CertificatePolicies.{certificate_policies, AreCertificatePolicies}
use Rattle.cert_policies.specs.PolicyMappings.{policy_mappings, ArePolicyMappings}
use Rattle.cert_policies.specs.PolicyConstraints.{PolicyConstraints, policy_constraints, ArePolicyConstraints}
use Rattle.cert_policies.specs.InhibitAnyPolicy.{inhibit_any_policy, IsInhibitAnyPolicy}
use Rattle.cert_policies.specs.PolicyReading.{any_policy_if_there, constraints_if_there, mappings_if_there, no_constraints, policies_if_there, policy_extensions, some_count, some_policies}
use Rattle.cert_policies.specs.PolicyFields.{SaysPolicies, SaysInhibitAnyPolicy, constraints_in, ArePolicyFields, PolicyExtensionsAreByField}
use Rattle.cert_policies.proofs.PoliciesLaws.{are_policies, policies_are}
use Rattle.cert_policies.proofs.MappingsLaws.{are_mappings, mappings_are}
use Rattle.cert_policies.proofs.ConstraintsLaws.{are_constraints, constraints_are}
use Rattle.cert_policies.proofs.AnyPolicyLaws.{is_inhibit_any_policy, inhibit_any_policy_is}

-- what is read and wrapped is what is said and wrapped
wrapped : {X : Type 0} (read : Place → Result X (CertRule × ℕ)) (Is : Place → X → Type 0) (value : Place) (field : Option X)
    → ((x : X) → (read value ≡ Ok x) ↔ Is value x) → ((read value >>= λ x. Ok (Some x)) ≡ Ok field) ↔ ((x : X) × Is value x × (field ≡ Some x))
wrapped read Is value field exact = (
  λ e. let found = bind_ok (read value) (λ x. Ok (Some x)) field e in (found.0, (exact found.0).0 found.1, sym (ok_is {E = CertRule × ℕ} (Some found.0) field found.2)),
  λ (x, is, same). rw ((exact x).1 is, same) refl,
)

module _ (values : ExtensionValues) (octets : (kind : ExtensionKind) (value : Place) → value_of kind values ≡ Some value → AreOctets (body value)) where
  policies_say : (field : Option (List (List ℕ))) → (policies_if_there values.policies ≡ Ok field) ↔ SaysIfThere values.policies SaysPolicies None field
  policies_say field = says_if_there SaysPolicies some_policies None field values.policies
      (λ value is. wrapped certificate_policies AreCertificatePolicies value field (λ policies. (are_policies value policies (octets Kind.Policies value is), policies_are value policies)))

  mappings_say : (field : List PolicyMapping) → (mappings_if_there values.policy_mappings ≡ Ok field) ↔ SaysIfThere values.policy_mappings ArePolicyMappings [] field
  mappings_say field = says_if_there ArePolicyMappings policy_mappings [] field values.policy_mappings
      (λ value is. (are_mappings value field (octets Kind.PolicyMappings value is), mappings_are value field))

  constraints_say : (field : PolicyConstraints) → (constraints_if_there values.policy_constraints ≡ Ok field) ↔ SaysIfThere values.policy_constraints ArePolicyConstraints no_constraints field
  constraints_say field = says_if_there ArePolicyConstraints policy_constraints no_constraints field values.policy_constraints
      (λ value is. (are_constraints value field (octets Kind.PolicyConstraints value is), constraints_are value field (octets Kind.PolicyConstraints value is)))

  count_says : (field : Option ℕ) → (any_policy_if_there values.inhibit_any_policy ≡ Ok field) ↔ SaysIfThere values.inhibit_any_policy SaysInhibitAnyPolicy None field
  count_says field = says_if_there SaysInhibitAnyPolicy some_count None field values.inhibit_any_policy
      (λ value is. wrapped inhibit_any_policy IsInhibitAnyPolicy value field
      (λ count. (is_inhibit_any_policy value count (octets Kind.InhibitAnyPolicy value is), inhibit_any_policy_is value count (octets Kind.InhibitAnyPolicy value is))))

  are_said : (fields : PolicyExtensions) → policy_extensions values ≡ Ok fields → ArePolicyFields values fields
  unfolding policy_extensions
  are_said fields e =
      let policies = bind_ok _ _ fields e in
      let mappings = bind_ok _ _ fields policies.2 in
      let constraints = bind_ok _ _ fields mappings.2 in
      let count = bind_ok _ _ fields constraints.2 in
      let made = ok_is {E = CertRule × ℕ} _ fields count.2 in
      subst (ArePolicyFields values) made record {
        policies = (policies_say policies.0).0 policies.1;
        mappings = (mappings_say mappings.0).0 mappings.1;
        constraints = (constraints_say constraints.0).0 constraints.1;
        inhibit_any_policy = (count_says count.0).0 count.1;
      }

  said_are : (fields : PolicyExtensions) → ArePolicyFields values fields → policy_extensions values ≡ Ok fields
  unfolding policy_extensions
  said_are fields are =
      let policies = (policies_say fields.policies).1 are.policies in
      let mappings = (mappings_say fields.mappings).1 are.mappings in
      let constraints = (constraints_say (constraints_in fields)).1 are.constraints in
      let count = (count_says fields.inhibit_any_policy).1 are.inhibit_any_policy in
      rw (policies, mappings, constraints, count) refl

pub policies_by_field : PolicyExtensionsAreByField
policies_by_field octets certificate fields fits is =
    let values = certificate.extensions.values in
    let inside = value_octets octets certificate fits is in
    (are_said values inside fields, said_are values inside fields)

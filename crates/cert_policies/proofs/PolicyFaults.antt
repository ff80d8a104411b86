-- The faults that are found where the extensions of a certificate that was read are read for what they say of policies.
use Rattle.std.proofs.Common.{Result, ◌≡◌, ℕ, List, [], ◌∷◌, ◌++◌, append-nil, not, Option, Some, None, refl, sym, ap, ◌∙◌, subst, inl, inr, map}
use Rattle.std.specs.List.{AllZip}
use Rattle.std.specs.FinSet.{contains}
use Rattle.asn.specs.DerLaws.{AreOctets}
use Rattle.asn.specs.Identifier.{is_constructed}
use Rattle.asn.specs.Members.{Members, members}
use Rattle.asn.specs.Outermost.{nested}
use Rattle.asn.specs.Place.{Place, tag, body}
use Rattle.asn.specs.Walk.{check_that, is_a, required, optional, some, ended, each}
use Rattle.asn.proofs.Laws.{IsEncodedPart, AllParts}
use Rattle.cert.specs.declared.fault.CertRule.{CertRule}
use Rattle.cert.specs.Fault.{as_der}
use Rattle.cert.specs.declared.fault.CertRule.TheVariants.{ExtensionValue}
use Rattle.cert.specs.BasicConstraints.{is_negative}
use Rattle.cert.specs.declared.extension_kind.ExtensionKind.TheVariants as Kind
use Rattle.cert.specs.ExtensionValues.{read_if_there}
use Rattle.cert.proofs.StandingValues.{value_stands}
use Rattle.cert.specs.Certificate.{Certificate}
use Rattle.cert_policies.specs.PolicyExtensions.{PolicyMapping, PolicyExtensions}
use Rattle.cert_policies.specs.CertificatePolicies.{policy_information, Stated, none_stated, one_more_policy, certificate_policies}
use Rattle.cert_policies.specs.PolicyMappings.{policy_mapping, one_more_mapping, policy_mappings}
use Rattle.cert_policies.specs.PolicyConstraints.{is_skip_count, skip_count, skip_certs_in, skip_certs, policy_constraints}
use Rattle.cert_policies.specs.InhibitAnyPolicy.{inhibit_any_policy}
use Rattle.cert_policies.specs.PolicyReading.{any_policy_if_there, constraints_if_there, mappings_if_there, no_constraints, policies_if_there, policy_extensions, some_count, some_policies}
use Rattle.cert_policies.specs.Offsets.{PolicyFaultIsOfValue}
use Rattle.cert_policies.proofs.FaultSteps.{Left, members_left, Within, Any, and_then, refused, check_within, is_a_within, Behind, required_within, StandsWhereThere, optional_stands, ended_within, some_within, each_within, nested_within}

-- the value inside an OCTET STRING, which is a SEQUENCE
abbrev IsSequence : Place → Type 0
IsSequence value = tag value ≡ 0x30

inside : (text : List ℕ) (value : Place) → IsSequence value → IsEncodedPart text value → Left text (members value)
inside text value sequence is = members_left text value (ap is_constructed sequence) is

-- certificatePolicies
information_within : (text : List ℕ) (value : Place) → IsEncodedPart text value → Within text Any (policy_information value)
unfolding policy_information
information_within text value is =
    and_then text (λ _. IsSequence value) Any (is_a 0x30 ExtensionValue value) _ (is_a_within text 0x30 value is) (λ _ sequence.
    and_then text (Behind text) Any (required 0x06 ExtensionValue (members value)) _ (required_within text 0x06 (members value) (inside text value sequence is)) (λ policy rest.
    and_then text Any Any (ended ExtensionValue (optional 0x30 policy.1).1) _ (ended_within text (optional 0x30 policy.1).1 (optional_stands text 0x30 policy.1 rest).1) (λ _ _. tt)))

one_policy_within : (text : List ℕ) (earlier : Stated) (value : Place) → IsEncodedPart text value → Within text Any (one_more_policy earlier value)
unfolding one_more_policy
one_policy_within text earlier value is =
    and_then text Any Any (policy_information value) _ (information_within text value is) (λ policy _.
    and_then text Any Any (check_that (not (contains earlier.set policy)) ExtensionValue value.at) _ (check_within text (not (contains earlier.set policy)) value is) (λ _ _. tt))

policies_within : (text : List ℕ) (value : Place) → AreOctets text → IsEncodedPart text value → Within text Any (certificate_policies value)
unfolding certificate_policies
policies_within text value octets is =
    and_then text (IsEncodedPart text) Any (as_der (nested value)) _ (nested_within text value octets is) (λ inner whole.
    and_then text (λ _. IsSequence inner) Any (is_a 0x30 ExtensionValue inner) _ (is_a_within text 0x30 inner whole) (λ _ sequence.
    let left = inside text inner sequence whole in
    and_then text Any Any (some ExtensionValue (members inner)) _ (some_within text (members inner) left) (λ _ _.
    and_then text Any Any (each one_more_policy none_stated ((members inner).values)) _ (each_within text one_more_policy (one_policy_within text) none_stated ((members inner).values) left.parts) (λ _ _. tt))))

-- policyMappings
mapping_within : (text : List ℕ) (value : Place) → IsEncodedPart text value → Within text Any (policy_mapping value)
unfolding policy_mapping
mapping_within text value is =
    and_then text (λ _. IsSequence value) Any (is_a 0x30 ExtensionValue value) _ (is_a_within text 0x30 value is) (λ _ sequence.
    and_then text (Behind text) Any (required 0x06 ExtensionValue (members value)) _ (required_within text 0x06 (members value) (inside text value sequence is)) (λ issuer rest.
    and_then text (Behind text) Any (required 0x06 ExtensionValue issuer.1) _ (required_within text 0x06 issuer.1 rest) (λ subject last.
    and_then text Any Any (ended ExtensionValue subject.1) _ (ended_within text subject.1 last) (λ _ _. tt))))

one_mapping_within : (text : List ℕ) (earlier : List PolicyMapping) (value : Place) → IsEncodedPart text value → Within text Any (one_more_mapping earlier value)
unfolding one_more_mapping
one_mapping_within text earlier value is = and_then text Any Any (policy_mapping value) _ (mapping_within text value is) (λ _ _. tt)

mappings_within : (text : List ℕ) (value : Place) → AreOctets text → IsEncodedPart text value → Within text Any (policy_mappings value)
unfolding policy_mappings
mappings_within text value octets is =
    and_then text (IsEncodedPart text) Any (as_der (nested value)) _ (nested_within text value octets is) (λ inner whole.
    and_then text (λ _. IsSequence inner) Any (is_a 0x30 ExtensionValue inner) _ (is_a_within text 0x30 inner whole) (λ _ sequence.
    let left = inside text inner sequence whole in
    and_then text Any Any (some ExtensionValue (members inner)) _ (some_within text (members inner) left) (λ _ _.
    each_within text one_more_mapping (one_mapping_within text) [] ((members inner).values) left.parts)))

-- policyConstraints
count_within : (text : List ℕ) (value : Place) → IsEncodedPart text value → Within text Any (skip_count value)
unfolding skip_count
count_within text value is = and_then text Any Any (check_that (is_skip_count (body value)) ExtensionValue value.at) _ (check_within text (is_skip_count (body value)) value is) (λ _ _. tt)

skip_certs_within : (text : List ℕ) (identifier : ℕ) (left : Members) → Left text left → Within text (Behind text) (skip_certs identifier left)
unfolding skip_certs
skip_certs_within text identifier left is = let o = optional_stands text identifier left is in by (optional identifier left).0 (optional identifier left).1 o.0 o.1
  where
    by : (found : Option Place) (others : Members) → StandsWhereThere text found → Left text others → Within text (Behind text) (skip_certs_in found others)
    by None others here rest = rest
    by (Some value) others here rest = and_then text Any (Behind text) (skip_count value) _ (count_within text value here) (λ _ _. rest)

constraints_within : (text : List ℕ) (value : Place) → AreOctets text → IsEncodedPart text value → Within text Any (policy_constraints value)
unfolding policy_constraints
constraints_within text value octets is =
    and_then text (IsEncodedPart text) Any (as_der (nested value)) _ (nested_within text value octets is) (λ inner whole.
    and_then text (λ _. IsSequence inner) Any (is_a 0x30 ExtensionValue inner) _ (is_a_within text 0x30 inner whole) (λ _ sequence.
    let left = inside text inner sequence whole in
    and_then text Any Any (some ExtensionValue (members inner)) _ (some_within text (members inner) left) (λ _ _.
    and_then text (Behind text) Any (skip_certs 0x80 (members inner)) _ (skip_certs_within text 0x80 (members inner) left) (λ explicit rest.
    and_then text (Behind text) Any (skip_certs 0x81 explicit.1) _ (skip_certs_within text 0x81 explicit.1 rest) (λ mapping last.
    and_then text Any Any (ended ExtensionValue mapping.1) _ (ended_within text mapping.1 last) (λ _ _. tt))))))

-- inhibitAnyPolicy
any_policy_within : (text : List ℕ) (value : Place) → AreOctets text → IsEncodedPart text value → Within text Any (inhibit_any_policy value)
unfolding inhibit_any_policy
any_policy_within text value octets is =
    and_then text (IsEncodedPart text) Any (as_der (nested value)) _ (nested_within text value octets is) (λ inner whole.
    and_then text (λ _. tag inner ≡ 0x02) Any (is_a 0x02 ExtensionValue inner) _ (is_a_within text 0x02 inner whole) (λ _ _.
    and_then text Any Any (check_that (not (is_negative (body inner))) ExtensionValue inner.at) _ (check_within text (not (is_negative (body inner))) inner whole) (λ _ _. tt)))

-- a value that may be there
there_within : {X : Type 0} (text : List ℕ) (nothing : X) (read : Place → Result X (CertRule × ℕ)) (value : Option Place) → ((there : Place) → value ≡ Some there → Within text Any (read there)) → Within text Any (read_if_there nothing read value)
there_within text nothing read None one = tt
there_within text nothing read (Some there) one = one there refl

pub policy_fault_is_of_value : PolicyFaultIsOfValue
unfolding policy_extensions
policy_fault_is_of_value octets certificate rule at fits is e =
    let values = certificate.extensions.values in
    let stands = value_stands octets certificate fits is in
    refused octets Any (policy_extensions values) rule at
    (and_then octets Any Any (policies_if_there values.policies) _ (there_within octets None some_policies values.policies
    (λ value is. and_then octets Any Any (certificate_policies value) _ (policies_within octets value fits (stands Kind.Policies value is)) (λ _ _. tt))) (λ policies _.
    and_then octets Any Any (mappings_if_there values.policy_mappings) _ (there_within octets [] policy_mappings values.policy_mappings
    (λ value is. mappings_within octets value fits (stands Kind.PolicyMappings value is))) (λ mappings _.
    and_then octets Any Any (constraints_if_there values.policy_constraints) _ (there_within octets no_constraints policy_constraints values.policy_constraints
    (λ value is. constraints_within octets value fits (stands Kind.PolicyConstraints value is))) (λ constraints _.
    and_then octets Any Any (any_policy_if_there values.inhibit_any_policy) _ (there_within octets None some_count values.inhibit_any_policy
    (λ value is. and_then octets Any Any (inhibit_any_policy value) _ (any_policy_within octets value fits (stands Kind.InhibitAnyPolicy value is)) (λ _ _. tt))) (λ count _. tt))))) e

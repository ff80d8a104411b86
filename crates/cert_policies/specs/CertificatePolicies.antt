-- certificatePolicies (RFC 5280, 4.2.1.4): SEQUENCE SIZE (1..MAX) OF PolicyInformation
use Rattle.std.specs.Prelude.{◌≡◌, ◌≢◌, ◌<◌, ◌↔◌, ℕ, not, List, [], ◌∷◌, ◌++◌, length, Result, Ok}
use Rattle.std.specs.List.{AllZip, AllPairs}
use Rattle.std.specs.FinSet.{empty, contains, insert}
use Rattle.asn.specs.declared.tlv.Tlv.{Tlv}
use Rattle.asn.specs.DerLaws.{AreOctets}
use Rattle.asn.specs.Part.{IsWhole}
use Rattle.asn.specs.Place.{Place, seen_tlv, tag, body, body_place}
use Rattle.asn.specs.Members.{Members, members}
use Rattle.asn.specs.Walk.{◌>>=◌, check_that, is_a, required, optional, some, ended, each}
use Rattle.asn.specs.Outermost.{nested}
use Rattle.cert.specs.Fault.{as_der, GivesUnlessFull}
use Rattle.cert.specs.OidSet.{Oids, oids_in}
use Rattle.cert.specs.declared.fault.CertFault.{CertFault}
use Rattle.cert.specs.declared.fault.CertRule.{CertRule}
use Rattle.cert.specs.declared.fault.CertRule.TheVariants.{ExtensionValue}
use Rattle.cert_policies.specs.declared.policies.Stated as code
use Rattle.cert_policies.specs.PolicyExtensions.{seen_policies}

-- SEQUENCE { policyIdentifier OBJECT IDENTIFIER, policyQualifiers SEQUENCE SIZE (1..MAX) OF PolicyQualifierInfo OPTIONAL }, of which the
-- qualifiers are passed over
unfoldable pub policy_information : Place → Result (List ℕ) (CertRule × ℕ)
policy_information value = do
  sequence ← is_a 0x30 ExtensionValue value
  policy ← required 0x06 ExtensionValue (members value)
  done ← ended ExtensionValue (optional 0x30 policy.1).1
  Ok (body policy.0)

-- The policies that were stated, as a set, and in order.
pub record Stated : Type 0 where
  pub set : Oids
  pub policies : List (List ℕ)

abbrev pub seen_stated : code.Stated → Stated
seen_stated read = record { set = oids_in read.set; policies = seen_policies read.policies }

abbrev pub none_stated : Stated
none_stated = record { set = empty; policies = [] }

-- One more, which none of the earlier ones is.
unfoldable pub one_more_policy : Stated → Place → Result Stated (CertRule × ℕ)
one_more_policy earlier value = do
  policy ← policy_information value
  new ← check_that (not (contains earlier.set policy)) ExtensionValue value.at
  Ok (record { set = insert earlier.set policy; policies = earlier.policies ++ policy ∷ [] })

-- The checks in their order.
unfoldable pub certificate_policies : Place → Result (List (List ℕ)) (CertRule × ℕ)
certificate_policies octet_string = do
  value ← as_der (nested octet_string)
  sequence ← is_a 0x30 ExtensionValue value
  one ← some ExtensionValue (members value)
  stated ← each one_more_policy none_stated ((members value).values)
  Ok (stated.policies)

-- policyQualifiers: nothing, or a SEQUENCE, whatever is in it
abbrev pub AreQualifiers : List Place → Type 0
AreQualifiers [] = Unit {0}
AreQualifiers (value ∷ []) = tag value ≡ 0x30
AreQualifiers (value ∷ other ∷ values) = ⊥

-- The value is a SEQUENCE of the OBJECT IDENTIFIER of this policy, and of qualifiers or nothing.
pub record IsPolicyInformation (value : Place) (policy : List ℕ) : Type 0 where
  pub identifier : Place
  pub qualifiers : List Place
  pub sequence : tag value ≡ 0x30
  pub members_are : (members value).values ≡ identifier ∷ qualifiers
  pub oid : tag identifier ≡ 0x06
  pub policy_is : body identifier ≡ policy
  pub qualifiers_are : AreQualifiers qualifiers

-- The contents of the OCTET STRING are a SEQUENCE of these policies, one for one, and there is one; none is stated twice.
pub record AreCertificatePolicies (octet_string : Place) (policies : List (List ℕ)) : Type 0 where
  pub whole : IsWhole (body octet_string)
  pub sequence : tag (body_place octet_string) ≡ 0x30
  pub some : 0 < length policies
  pub each : AllZip IsPolicyInformation (members (body_place octet_string)).values policies
  pub once : AllPairs (λ one other. one ≢ other) policies

abbrev pub CertificatePoliciesAreExact : Type 0
CertificatePoliciesAreExact =
    (octet_string : Place) (policies : List (List ℕ)) → AreOctets (body octet_string) →
    (certificate_policies octet_string ≡ Ok policies) ↔ AreCertificatePolicies octet_string policies

-- all policies, in order
abbrev pub all_policies : Members → Result Stated (CertRule × ℕ)
all_policies left = each one_more_policy none_stated left.values

-- The policies before and after one more is read.
abbrev pub AddsPolicy : Tlv → code.Stated → code.Stated → Result (Unit {0}) CertFault → Type 0
AddsPolicy value old new result = GivesUnlessFull (λ _. seen_stated new) result (one_more_policy (seen_stated old) (seen_tlv value))

-- policyMappings (RFC 5280, 4.2.1.5):
-- SEQUENCE SIZE (1..MAX) OF SEQUENCE { issuerDomainPolicy OBJECT IDENTIFIER, subjectDomainPolicy OBJECT IDENTIFIER }
use Rattle.std.specs.Prelude.{◌≡◌, ◌<◌, ◌↔◌, ℕ, List, [], ◌∷◌, ◌++◌, length, Result, Ok}
use Rattle.std.specs.List.{AllZip}
use Rattle.std.specs.Global.{Vec}
use Rattle.asn.specs.declared.tlv.Tlv.{Tlv}
use Rattle.asn.specs.DerLaws.{AreOctets}
use Rattle.asn.specs.Part.{IsWhole}
use Rattle.asn.specs.Place.{Place, seen_tlv, tag, body, body_place}
use Rattle.asn.specs.Members.{Members, members}
use Rattle.asn.specs.Walk.{◌>>=◌, is_a, required, some, ended, each}
use Rattle.asn.specs.Outermost.{nested}
use Rattle.cert.specs.Fault.{as_der, GivesUnlessFull}
use Rattle.cert.specs.declared.fault.CertFault.{CertFault}
use Rattle.cert.specs.declared.fault.CertRule.{CertRule}
use Rattle.cert.specs.declared.fault.CertRule.TheVariants.{ExtensionValue}
use Rattle.cert_policies.specs.declared.mappings.PolicyMapping as code
use Rattle.cert_policies.specs.PolicyExtensions.{PolicyMapping, seen_mappings}

unfoldable pub policy_mapping : Place → Result PolicyMapping (CertRule × ℕ)
policy_mapping value = do
  sequence ← is_a 0x30 ExtensionValue value
  issuer ← required 0x06 ExtensionValue (members value)
  subject ← required 0x06 ExtensionValue issuer.1
  done ← ended ExtensionValue subject.1
  Ok (record { issuer_domain_policy = body issuer.0; subject_domain_policy = body subject.0 })

-- the mappings with one more
unfoldable pub one_more_mapping : List PolicyMapping → Place → Result (List PolicyMapping) (CertRule × ℕ)
one_more_mapping earlier value = policy_mapping value >>= λ mapping. Ok (earlier ++ mapping ∷ [])

-- The checks in their order.
unfoldable pub policy_mappings : Place → Result (List PolicyMapping) (CertRule × ℕ)
policy_mappings octet_string = do
  value ← as_der (nested octet_string)
  sequence ← is_a 0x30 ExtensionValue value
  one ← some ExtensionValue (members value)
  each one_more_mapping [] ((members value).values)

-- The value is a SEQUENCE of two OBJECT IDENTIFIERs: that of the issuer's domain, and that of the subject's.
pub record IsPolicyMapping (value : Place) (mapping : PolicyMapping) : Type 0 where
  pub issuer : Place
  pub subject : Place
  pub sequence : tag value ≡ 0x30
  pub members_are : (members value).values ≡ issuer ∷ subject ∷ []
  pub issuer_oid : tag issuer ≡ 0x06
  pub subject_oid : tag subject ≡ 0x06
  pub issuer_is : mapping.issuer_domain_policy ≡ body issuer
  pub subject_is : mapping.subject_domain_policy ≡ body subject

-- The contents of the OCTET STRING are a SEQUENCE of these mappings, one for one, and there is one.
pub record ArePolicyMappings (octet_string : Place) (mappings : List PolicyMapping) : Type 0 where
  pub whole : IsWhole (body octet_string)
  pub sequence : tag (body_place octet_string) ≡ 0x30
  pub some : 0 < length mappings
  pub each : AllZip IsPolicyMapping (members (body_place octet_string)).values mappings

abbrev pub PolicyMappingsAreExact : Type 0
PolicyMappingsAreExact =
    (octet_string : Place) (mappings : List PolicyMapping) → AreOctets (body octet_string) →
    (policy_mappings octet_string ≡ Ok mappings) ↔ ArePolicyMappings octet_string mappings

-- all mappings, in order
abbrev pub all_mappings : Members → Result (List PolicyMapping) (CertRule × ℕ)
all_mappings left = each one_more_mapping [] left.values

-- The mappings before and after one more is read.
abbrev pub AddsMapping : Tlv → Vec code.PolicyMapping → Vec code.PolicyMapping → Result (Unit {0}) CertFault → Type 0
AddsMapping value old new result = GivesUnlessFull (λ _. seen_mappings new) result (one_more_mapping (seen_mappings old) (seen_tlv value))

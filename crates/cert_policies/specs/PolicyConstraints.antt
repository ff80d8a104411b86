-- policyConstraints (RFC 5280, 4.2.1.11):
-- SEQUENCE { requireExplicitPolicy [0] SkipCerts OPTIONAL, inhibitPolicyMapping [1] SkipCerts OPTIONAL }, SkipCerts ::= INTEGER (0..MAX)
use Rattle.std.specs.Prelude.{◌≡◌, ◌≢◌, ◌↔◌, ◌&&◌, ℕ, Bool, not, min, pos, List, [], ◌∷◌, ◌++◌, Option, Some, None, Result, Ok}
use Rattle.asn.specs.DerLaws.{AreOctets}
use Rattle.asn.specs.Part.{IsWhole}
use Rattle.asn.specs.Place.{Place, tag, body, body_place}
use Rattle.asn.specs.Members.{Members, members}
use Rattle.asn.specs.Walk.{◌>>=◌, check_that, is_a, optional, some, ended}
use Rattle.asn.specs.Outermost.{nested}
use Rattle.asn.specs.Contents.{IsInteger}
use Rattle.asn.specs.Integer.{integer_value}
use Rattle.cert.specs.BasicConstraints.{is_negative, saturated}
use Rattle.cert.specs.Fault.{as_der}
use Rattle.cert.specs.declared.fault.CertRule.{CertRule}
use Rattle.cert.specs.declared.fault.CertRule.TheVariants.{ExtensionValue}
use Rattle.cert_policies.specs.declared.constraints.PolicyConstraints as code
use Rattle.cert_policies.specs.Number.{is_shortest}

pub record PolicyConstraints : Type 0 where
  pub require_explicit_policy : Option ℕ
  pub inhibit_policy_mapping : Option ℕ

abbrev pub seen_policy_constraints : code.PolicyConstraints → PolicyConstraints
seen_policy_constraints read =
    record { require_explicit_policy = read.require_explicit_policy; inhibit_policy_mapping = read.inhibit_policy_mapping }

-- contents of an INTEGER (0..MAX), which DER leaves unchecked under a tag of the context
abbrev pub is_skip_count : List ℕ → Bool
is_skip_count contents = is_shortest contents && not (is_negative contents)

unfoldable pub skip_count : Place → Result ℕ (CertRule × ℕ)
skip_count value = check_that (is_skip_count (body value)) ExtensionValue value.at >>= λ done. Ok (saturated (body value))

-- SkipCerts OPTIONAL under a tag
abbrev pub skip_certs_in : Option Place → Members → Result (Option ℕ × Members) (CertRule × ℕ)
skip_certs_in None left = Ok (None, left)
skip_certs_in (Some value) left = skip_count value >>= λ count. Ok (Some count, left)

unfoldable pub skip_certs : ℕ → Members → Result (Option ℕ × Members) (CertRule × ℕ)
skip_certs identifier left = skip_certs_in (optional identifier left).0 (optional identifier left).1

-- The checks in their order.
unfoldable pub policy_constraints : Place → Result PolicyConstraints (CertRule × ℕ)
policy_constraints octet_string = do
  value ← as_der (nested octet_string)
  sequence ← is_a 0x30 ExtensionValue value
  one ← some ExtensionValue (members value)
  explicit ← skip_certs 0x80 (members value)
  mapping ← skip_certs 0x81 explicit.1
  done ← ended ExtensionValue mapping.1
  Ok (record { require_explicit_policy = explicit.0; inhibit_policy_mapping = mapping.0 })

-- The value has this tag in place of INTEGER's, and is a number of 0 or more: that, or the greatest of 32 bits where it is greater.
pub record IsSkipCerts (identifier : ℕ) (value : Place) (count : Option ℕ) : Type 0 where
  pub number : ℕ
  pub tagged : tag value ≡ identifier
  pub integer : IsInteger (body value)
  pub value_is : integer_value (body value) ≡ pos number
  pub count_is : count ≡ Some (min number 4294967295)

-- SkipCerts OPTIONAL: nothing, or such a value
abbrev pub AreSkipCerts : ℕ → List Place → Option ℕ → Type 0
AreSkipCerts identifier [] count = count ≡ None
AreSkipCerts identifier (value ∷ []) count = IsSkipCerts identifier value count
AreSkipCerts identifier (value ∷ other ∷ values) count = ⊥

-- The contents of the OCTET STRING are a SEQUENCE, which is not empty, of requireExplicitPolicy or nothing, and of inhibitPolicyMapping
-- or nothing.
pub record ArePolicyConstraints (octet_string : Place) (fields : PolicyConstraints) : Type 0 where
  pub whole : IsWhole (body octet_string)
  pub explicits : List Place
  pub mappings : List Place
  pub sequence : tag (body_place octet_string) ≡ 0x30
  pub members_are : (members (body_place octet_string)).values ≡ explicits ++ mappings
  pub some : (members (body_place octet_string)).values ≢ []
  pub require_explicit_policy : AreSkipCerts 0x80 explicits fields.require_explicit_policy
  pub inhibit_policy_mapping : AreSkipCerts 0x81 mappings fields.inhibit_policy_mapping

abbrev pub PolicyConstraintsAreExact : Type 0
PolicyConstraintsAreExact =
    (octet_string : Place) (fields : PolicyConstraints) → AreOctets (body octet_string) →
    (policy_constraints octet_string ≡ Ok fields) ↔ ArePolicyConstraints octet_string fields

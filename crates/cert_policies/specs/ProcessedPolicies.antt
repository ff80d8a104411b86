-- Whether certificatePolicies is processed where it is critical (RFC 5280, 4.2 and 4.2.1.4): its contents are policies, and each of their
-- qualifiers is of a type that is known.
use Rattle.std.specs.Prelude.{◌||◌, ◌↔◌, ℕ, Bool, List, [], ◌∷◌, Option, Some, None, Result, Ok, IsOk}
use Rattle.std.specs.Str.{bytes_eq}
use Rattle.asn.specs.Place.{Place, body}
use Rattle.asn.specs.Members.{Members, members}
use Rattle.asn.specs.Walk.{◌>>=◌, check_that, is_a, required, optional, next_or, some, ended, each}
use Rattle.asn.specs.Outermost.{nested}
use Rattle.cert.specs.Fault.{as_der}
use Rattle.cert.specs.declared.fault.CertRule.{CertRule}
use Rattle.cert.specs.declared.fault.CertRule.TheVariants.{ExtensionValue}

-- id-qt (4.2.1.4), 1.3.6.1.5.5.7.2, and one number behind it: 1 is id-qt-cps, 2 is id-qt-unotice
abbrev pub id_qt : ℕ → List ℕ
id_qt number = 0x2B ∷ 0x06 ∷ 0x01 ∷ 0x05 ∷ 0x05 ∷ 0x07 ∷ 0x02 ∷ number ∷ []

abbrev pub is_known_qualifier : List ℕ → Bool
is_known_qualifier oid = bytes_eq oid (id_qt 1) || bytes_eq oid (id_qt 2)

abbrev pub nothing : Unit {0} → Unit {0}
nothing done = done

-- PolicyQualifierInfo ::= SEQUENCE { policyQualifierId OBJECT IDENTIFIER, qualifier ANY }, of a type that is known
unfoldable pub known_qualifier : Place → Result (Unit {0}) (CertRule × ℕ)
known_qualifier value = do
  sequence ← is_a 0x30 ExtensionValue value
  kind ← required 0x06 ExtensionValue (members value)
  qualifier ← next_or ExtensionValue kind.1
  done ← ended ExtensionValue qualifier.1
  check_that (is_known_qualifier (body kind.0)) ExtensionValue value.at

abbrev pub one_qualifier : Unit {0} → Place → Result (Unit {0}) (CertRule × ℕ)
one_qualifier earlier value = known_qualifier value

abbrev pub all_qualifiers : Members → Result (Unit {0}) (CertRule × ℕ)
all_qualifiers left = each one_qualifier tt left.values

-- SEQUENCE SIZE (1..MAX) OF PolicyQualifierInfo OPTIONAL
unfoldable pub qualifiers_in : Place → Result (Unit {0}) (CertRule × ℕ)
qualifiers_in list = do
  sequence ← is_a 0x30 ExtensionValue list
  one ← some ExtensionValue (members list)
  all_qualifiers (members list)

abbrev pub known_qualifiers : Option Place → Result (Unit {0}) (CertRule × ℕ)
known_qualifiers None = Ok tt
known_qualifiers (Some list) = qualifiers_in list

-- SEQUENCE { policyIdentifier OBJECT IDENTIFIER, policyQualifiers OPTIONAL }
unfoldable pub processed_policy : Place → Result (Unit {0}) (CertRule × ℕ)
processed_policy value = do
  sequence ← is_a 0x30 ExtensionValue value
  policy ← required 0x06 ExtensionValue (members value)
  done ← ended ExtensionValue (optional 0x30 policy.1).1
  known_qualifiers (optional 0x30 policy.1).0

abbrev pub one_policy : Unit {0} → Place → Result (Unit {0}) (CertRule × ℕ)
one_policy earlier value = processed_policy value

abbrev pub all_processed : Members → Result (Unit {0}) (CertRule × ℕ)
all_processed left = each one_policy tt left.values

-- The checks in their order.
unfoldable pub processed_policies : Place → Result (Unit {0}) (CertRule × ℕ)
processed_policies octet_string = do
  value ← as_der (nested octet_string)
  sequence ← is_a 0x30 ExtensionValue value
  one ← some ExtensionValue (members value)
  all_processed (members value)

abbrev pub ArePoliciesProcessed : Place → Type 0
ArePoliciesProcessed octet_string = IsOk (processed_policies octet_string)

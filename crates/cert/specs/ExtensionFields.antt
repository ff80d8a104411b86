-- What each field of Extensions says, by the type of the extension that it comes from (RFC 5280, 4.2.1; RFC 6960, 4.2.2.2.1).
use Rattle.std.specs.Prelude.{◌≡◌, ◌≢◌, ◌↔◌, ◌⊎◌, ◌==◌, ◌&&◌, ℕ, Bool, true, false, not, List, [], ◌∷◌, map, Option, Some, None, Ok}
use Rattle.std.specs.List.{AllByRecursion, AllZip, AllPairs, Contains, filter, list_any}
use Rattle.asn.specs.DerLaws.{AreOctets}
use Rattle.asn.specs.Place.{Place, tag}
use Rattle.asn.specs.Members.{members}
use Rattle.cert.specs.Extension.{Extension, IsExtension}
use Rattle.cert.specs.Extensions.{Extensions, extensions}
use Rattle.cert.specs.ExtensionValues.{ExtensionValues}
use Rattle.cert.specs.KeyUsage.{IsKeyUsage}
use Rattle.cert.specs.AlternativeNames.{AreAlternativeNames}
use Rattle.cert.specs.BasicConstraints.{BasicConstraints, IsBasicConstraints}
use Rattle.cert.specs.NameConstraints.{IsNameConstraints}
use Rattle.cert.specs.Purposes.{ArePurposes}

-- id-ce OBJECT IDENTIFIER ::= { joint-iso-ccitt(2) ds(5) 29 } (4.2), and one number behind it
abbrev pub id_ce : ℕ → List ℕ
id_ce number = 0x55 ∷ 0x1D ∷ number ∷ []

-- id-pkix-ocsp-nocheck: 1.3.6.1.5.5.7.48.1.5
abbrev pub id_ocsp_no_check : List ℕ
id_ocsp_no_check = 0x2B ∷ 0x06 ∷ 0x01 ∷ 0x05 ∷ 0x05 ∷ 0x07 ∷ 0x30 ∷ 0x01 ∷ 0x05 ∷ []

-- The types that are recognised: keyUsage, subjectAltName, basicConstraints, nameConstraints, certificatePolicies, policyMappings,
-- policyConstraints, extKeyUsage, inhibitAnyPolicy
abbrev pub recognised : List ℕ
recognised = 15 ∷ 17 ∷ 19 ∷ 30 ∷ 32 ∷ 33 ∷ 36 ∷ 37 ∷ 54 ∷ []

abbrev pub has_recognised_type : List ℕ → Bool
has_recognised_type [] = false
has_recognised_type (first ∷ []) = false
has_recognised_type (first ∷ second ∷ []) = false
has_recognised_type (first ∷ second ∷ number ∷ []) = first == 0x55 && second == 0x1D && list_any (λ known. number == known) recognised
has_recognised_type (first ∷ second ∷ number ∷ other ∷ octets) = false

-- policyMappings, policyConstraints, inhibitAnyPolicy
abbrev pub IsPolicyProcessing : List ℕ → Type 0
IsPolicyProcessing type = (type ≡ id_ce 33) ⊎ (type ≡ id_ce 36) ⊎ (type ≡ id_ce 54)

-- an extension of such a type is among these
abbrev pub HasOneOf : (List ℕ → Type 0) → List Extension → Type 0
HasOneOf IsType list = (e : Extension) × Contains list e × IsType e.oid

-- certificatePolicies is among them, and critical
pub record IsCriticalPolicies (e : Extension) : Type 0 where
  pub type : e.oid ≡ id_ce 32
  pub critical : e.critical ≡ true

abbrev pub HasCriticalPolicies : List Extension → Type 0
HasCriticalPolicies list = (e : Extension) × Contains list e × IsCriticalPolicies e

-- The field is what the value of the extension of this type says. Where there is none, it is as without extensions.
abbrev pub IsFieldOf : {X : Type 0} → List Extension → List ℕ → (Place → X → Type 0) → X → X → Type 0
IsFieldOf list type Says nothing field =
    ((e : Extension) × Contains list e × (e.oid ≡ type) × Says e.value field)
    ⊎ (AllByRecursion (λ e. e.oid ≢ type) list × (field ≡ nothing))

abbrev pub SaysKeyUsage : Place → Option (List ℕ) → Type 0
SaysKeyUsage value field = (bits : List ℕ) × IsKeyUsage value bits × (field ≡ Some bits)

abbrev pub SaysBasicConstraints : Place → Option BasicConstraints → Type 0
SaysBasicConstraints value field = (read : BasicConstraints) × IsBasicConstraints value read × (field ≡ Some read)

-- The value is that of the extension of the type with this number behind id-ce, or there is none of the type.
abbrev pub IsValueOf : List Extension → ℕ → Option Place → Type 0
IsValueOf list number field = IsFieldOf list (id_ce number) (λ value field. field ≡ Some value) None field

pub record AreValuesOf (list : List Extension) (values : ExtensionValues) : Type 0 where
  pub key_usage : IsValueOf list 15 values.key_usage
  pub alternative_names : IsValueOf list 17 values.alternative_names
  pub basic_constraints : IsValueOf list 19 values.basic_constraints
  pub name_constraints : IsValueOf list 30 values.name_constraints
  pub distribution_points : IsValueOf list 31 values.distribution_points
  pub policies : IsValueOf list 32 values.policies
  pub policy_mappings : IsValueOf list 33 values.policy_mappings
  pub policy_constraints : IsValueOf list 36 values.policy_constraints
  pub purposes : IsValueOf list 37 values.purposes
  pub inhibit_any_policy : IsValueOf list 54 values.inhibit_any_policy

pub record AreFieldsOf (list : List Extension) (fields : Extensions) : Type 0 where
  pub key_usage : IsFieldOf list (id_ce 15) SaysKeyUsage None fields.key_usage
  pub alternative_names : IsFieldOf list (id_ce 17) AreAlternativeNames [] fields.alternative_names
  pub basic_constraints : IsFieldOf list (id_ce 19) SaysBasicConstraints None fields.basic_constraints
  pub name_constraints : IsFieldOf list (id_ce 30) IsNameConstraints (record { permitted = []; excluded = [] }) fields.name_constraints
  pub purposes : IsFieldOf list (id_ce 37) ArePurposes [] fields.purposes
  pub needs_policy_processing : (fields.needs_policy_processing ≡ true) ↔ HasOneOf IsPolicyProcessing list
  pub critical_policies : (fields.critical_policies ≡ true) ↔ HasCriticalPolicies list
  pub no_check : (fields.no_check ≡ true) ↔ HasOneOf (λ type. type ≡ id_ocsp_no_check) list
  -- the types of those that are critical and not recognised, in their order
  pub unrecognised : fields.unrecognised ≡ map (λ e. e.oid) (filter (λ e. e.critical && not (has_recognised_type e.oid)) list)
  pub values : AreValuesOf list fields.values

-- The value is a SEQUENCE of extensions, no two of one type, and these are their fields.
pub record AreExtensionsByField (value : Place) (fields : Extensions) : Type 0 where
  pub sequence : tag value ≡ 0x30
  pub list : List Extension
  pub each : AllZip IsExtension (members value).values list
  pub types : AllPairs (λ one other. one.oid ≢ other.oid) list
  pub fields_are : AreFieldsOf list fields

abbrev pub ExtensionsAreByField : Type 0
ExtensionsAreByField =
    (value : Place) (fields : Extensions) → AreOctets value.octets →
    extensions value ≡ Ok fields → AreExtensionsByField value fields

-- What the extensions of a certificate say (RFC 5280, 4.2).
use Rattle.std.specs.Prelude.{◌≡◌, ℕ, ◌==◌, ◌&&◌, ◌||◌, Bool, true, false, not, List, [], ◌∷◌, ◌++◌, map, Option, Some, None, Result, Ok, if◌then◌else◌}
use Rattle.std.specs.Str.{bytes_eq}
use Rattle.std.specs.FinSet.{empty, contains, insert}
use Rattle.asn.specs.Place.{Place, seen_tlv}
use Rattle.asn.specs.Members.{Members, members}
use Rattle.asn.specs.Walk.{◌>>=◌, seen, check_that, is_a, some, each}
use Rattle.asn.specs.Oid.{oid_contents}
use Rattle.names.specs.GeneralLayout.{GeneralName}
use Rattle.names.specs.GeneralView.{general_name}
use Rattle.cert.specs.declared.fault.CertRule.{CertRule}
use Rattle.cert.specs.declared.fault.CertRule.TheVariants.{Layout, ExtensionRepeated}
use Rattle.cert.specs.declared.extension_kind.ExtensionKind.{ExtensionKind}
use Rattle.cert.specs.declared.extension_kind.ExtensionKind.TheVariants as Kind
use Rattle.cert.specs.declared.extensions.Extensions as code
use Rattle.cert.specs.declared.extensions.Taken as taken
use Rattle.cert.specs.Extension.{Extension, extension, seen_extension}
use Rattle.cert.specs.declared.extension.Extension as read
use Rattle.cert.specs.declared.fault.CertFault.{CertFault}
use Rattle.cert.specs.Fault.{GivesUnlessFull}
use Rattle.asn.specs.declared.tlv.Tlv.{Tlv}
use Rattle.cert.specs.KeyUsage.{key_usage, seen_key_usage}
use Rattle.cert.specs.BasicConstraints.{BasicConstraints, basic_constraints, seen_basic_constraints}
use Rattle.cert.specs.AlternativeNames.{alternative_names}
use Rattle.cert.specs.NameConstraints.{NameConstraints, name_constraints, seen_name_constraints}
use Rattle.cert.specs.Purposes.{purposes}
use Rattle.cert.specs.OidSet.{Oids, oids_in}
use Rattle.cert.specs.ExtensionValues.{ExtensionValues, kept, no_values, seen_values}

-- id-ce OBJECT IDENTIFIER ::= { joint-iso-ccitt(2) ds(5) 29 }: the number behind it, where an OBJECT IDENTIFIER has one
unfoldable pub certificate_extension : List ℕ → Option ℕ
certificate_extension [] = None
certificate_extension (first ∷ []) = None
certificate_extension (first ∷ second ∷ []) = None
certificate_extension (first ∷ second ∷ number ∷ []) = if first == 0x55 && second == 0x1D then Some number else None
certificate_extension (first ∷ second ∷ number ∷ other ∷ octets) = None

-- the kind of an extension, by that number
abbrev pub kind_of_number : ℕ → ExtensionKind
kind_of_number number =
    if number == 15 then Kind.KeyUsage
    else (if number == 17 then Kind.AlternativeNames
    else (if number == 19 then Kind.BasicConstraints
    else (if number == 30 then Kind.NameConstraints
    else (if number == 31 then Kind.DistributionPoints
    else (if number == 32 then Kind.Policies
    else (if number == 33 then Kind.PolicyMappings
    else (if number == 36 then Kind.PolicyConstraints
    else (if number == 37 then Kind.Purposes
    else (if number == 54 then Kind.InhibitAnyPolicy else Kind.Other)))))))))

-- id-pkix-ocsp-nocheck (RFC 6960, 4.2.2.2.1): 1.3.6.1.5.5.7.48.1.5
abbrev pub no_check_oid : List ℕ
no_check_oid = 0x2B ∷ 0x06 ∷ 0x01 ∷ 0x05 ∷ 0x05 ∷ 0x07 ∷ 0x30 ∷ 0x01 ∷ 0x05 ∷ []

-- the kind of an extension, by the contents of its OBJECT IDENTIFIER
abbrev pub kind_in : List ℕ → Option ℕ → ExtensionKind
kind_in oid (Some number) = kind_of_number number
kind_in oid None = if bytes_eq oid no_check_oid then Kind.NoCheck else Kind.Other

unfoldable pub kind_of_extension : List ℕ → ExtensionKind
kind_of_extension oid = kind_in oid (certificate_extension oid)

-- Kinds that policies are processed by (4.2.1.5, 4.2.1.11, 4.2.1.14).
abbrev pub is_policy_kind : ExtensionKind → Bool
is_policy_kind Kind.PolicyMappings = true
is_policy_kind Kind.PolicyConstraints = true
is_policy_kind Kind.InhibitAnyPolicy = true
is_policy_kind kind = false

-- Kinds whose values are only kept.
abbrev pub is_only_kept : ExtensionKind → Bool
is_only_kept Kind.DistributionPoints = true
is_only_kept Kind.Policies = true
is_only_kept Kind.Other = true
is_only_kept kind = false

-- Kinds that a path is validated by. Others are refused on a path where they are critical (RFC 5280, 4.2).
abbrev pub is_recognised : ExtensionKind → Bool
is_recognised Kind.DistributionPoints = false
is_recognised Kind.NoCheck = false
is_recognised Kind.Other = false
is_recognised kind = true

-- The kind of certificatePolicies (4.2.1.4).
abbrev pub is_policies : ExtensionKind → Bool
is_policies Kind.Policies = true
is_policies kind = false

-- What the extensions say together: lists are empty where the extension is not there.
pub record Extensions : Type 0 where
  pub key_usage : Option (List ℕ)
  pub alternative_names : List GeneralName
  pub basic_constraints : Option BasicConstraints
  pub name_constraints : NameConstraints
  pub purposes : List (List ℕ)
  pub needs_policy_processing : Bool
  pub critical_policies : Bool
  pub no_check : Bool
  pub unrecognised : List (List ℕ)
  pub values : ExtensionValues

abbrev pub seen_extensions : code.Extensions → Extensions
seen_extensions read = record {
  key_usage = seen seen_key_usage read.key_usage;
  alternative_names = map general_name read.alternative_names.items;
  basic_constraints = seen seen_basic_constraints read.basic_constraints;
  name_constraints = seen_name_constraints read.name_constraints;
  purposes = map oid_contents read.purposes.items;
  needs_policy_processing = read.needs_policy_processing;
  critical_policies = read.critical_policies;
  no_check = read.no_check;
  unrecognised = map oid_contents read.unrecognised.items;
  values = seen_values read.values;
}

abbrev pub no_extensions : Extensions
no_extensions = record {
  key_usage = None;
  alternative_names = [];
  basic_constraints = None;
  name_constraints = record { permitted = []; excluded = [] };
  purposes = [];
  needs_policy_processing = false;
  critical_policies = false;
  no_check = false;
  unrecognised = [];
  values = no_values;
}

-- What one extension says.
pub data Saying : Type 0 where
  key_usage_is : List ℕ → Saying
  alternative_names_are : List GeneralName → Saying
  basic_constraints_are : BasicConstraints → Saying
  name_constraints_are : NameConstraints → Saying
  purposes_are : List (List ℕ) → Saying
  policies_are_processed : Saying
  need_not_be_checked : Saying
  says_nothing : Saying

-- The OCTET STRING of an extension is looked into by the extension's kind.
abbrev pub saying_of : ExtensionKind → Place → Result Saying (CertRule × ℕ)
saying_of Kind.KeyUsage value = key_usage value >>= λ bits. Ok (key_usage_is bits)
saying_of Kind.AlternativeNames value = alternative_names value >>= λ names. Ok (alternative_names_are names)
saying_of Kind.BasicConstraints value = basic_constraints value >>= λ constraints. Ok (basic_constraints_are constraints)
saying_of Kind.NameConstraints value = name_constraints value >>= λ constraints. Ok (name_constraints_are constraints)
saying_of Kind.Purposes value = purposes value >>= λ list. Ok (purposes_are list)
saying_of Kind.DistributionPoints value = Ok says_nothing
saying_of Kind.Policies value = Ok says_nothing
saying_of Kind.PolicyMappings value = Ok policies_are_processed
saying_of Kind.PolicyConstraints value = Ok policies_are_processed
saying_of Kind.InhibitAnyPolicy value = Ok policies_are_processed
saying_of Kind.NoCheck value = Ok need_not_be_checked
saying_of Kind.Other value = Ok says_nothing

-- What is known once one more extension was read, of what was known before: each extension settles what it speaks of.
abbrev pub told_key_usage : Saying → Option (List ℕ) → Option (List ℕ)
told_key_usage (key_usage_is bits) before = Some bits
told_key_usage other before = before

abbrev pub told_alternative_names : Saying → List GeneralName → List GeneralName
told_alternative_names (alternative_names_are names) before = names
told_alternative_names other before = before

abbrev pub told_basic_constraints : Saying → Option BasicConstraints → Option BasicConstraints
told_basic_constraints (basic_constraints_are constraints) before = Some constraints
told_basic_constraints other before = before

abbrev pub told_name_constraints : Saying → NameConstraints → NameConstraints
told_name_constraints (name_constraints_are constraints) before = constraints
told_name_constraints other before = before

abbrev pub told_purposes : Saying → List (List ℕ) → List (List ℕ)
told_purposes (purposes_are list) before = list
told_purposes other before = before

abbrev pub told_policy : Saying → Bool → Bool
told_policy policies_are_processed before = true
told_policy other before = before

abbrev pub told_no_check : Saying → Bool → Bool
told_no_check need_not_be_checked before = true
told_no_check other before = before

abbrev pub told : Saying → Extensions → Extensions
told s before = record {
  key_usage = told_key_usage s before.key_usage;
  alternative_names = told_alternative_names s before.alternative_names;
  basic_constraints = told_basic_constraints s before.basic_constraints;
  name_constraints = told_name_constraints s before.name_constraints;
  purposes = told_purposes s before.purposes;
  needs_policy_processing = told_policy s before.needs_policy_processing;
  critical_policies = before.critical_policies;
  no_check = told_no_check s before.no_check;
  unrecognised = before.unrecognised;
  values = before.values;
}

-- The type of an extension that is critical and not recognised is listed.
abbrev pub listed : Extension → List (List ℕ) → List (List ℕ)
listed e before = if e.critical && not (is_recognised (kind_of_extension e.oid)) then before ++ e.oid ∷ [] else before

-- It is certificatePolicies, and critical.
abbrev pub is_critical_policies : Extension → Bool
is_critical_policies e = e.critical && is_policies (kind_of_extension e.oid)

abbrev pub noted : Extension → Extensions → Extensions
noted e before = record {
  key_usage = before.key_usage;
  alternative_names = before.alternative_names;
  basic_constraints = before.basic_constraints;
  name_constraints = before.name_constraints;
  purposes = before.purposes;
  needs_policy_processing = before.needs_policy_processing;
  critical_policies = before.critical_policies || is_critical_policies e;
  no_check = before.no_check;
  unrecognised = listed e before.unrecognised;
  values = before.values;
}

-- The value of an extension of that kind is kept.
abbrev pub keeping : ExtensionKind → Place → Extensions → Extensions
keeping kind value before = record before { values = kept kind value before.values }

-- What is known once the OCTET STRING of an extension of that kind was read.
unfoldable pub told_by : ExtensionKind → Place → Extensions → Result Extensions (CertRule × ℕ)
told_by kind value before = saying_of kind value >>= λ s. Ok (told s (keeping kind value before))

-- What is known once this extension was read, which says this.
abbrev pub one_told : Extension → Saying → Extensions → Extensions
one_told e s before = noted e (told s (keeping (kind_of_extension e.oid) e.value before))

-- The types that were taken, and what their extensions say.
pub record Taken : Type 0 where
  pub types : Oids
  pub told : Extensions

abbrev pub seen_taken : taken.Taken → Taken
seen_taken read = record { types = oids_in read.types; told = seen_extensions read.told }

abbrev pub nothing_taken : Taken
nothing_taken = record { types = empty; told = no_extensions }

-- One more extension, of a type that none of the earlier ones has.
unfoldable pub one_extension : Taken → Place → Result Taken (CertRule × ℕ)
one_extension earlier value = do
  read ← extension Layout value
  new ← check_that (not (contains earlier.types read.oid)) ExtensionRepeated value.at
  told ← told_by (kind_of_extension read.oid) read.value earlier.told
  Ok (record { types = insert earlier.types read.oid; told = noted read told })

-- Extensions ::= SEQUENCE SIZE (1..MAX) OF Extension
unfoldable pub extensions : Place → Result Extensions (CertRule × ℕ)
extensions value = do
  sequence ← is_a 0x30 Layout value
  one ← some Layout (members value)
  taken ← each one_extension nothing_taken ((members value).values)
  Ok (taken.told)

-- all extensions, in order
abbrev pub all_extensions : Members → Result Taken (CertRule × ℕ)
all_extensions left = each one_extension nothing_taken left.values

-- What is known of the extensions before and after the OCTET STRING of one of that kind is read.
abbrev pub TellsExtension : ExtensionKind → Tlv → code.Extensions → code.Extensions → Result (Unit {0}) CertFault → Type 0
TellsExtension kind octet_string old new result =
    GivesUnlessFull (λ _. seen_extensions new) result (told_by kind (seen_tlv octet_string) (seen_extensions old))

-- the type of an extension is listed, if it is critical and not recognised
abbrev pub NotesExtension : read.Extension → code.Extensions → code.Extensions → Type 0
NotesExtension extension old new = seen_extensions new ≡ noted (seen_extension extension) (seen_extensions old)

-- What was taken before and after one more extension is read.
abbrev pub TakesExtension : Tlv → taken.Taken → taken.Taken → Result (Unit {0}) CertFault → Type 0
TakesExtension value old new result =
    GivesUnlessFull (λ _. seen_taken new) result (one_extension (seen_taken old) (seen_tlv value))

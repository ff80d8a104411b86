-- The fields of a certificate (RFC 5280, 4.1) as numbers and parts of its text.
use Rattle.std.specs.Prelude.{◌≡◌, ◌⊎◌, ◌+◌, ◌^◌, ℕ, pos, zero, suc, Bool, false, List, length, Option, Some, None, is_some, Result, Ok, Err, if◌then◌else◌}
use Rattle.cert.specs.declared.fault.CertRule.{CertRule}
use Rattle.cert.specs.declared.fault.CertFault.{CertFault}
use Rattle.cert.specs.declared.fault.CertFault.TheVariants.{Refused, Memory}
use Rattle.cert.specs.Fault.{cert_rule_number}
use Rattle.cert.specs.Version.{version_number}
use Rattle.cert.specs.KeyUsage.{has_bit}
use Rattle.cert.specs.BasicConstraints.{BasicConstraints, path_len_constraint}
use Rattle.cert.specs.Extensions.{Extensions}
use Rattle.cert.specs.Certificate.{Certificate}
use Rattle.asn.specs.Part.{IsPartOf}
use Rattle.asn.specs.Place.{body, body_place}
use Rattle.capi.specs.declared.answer.CertificateAnswer.{CertificateAnswer}
use Rattle.capi_values.specs.declared.part.Part.{Part}
use Rattle.capi.specs.declared.fields.Fields as code
use Rattle.capi.specs.declared.fields.ExtensionFields as extension
use Rattle.relying_questions.specs.Places.{IsPlaceIn, bits_at}
use Rattle.capi_values.specs.Parts.{IsPart}
use Rattle.capi_values.specs.Refusal.{der_number}

-- basicConstraints (4.2.1.9): cA
abbrev pub is_ca : Option BasicConstraints → Bool
is_ca None = false
is_ca (Some constraints) = constraints.ca

abbrev pub or_zero : Option ℕ → ℕ
or_zero None = 0
or_zero (Some number) = number

-- keyUsage (4.2.1.3): bit n of the number is bit n of the key usage, for the first bits, so many
abbrev pub bits_below : ℕ → List ℕ → ℕ
bits_below zero bits = 0
bits_below (suc n) bits = bits_below n bits + (if has_bit bits n then 2 ^ n else 0)

-- the nine bits that have names
abbrev pub usage_number : Option (List ℕ) → ℕ
usage_number None = 0
usage_number (Some bits) = bits_below 9 bits

pub record TellsExtensions (told : extension.ExtensionFields) (extensions : Extensions) : Type 0 where
  pub has_basic_constraints : told.has_basic_constraints ≡ is_some extensions.basic_constraints
  pub is_authority : told.is_authority ≡ is_ca extensions.basic_constraints
  pub has_path_length : told.has_path_length ≡ is_some (path_len_constraint extensions.basic_constraints)
  pub path_length : told.path_length ≡ or_zero (path_len_constraint extensions.basic_constraints)
  pub has_key_usage : told.has_key_usage ≡ is_some extensions.key_usage
  pub key_usage : told.key_usage ≡ usage_number extensions.key_usage
  pub needs_policy_processing : told.needs_policy_processing ≡ extensions.needs_policy_processing
  pub no_check : told.no_check ≡ extensions.no_check
  pub alternative_names : told.alternative_names ≡ length extensions.alternative_names
  pub permitted_subtrees : told.permitted_subtrees ≡ length extensions.name_constraints.permitted
  pub excluded_subtrees : told.excluded_subtrees ≡ length extensions.name_constraints.excluded
  pub purposes : told.purposes ≡ length extensions.purposes
  pub unrecognised : told.unrecognised ≡ length extensions.unrecognised

pub record TellsFields (text : List ℕ) (told : code.Fields) (certificate : Certificate) : Type 0 where
  pub version : told.version ≡ version_number certificate.version
  pub not_before : told.not_before ≡ certificate.validity.not_before
  pub not_after : told.not_after ≡ certificate.validity.not_after
  pub tbs : IsPart text told.tbs certificate.tbs.octets
  pub serial : IsPart text told.serial (body certificate.serial)
  pub algorithm : IsPart text told.algorithm certificate.algorithm.value.octets
  pub issuer : IsPart text told.issuer certificate.issuer.octets
  pub subject : IsPart text told.subject certificate.subject.octets
  pub subject_public_key_info : IsPart text told.subject_public_key_info certificate.key_info.value.octets
  pub key : IsPart text told.key certificate.key_info.key.octets
  pub signature : IsPart text told.signature certificate.signature.octets
  pub extensions : TellsExtensions told.extensions certificate.extensions

-- each part begins where its component does in the layout of the certificate, or the contents or the bits of that
pub record AreAtComponents (told : code.Fields) (certificate : Certificate) : Type 0 where
  pub tbs : told.tbs.offset ≡ certificate.tbs.at
  pub serial : told.serial.offset ≡ (body_place certificate.serial).at
  pub algorithm : told.algorithm.offset ≡ certificate.algorithm.value.at
  pub issuer : told.issuer.offset ≡ certificate.issuer.at
  pub subject : told.subject.offset ≡ certificate.subject.at
  pub subject_public_key_info : told.subject_public_key_info.offset ≡ certificate.key_info.value.at
  pub key : told.key.offset ≡ bits_at certificate.key_info.key.value
  pub signature : told.signature.offset ≡ bits_at certificate.signature.value

-- the components of a certificate are parts of the text
pub record ComponentsStandIn (text : List ℕ) (certificate : Certificate) : Type 0 where
  pub tbs : IsPlaceIn text certificate.tbs
  pub serial : IsPlaceIn text (body_place certificate.serial)
  pub algorithm : IsPlaceIn text certificate.algorithm.value
  pub issuer : IsPartOf text certificate.issuer.at certificate.issuer.octets
  pub subject : IsPartOf text certificate.subject.at certificate.subject.octets
  pub key_info : IsPlaceIn text certificate.key_info.value
  pub key : IsPlaceIn text (body_place certificate.key_info.key.value)
  pub signature : IsPlaceIn text (body_place certificate.signature.value)

-- in each text in which the components of the certificate stand, the fields tell them
abbrev pub TellsComponents : code.Fields → Certificate → Type 0
TellsComponents told certificate =
    (text : List ℕ) → ComponentsStandIn text certificate → TellsFields text told certificate

-- what stands in an answer that tells of a fault
abbrev pub no_part : Part
no_part = record { offset = 0; length = 0 }

abbrev pub no_extension_fields : extension.ExtensionFields
no_extension_fields = record {
  has_basic_constraints = false;
  is_authority = false;
  has_path_length = false;
  has_key_usage = false;
  needs_policy_processing = false;
  no_check = false;
  path_length = 0;
  key_usage = 0;
  alternative_names = 0;
  permitted_subtrees = 0;
  excluded_subtrees = 0;
  purposes = 0;
  unrecognised = 0;
}

abbrev pub no_fields : code.Fields
no_fields = record {
  version = 0;
  not_before = pos 0;
  not_after = pos 0;
  tbs = no_part;
  serial = no_part;
  algorithm = no_part;
  issuer = no_part;
  subject = no_part;
  subject_public_key_info = no_part;
  key = no_part;
  signature = no_part;
  extensions = no_extension_fields;
}

pub record TellsRule (answer : CertificateAnswer) (rule : CertRule) (at : ℕ) : Type 0 where
  pub fault : answer.fault ≡ cert_rule_number rule
  pub der_fault : answer.der_fault ≡ der_number rule
  pub offset : answer.offset ≡ at
  pub nothing : answer.fields ≡ no_fields

-- the answer of a call that was refused memory
abbrev pub certificate_no_memory : CertificateAnswer
certificate_no_memory = record { fault = 33; der_fault = 0; offset = 0; fields = no_fields }

pub record TellsCertificate (text : List ℕ) (answer : CertificateAnswer) (certificate : Certificate) : Type 0 where
  pub fault : answer.fault ≡ 0
  pub der_fault : answer.der_fault ≡ 0
  pub offset : answer.offset ≡ 0
  pub fields : TellsFields text answer.fields certificate
  pub places : AreAtComponents answer.fields certificate

-- The answer tells what reading the text gives, unless memory was refused.
abbrev pub TellsReading : List ℕ → CertificateAnswer → Result Certificate (CertRule × ℕ) → Type 0
TellsReading text answer (Ok certificate) = (answer ≡ certificate_no_memory) ⊎ TellsCertificate text answer certificate
TellsReading text answer (Err (rule, at)) = (answer ≡ certificate_no_memory) ⊎ TellsRule answer rule at

-- The answer tells of a fault.
abbrev pub IsRefusalOf : CertificateAnswer → CertFault → Type 0
IsRefusalOf answer (Refused rule at) = TellsRule answer rule at
IsRefusalOf answer Memory = answer ≡ certificate_no_memory

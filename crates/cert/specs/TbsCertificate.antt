-- The signed part of a certificate, without its extensions (RFC 5280, 4.1.2).
use Rattle.std.specs.Prelude.{ℕ, ◌&&◌, nat_lt, Bool, true, false, not, List, [], ◌∷◌, length, Option, Some, None, Result, Ok}
use Rattle.asn.specs.Place.{Place, seen_tlv, body}
use Rattle.asn.specs.Members.{Members}
use Rattle.asn.specs.Walk.{◌>>=◌, required, next_or, optional, check_that}
use Rattle.names.specs.DistinguishedName.{RdnMap}
use Rattle.names.specs.NameLayout.{name}
use Rattle.names.specs.GeneralLayout.{NameContents, contents_at}
use Rattle.names.specs.GeneralView.{name_contents}
use Rattle.cert.specs.declared.fault.CertRule.{CertRule}
use Rattle.cert.specs.declared.fault.CertRule.TheVariants as R
use Rattle.cert.specs.declared.version.Version.{Version}
use Rattle.cert.specs.declared.tbs.TbsHead as head
use Rattle.cert.specs.declared.tbs.Subject as subject
use Rattle.cert.specs.Fault.{as_name}
use Rattle.cert.specs.AlgorithmIdentifier.{AlgorithmIdentifier, algorithm_identifier, seen_algorithm}
use Rattle.cert.specs.Validity.{Validity, validity, seen_validity}
use Rattle.cert.specs.SubjectPublicKeyInfo.{SubjectPublicKeyInfo, key_info, seen_key_info}
use Rattle.cert.specs.Version.{is_v1, version}

-- the next value, by a reader that looks at its identifier
unfoldable pub next_read : {A : Type 0} → (Place → Result A (CertRule × ℕ)) → Members → Result (A × Members) (CertRule × ℕ)
next_read read left = do
  value ← next_or R.Layout left
  found ← read value.0
  Ok (found, value.1)

-- the next value, which has this identifier, by a reader that looks at what is inside alone, or that names another fault
unfoldable pub component : {A : Type 0} → ℕ → (Place → Result A (CertRule × ℕ)) → Members → Result (A × Members) (CertRule × ℕ)
component identifier read left = do
  value ← required identifier R.Layout left
  found ← read value.0
  Ok (found, value.1)

-- the next value, which is an algorithm identifier (4.1.1.2)
abbrev pub next_algorithm : Members → Result (AlgorithmIdentifier × Members) (CertRule × ℕ)
next_algorithm left = next_read (algorithm_identifier R.Layout) left

-- serialNumber (4.1.2.2): 1 to 32 octets, of any sign
abbrev pub is_serial : List ℕ → Bool
is_serial contents = nat_lt 0 (length contents) && nat_lt (length contents) 33

unfoldable pub serial_number : Place → Result Place (CertRule × ℕ)
serial_number value = check_that (is_serial (body value)) R.Serial value.at >>= λ short. Ok value

-- a name (4.1.2.4, 4.1.2.6)
unfoldable pub distinguished_name : Place → Result NameContents (CertRule × ℕ)
distinguished_name value = as_name (name value) >>= λ done. Ok (contents_at value)

-- the next value, which is a name
abbrev pub next_name : Members → Result (NameContents × Members) (CertRule × ℕ)
next_name left = component 0x30 distinguished_name left

-- issuer (4.1.2.4): a name that is not empty
abbrev pub is_empty_name : List RdnMap → Bool
is_empty_name [] = true
is_empty_name (rdn ∷ rdns) = false

unfoldable pub issuer : Place → Result NameContents (CertRule × ℕ)
issuer value = do
  read ← distinguished_name value
  named ← check_that (not (is_empty_name read.rdns)) R.EmptyIssuer value.at
  Ok read

-- issuerUniqueID [1] and subjectUniqueID [2] IMPLICIT BIT STRING OPTIONAL (4.1.2.8): from v2 on; their contents are free
abbrev pub unique_id_in : Version → Option Place → Members → Result Members (CertRule × ℕ)
unique_id_in version None left = Ok left
unique_id_in version (Some id) left = check_that (not (is_v1 version)) R.Version id.at >>= λ served. Ok left

unfoldable pub unique_id : ℕ → Version → Members → Result Members (CertRule × ℕ)
unique_id identifier version left = unique_id_in version (optional identifier left).0 (optional identifier left).1

-- The components up to the validity.
pub record TbsHead : Type 0 where
  pub version : Version
  pub serial : Place
  pub signature : AlgorithmIdentifier
  pub issuer : NameContents
  pub validity : Validity

abbrev pub seen_tbs_head : head.TbsHead → TbsHead
seen_tbs_head read = record { version = read.version; serial = seen_tlv read.serial; signature = seen_algorithm read.signature; issuer = name_contents read.issuer; validity = seen_validity read.validity }

unfoldable pub tbs_head : Members → Result (TbsHead × Members) (CertRule × ℕ)
tbs_head left = do
  version ← version left
  serial ← component 0x02 serial_number version.1
  signature ← next_algorithm serial.1
  issuer ← component 0x30 issuer signature.1
  validity ← next_read validity issuer.1
  Ok (record { version = version.0; serial = serial.0; signature = signature.0; issuer = issuer.0; validity = validity.0 }, validity.1)

-- The components from the subject to the extensions.
pub record Subject : Type 0 where
  pub name : NameContents
  pub key_info : SubjectPublicKeyInfo

abbrev pub seen_subject : subject.Subject → Subject
seen_subject read = record { name = name_contents read.name; key_info = seen_key_info read.key_info }

unfoldable pub tbs_subject : Version → Members → Result (Subject × Members) (CertRule × ℕ)
tbs_subject version left = do
  name ← next_name left
  key_info ← next_read key_info name.1
  issuer_id ← unique_id 0x81 version key_info.1
  subject_id ← unique_id 0x82 version issuer_id
  Ok (record { name = name.0; key_info = key_info.0 }, subject_id)

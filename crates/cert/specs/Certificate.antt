-- Certificates (RFC 5280, 4.1): SEQUENCE { tbsCertificate, signatureAlgorithm, signatureValue BIT STRING }
use Rattle.std.specs.Prelude.{ℕ, Bool, List, [], map, Option, Some, None, Result, Ok}
use Rattle.std.specs.Str.{bytes_eq}
use Rattle.asn.specs.Place.{Place, seen_tlv, body}
use Rattle.asn.specs.Members.{Members, left, members}
use Rattle.asn.specs.Walk.{◌>>=◌, is_a, next_or, optional, ended, check_that}
use Rattle.asn.specs.Outermost.{outermost}
use Rattle.names.specs.DistinguishedName.{NamesMatch, matching}
use Rattle.names.specs.GeneralLayout.{NameContents}
use Rattle.names.specs.GeneralView.{name_contents}
use Rattle.cert.specs.declared.fault.CertRule.{CertRule}
use Rattle.cert.specs.declared.fault.CertRule.TheVariants as R
use Rattle.cert.specs.declared.version.Version.{Version}
use Rattle.cert.specs.declared.algorithm.AlgorithmIdentifier as algorithm
use Rattle.cert.specs.declared.certificate.Certificate as code
use Rattle.cert.specs.declared.certificate.TbsCertificate as signed_part
use Rattle.cert.specs.Fault.{as_der, GivesUnlessFull}
use Rattle.cert.specs.declared.fault.CertFault.{CertFault}
use Rattle.cert.specs.declared.extensions.Extensions as code_of
use Rattle.asn.specs.declared.tlv.Cursor.{Cursor}
use Rattle.cert.specs.AlgorithmIdentifier.{AlgorithmIdentifier, seen_algorithm}
use Rattle.cert.specs.Validity.{Validity, seen_validity}
use Rattle.cert.specs.SubjectPublicKeyInfo.{SubjectPublicKeyInfo, seen_key_info}
use Rattle.cert.specs.BitString.{BitString, bit_string_at, seen_bit_string, has_no_unused_bits}
use Rattle.cert.specs.Version.{is_v3}
use Rattle.cert.specs.Extensions.{Extensions, no_extensions, extensions, seen_extensions}
use Rattle.cert.specs.CertificatePoints.{CertificatePoints, no_points, seen_points}
use Rattle.cert.specs.CertificateHosts.{CertificateHosts, no_hosts, seen_hosts}
use Rattle.cert.specs.TbsCertificate.{TbsHead, Subject, component, tbs_head, tbs_subject, seen_tbs_head, seen_subject}

-- extensions [3] EXPLICIT Extensions OPTIONAL (4.1.2.9): in v3 alone
abbrev pub extensions_in : Version → Option Place → Members → Result (Extensions × Members) (CertRule × ℕ)
extensions_in version None left = Ok (no_extensions, left)
extensions_in version (Some explicit) left = do
  served ← check_that (is_v3 version) R.Version explicit.at
  list ← next_or R.Layout (members explicit)
  read ← extensions list.0
  done ← ended R.Layout list.1
  Ok (read, left)

unfoldable pub optional_extensions : Version → Members → Result (Extensions × Members) (CertRule × ℕ)
optional_extensions version left = extensions_in version (optional 0xA3 left).0 (optional 0xA3 left).1

-- What is taken of a cursor before and after them.
abbrev pub TakesOptionalExtensions : Version → Cursor → Cursor → Result code_of.Extensions CertFault → Type 0
TakesOptionalExtensions version old new result =
    GivesUnlessFull (λ read. (seen_extensions read, left new)) result (optional_extensions version (left old))

-- TBSCertificate ::= SEQUENCE { version [0], serialNumber, signature, issuer, validity, subject, subjectPublicKeyInfo,
-- issuerUniqueID [1], subjectUniqueID [2], extensions [3] }
pub record TbsCertificate : Type 0 where
  pub head : TbsHead
  pub subject : Subject
  pub extensions : Extensions

abbrev pub seen_tbs : signed_part.TbsCertificate → TbsCertificate
seen_tbs read = record { head = seen_tbs_head read.head; subject = seen_subject read.subject; extensions = seen_extensions read.extensions }

unfoldable pub tbs_certificate : Place → Result TbsCertificate (CertRule × ℕ)
tbs_certificate value = do
  sequence ← is_a 0x30 R.Layout value
  head ← tbs_head (members value)
  subject ← tbs_subject head.0.version head.1
  extensions ← optional_extensions head.0.version subject.1
  done ← ended R.Layout extensions.1
  Ok (record { head = head.0; subject = subject.0; extensions = extensions.0 })

-- signatureAlgorithm (4.1.1.2): the same octets as the algorithm identifier in the signed part
unfoldable pub same_algorithm : AlgorithmIdentifier → Place → Result (Unit {0}) (CertRule × ℕ)
same_algorithm inner value = check_that (bytes_eq value.octets inner.value.octets) R.AlgorithmsDiffer value.at

-- the next value, which is signatureAlgorithm
abbrev pub next_same_algorithm : AlgorithmIdentifier → Members → Result (Unit {0} × Members) (CertRule × ℕ)
next_same_algorithm inner left = component 0x30 (same_algorithm inner) left

-- the same, where the algorithm identifier in the signed part was read
abbrev pub repeats_algorithm : algorithm.AlgorithmIdentifier → Members → Result (Unit {0} × Members) (CertRule × ℕ)
repeats_algorithm inner left = next_same_algorithm (seen_algorithm inner) left

-- signatureValue (4.1.1.3): a BIT STRING of octets, with no bit unused
unfoldable pub signature_value : Place → Result BitString (CertRule × ℕ)
signature_value value = check_that (has_no_unused_bits (body value)) R.SignatureBits value.at >>= λ whole. Ok (bit_string_at value)

-- the next value, which is signatureValue
abbrev pub next_signature : Members → Result (BitString × Members) (CertRule × ℕ)
next_signature left = component 0x03 signature_value left

-- The fields of a certificate. What is a part of its octets is told with its place. The points are names under which lists about it are
-- published (4.2.1.13), each a general name as its octets, where they count, and so is what it says of mail addresses and hosts; reading
-- leaves both out.
pub record Certificate : Type 0 where
  pub octets : List ℕ
  pub tbs : Place
  pub version : Version
  pub serial : Place
  pub algorithm : AlgorithmIdentifier
  pub issuer : NameContents
  pub validity : Validity
  pub subject : NameContents
  pub key_info : SubjectPublicKeyInfo
  pub extensions : Extensions
  pub signature : BitString
  pub points : CertificatePoints
  pub hosts : CertificateHosts

abbrev pub seen_certificate : code.Certificate → Certificate
seen_certificate read = record {
  octets = read.octets.now;
  tbs = seen_tlv read.tbs;
  version = read.version;
  serial = seen_tlv read.serial;
  algorithm = seen_algorithm read.algorithm;
  issuer = name_contents read.issuer;
  validity = seen_validity read.validity;
  subject = name_contents read.subject;
  key_info = seen_key_info read.subject_public_key_info;
  extensions = seen_extensions read.extensions;
  signature = seen_bit_string read.signature;
  points = seen_points read.points;
  hosts = seen_hosts read.hosts;
}

abbrev pub certificate_with : List ℕ → Place → TbsCertificate → BitString → Certificate
certificate_with octets signed tbs signature = record {
  octets = octets;
  tbs = signed;
  version = tbs.head.version;
  serial = tbs.head.serial;
  algorithm = tbs.head.signature;
  issuer = tbs.head.issuer;
  validity = tbs.head.validity;
  subject = tbs.subject.name;
  key_info = tbs.subject.key_info;
  extensions = tbs.extensions;
  signature = signature;
  points = no_points;
  hosts = no_hosts;
}

-- The checks in their order.
unfoldable pub certificate_at : Place → Result Certificate (CertRule × ℕ)
certificate_at value = do
  sequence ← is_a 0x30 R.Layout value
  signed ← next_or R.Layout (members value)
  tbs ← tbs_certificate signed.0
  algorithm ← next_same_algorithm tbs.head.signature signed.1
  signature ← next_signature algorithm.1
  done ← ended R.Layout signature.1
  Ok (certificate_with value.octets signed.0 tbs signature.0)

unfoldable pub certificate : List ℕ → Result Certificate (CertRule × ℕ)
certificate octets = as_der (outermost octets) >>= λ value. certificate_at value

-- subject and issuer match (6.1)
abbrev pub IsSelfIssued : Certificate → Type 0
IsSelfIssued certificate = NamesMatch certificate.subject.rdns certificate.issuer.rdns

unfoldable pub is_self_issued : Certificate → Bool
is_self_issued certificate = matching certificate.subject.rdns certificate.issuer.rdns

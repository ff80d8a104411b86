-- Certificates by their layout, in the words of the standard (RFC 5280, 4.1 and 4.2).
use Rattle.std.specs.Prelude.{◌≡◌, ◌≢◌, ◌↔◌, ◌<◌, ◌≤◌, ◌++◌, ℕ, List, [], ◌∷◌, length, Ok}
use Rattle.asn.specs.Value.{Value}
use Rattle.asn.specs.Encoding.{Encodes}
use Rattle.asn.specs.DerLaws.{AreOctets}
use Rattle.asn.specs.Place.{Place, tag, body}
use Rattle.asn.specs.Members.{members}
use Rattle.names.specs.GeneralLayout.{NameContents, contents_at}
use Rattle.names.specs.NameForms.{IsName}
use Rattle.cert.specs.declared.version.Version.{Version}
use Rattle.cert.specs.declared.version.Version.TheVariants.{V1, V3}
use Rattle.cert.specs.AlgorithmIdentifier.{IsAlgorithmIdentifier}
use Rattle.cert.specs.BitString.{BitString}
use Rattle.cert.specs.Validity.{IsValidity}
use Rattle.cert.specs.SubjectPublicKeyInfo.{IsSubjectPublicKeyInfo}
use Rattle.cert.specs.Version.{IsVersion}
use Rattle.cert.specs.Extensions.{Extensions, no_extensions}
use Rattle.cert.specs.ExtensionForms.{AreExtensions}
use Rattle.cert.specs.Certificate.{TbsCertificate, Certificate, certificate_with, certificate}

-- serialNumber (4.1.2.2): an INTEGER of 1 to 32 octets
pub record IsSerialNumber (value : Place) (serial : List ℕ) : Type 0 where
  pub integer : tag value ≡ 0x02
  pub some : 0 < length (body value)
  pub short : length (body value) ≤ 32
  pub contents : serial ≡ body value

-- issuer (4.1.2.4) and subject (4.1.2.6)
pub record IsNameOf (value : Place) (name : NameContents) : Type 0 where
  pub is_name : IsName value
  pub contents : name ≡ contents_at value

-- a unique identifier (4.1.2.8): none, or a value under the tag, from v2 on
abbrev pub IsUniqueId : ℕ → Version → List Place → Type 0
IsUniqueId identifier version [] = Unit {0}
IsUniqueId identifier version (value ∷ []) = (tag value ≡ identifier) × (version ≢ V1)
IsUniqueId identifier version (value ∷ other ∷ values) = ⊥

-- extensions (4.1.2.9): none, or an explicit tag round them, in v3 alone
pub record AreTaggedExtensions (value : Place) (version : Version) (extensions : Extensions) : Type 0 where
  pub list : Place
  pub explicit : tag value ≡ 0xA3
  pub version_3 : version ≡ V3
  pub members_are : (members value).values ≡ list ∷ []
  pub sequence : tag list ≡ 0x30
  pub extensions_are : AreExtensions list extensions

abbrev pub AreOptionalExtensions : List Place → Version → Extensions → Type 0
AreOptionalExtensions [] version extensions = extensions ≡ no_extensions
AreOptionalExtensions (value ∷ []) version extensions = AreTaggedExtensions value version extensions
AreOptionalExtensions (value ∷ other ∷ values) version extensions = ⊥

-- TBSCertificate ::= SEQUENCE { version [0], serialNumber, signature, issuer, validity, subject, subjectPublicKeyInfo,
-- issuerUniqueID [1], subjectUniqueID [2], extensions [3] } (4.1.2)
pub record IsTbsCertificate (value : Place) (fields : TbsCertificate) : Type 0 where
  pub versions : List Place
  pub signature : Place
  pub issuer : Place
  pub validity : Place
  pub subject : Place
  pub key_info : Place
  pub issuer_ids : List Place
  pub subject_ids : List Place
  pub extensions : List Place
  pub members_are :
      (members value).values
      ≡ versions ++ (fields.head.serial ∷ signature ∷ issuer ∷ validity ∷ subject ∷ key_info ∷ issuer_ids ++ (subject_ids ++ extensions))
  pub version_is : IsVersion versions fields.head.version
  pub serial_is : IsSerialNumber fields.head.serial (body fields.head.serial)
  pub signature_is : IsAlgorithmIdentifier signature fields.head.signature
  pub issuer_is : IsNameOf issuer fields.head.issuer
  pub issuer_named : fields.head.issuer.rdns ≢ []
  pub validity_is : IsValidity validity fields.head.validity
  pub subject_is : IsNameOf subject fields.subject.name
  pub key_info_is : IsSubjectPublicKeyInfo key_info fields.subject.key_info
  pub issuer_id_is : IsUniqueId 0x81 fields.head.version issuer_ids
  pub subject_id_is : IsUniqueId 0x82 fields.head.version subject_ids
  pub extensions_are : AreOptionalExtensions extensions fields.head.version fields.extensions

-- signatureValue (4.1.1.3): a BIT STRING whose bits are whole octets
pub record IsSignature (value : Place) (octets : List ℕ) : Type 0 where
  pub bit_string : tag value ≡ 0x03
  pub contents : body value ≡ 0 ∷ octets

-- Certificate ::= SEQUENCE { tbsCertificate, signatureAlgorithm, signatureValue } (4.1)
pub record IsCertificateAt (value : Place) (fields : Certificate) : Type 0 where
  pub signed : Place
  pub algorithm : Place
  pub signature : BitString
  pub tbs : TbsCertificate
  pub sequence : tag value ≡ 0x30
  pub members_are : (members value).values ≡ signed ∷ algorithm ∷ signature.value ∷ []
  pub signed_sequence : tag signed ≡ 0x30
  pub signed_is : IsTbsCertificate signed tbs
  -- signatureAlgorithm (4.1.1.2) is the algorithm identifier of the signed part
  pub same_algorithm : algorithm.octets ≡ tbs.head.signature.value.octets
  pub algorithm_sequence : tag algorithm ≡ 0x30
  pub signature_is : IsSignature signature.value signature.octets
  pub fields_are : fields ≡ certificate_with value.octets signed tbs signature

-- The octets are DER (X.690), and have the layout of a certificate with these fields.
pub record IsCertificate (octets : List ℕ) (fields : Certificate) : Type 0 where
  pub value : Value
  pub der : Encodes octets value
  pub layout : IsCertificateAt (record { octets = octets; at = 0 }) fields

-- what is read is exactly that; and its fields are the only ones
abbrev pub CertificateIsExact : Type 0
CertificateIsExact =
    (octets : List ℕ) (fields : Certificate) → AreOctets octets → (certificate octets ≡ Ok fields) ↔ IsCertificate octets fields

abbrev pub CertificateIsUnique : Type 0
CertificateIsUnique =
    (octets : List ℕ) (one other : Certificate) → AreOctets octets →
    IsCertificate octets one → IsCertificate octets other → one ≡ other

-- Revocation lists by their layout, in the words of the standard (RFC 5280, 5.1 and 5.2).
use Rattle.std.specs.Prelude.{◌≡◌, ◌≢◌, ◌↔◌, ◌⊎◌, ◌++◌, ℕ, List, [], ◌∷◌, All, Any, AllPairs, true, Some, Ok}
use Rattle.std.specs.List.{AllZip}
use Rattle.asn.specs.Value.{Value, primitive, constructed, none, more}
use Rattle.asn.specs.Encoding.{Encodes}
use Rattle.asn.specs.DerLaws.{AreOctets}
use Rattle.asn.specs.Part.{IsWhole}
use Rattle.asn.specs.Place.{Place, tag, body, body_place}
use Rattle.asn.specs.Members.{members, octets_of_each}
use Rattle.asn.specs.Time.{IsTime}
use Rattle.asn.specs.Integer.{IsNumber20}
use Rattle.cert.specs.AlgorithmIdentifier.{IsAlgorithmIdentifier}
use Rattle.cert.specs.BitString.{BitString}
use Rattle.cert.specs.CertificateForms.{IsNameOf, IsSignature}
use Rattle.cert.specs.Extension.{Extension, IsExtension}
use Rattle.statements_facts.specs.declared.profile.Profile.{Profile}
use Rattle.statements_facts.specs.declared.profile.Profile.TheVariants.{Stated, Wide}
use Rattle.cert_points.specs.PointName.{IsPointName}
use Rattle.cert_points.specs.PointName as PointName
use Rattle.statements_facts.specs.declared.scope.Scope.{Scope}
use Rattle.statements_facts.specs.declared.scope.Scope.TheVariants as S
use Rattle.statements_crl.specs.Entry.{Entry}
use Rattle.statements_crl.specs.EntryForms.{IsEntry, id_ce}
use Rattle.statements_crl.specs.IssuingPoint.{issuing_point}
use Rattle.statements_crl.specs.ListExtension.{NumberAndScope}
use Rattle.statements_crl.specs.CertificateList.{TbsCertList, CertificateList, certificate_list, certificate_list_under, list_with}

-- The value of a cRLNumber (5.2.3): CRLNumber ::= INTEGER (0..MAX), of at most 20 octets, here below 2^160, by its contents octets
pub record IsCrlNumber (one : Extension) (contents : List ℕ) : Type 0 where
  pub number : ℕ
  pub integer : Encodes (body one.value) (primitive 0x02 contents)
  pub is_number : IsNumber20 contents number

-- The value of an issuingDistributionPoint (5.2.5): SEQUENCE { distributionPoint [0], onlyContainsUserCerts [1] BOOLEAN DEFAULT FALSE,
-- onlyContainsCACerts [2] BOOLEAN DEFAULT FALSE, .. }, of which one of these two is TRUE and nothing else is there
abbrev pub HasScope : Extension → Scope → Type 0
HasScope one S.All = ⊥
HasScope one S.User = Encodes (body one.value) (constructed 0x30 (more (primitive 0x81 (0xFF ∷ [])) none))
HasScope one S.Ca = Encodes (body one.value) (constructed 0x30 (more (primitive 0x82 (0xFF ∷ [])) none))

-- the flag of a scope: none, onlyContainsUserCerts [1] TRUE or onlyContainsCACerts [2] TRUE
abbrev pub flags_of : Scope → List (List ℕ)
flags_of S.All = []
flags_of S.User = (0x81 ∷ 0x01 ∷ 0xFF ∷ []) ∷ []
flags_of S.Ca = (0x82 ∷ 0x01 ∷ 0xFF ∷ []) ∷ []

-- The value of an issuingDistributionPoint of a list that is published by distribution point: the same SEQUENCE, of distributionPoint [0],
-- a full name with these names, and of the flag of the scope. DEFAULT FALSE is not spelled out (X.690, 11.5), and nothing else is there.
pub record IsPublished (octet_string : Place) (scope : Scope) (points : List (List ℕ)) : Type 0 where
  pub name : Place
  pub flags : List Place
  pub whole : IsWhole (body octet_string)
  pub sequence : tag (body_place octet_string) ≡ 0x30
  pub members_are : (members (body_place octet_string)).values ≡ name ∷ flags
  pub full_name : IsPointName name (PointName.full_name points)
  pub flags_are : octets_of_each flags ≡ flags_of scope

-- an issuingDistributionPoint that a profile serves: of a whole list with a scope, and in the wide one of a list that is published by point
abbrev pub HasIssuingPoint : Profile → Extension → Scope → List (List ℕ) → Type 0
HasIssuingPoint Stated one scope points = HasScope one scope × (points ≡ [])
HasIssuingPoint Wide one scope points = (HasScope one scope × (points ≡ [])) ⊎ IsPublished one.value scope points

-- Extensions ::= SEQUENCE SIZE (1..MAX) OF Extension (4.2), at least the number, no two of one type: of a list (5.2), with this number
-- and scope, and these points
pub record HasListExtensions (profile : Profile) (list : Place) (fields : NumberAndScope) : Type 0 where
  pub extensions : List Extension
  pub sequence : tag list ≡ 0x30
  pub each : AllZip IsExtension (members list).values extensions
  pub types : AllPairs (λ one other. one.oid ≢ other.oid) extensions
  -- cRLNumber is id-ce 20 (5.2.3), and is there
  pub numbered : Any (λ one. one.oid ≡ id_ce 20) extensions
  pub number : All (λ one. one.oid ≡ id_ce 20 → IsCrlNumber one fields.number) extensions
  -- deltaCRLIndicator is id-ce 27 (5.2.4): a part of a list, which is not served
  pub complete : All (λ one. one.oid ≢ id_ce 27) extensions
  -- issuingDistributionPoint is id-ce 28 (5.2.5); where there is none, the list is about all certificates of its issuer
  pub scope : All (λ one. one.oid ≡ id_ce 28 → HasIssuingPoint profile one fields.scope fields.points) extensions
  pub about_all : All (λ one. one.oid ≢ id_ce 28) extensions → (fields.scope ≡ S.All) × (fields.points ≡ [])
  -- a critical one is known
  pub known : All (λ one. one.critical ≡ true → (one.oid ≡ id_ce 20) ⊎ (one.oid ≡ id_ce 28)) extensions

-- revokedCertificates SEQUENCE OF entries, OPTIONAL (5.1.2.6)
abbrev pub AreRevoked : List Place → List Entry → Type 0
AreRevoked [] entries = entries ≡ []
AreRevoked (list ∷ []) entries = (tag list ≡ 0x30) × AllZip IsEntry (members list).values entries
AreRevoked (list ∷ other ∷ values) entries = ⊥

-- TBSCertList ::= SEQUENCE { version, signature, issuer, thisUpdate, nextUpdate, revokedCertificates, crlExtensions [0] EXPLICIT } (5.1.2)
pub record IsTbsCertList (profile : Profile) (value : Place) (fields : TbsCertList) : Type 0 where
  pub version : Place
  pub signature : Place
  pub issuer : Place
  pub this_update : Place
  pub next_update : Place
  pub revoked : List Place
  pub explicit : Place
  pub extensions : Place
  pub sequence : tag value ≡ 0x30
  pub members_are :
      (members value).values
      ≡ version ∷ signature ∷ issuer ∷ this_update ∷ next_update ∷ revoked ++ explicit ∷ []
  -- Version ::= INTEGER { v1(0), v2(1), v3(2) }: v2, which lists with extensions have (5.1.2.1)
  pub version_integer : tag version ≡ 0x02
  pub version_2 : body version ≡ 1 ∷ []
  pub signature_is : IsAlgorithmIdentifier signature fields.head.signature
  pub issuer_is : IsNameOf issuer fields.head.issuer
  pub issuer_named : fields.head.issuer.rdns ≢ []
  pub this_update_is : IsTime (tag this_update) (body this_update) fields.head.this_update
  pub next_update_is : IsTime (tag next_update) (body next_update) fields.head.next_update
  pub revoked_are : AreRevoked revoked fields.entries
  pub tagged : tag explicit ≡ 0xA0
  pub one_inside : (members explicit).values ≡ extensions ∷ []
  pub extensions_are : HasListExtensions profile extensions fields.named

-- CertificateList ::= SEQUENCE { tbsCertList, signatureAlgorithm, signatureValue BIT STRING } (5.1)
pub record IsCertificateListAtUnder (profile : Profile) (value : Place) (fields : CertificateList) : Type 0 where
  pub signed : Place
  pub algorithm : Place
  pub signature : BitString
  pub tbs : TbsCertList
  pub sequence : tag value ≡ 0x30
  pub members_are : (members value).values ≡ signed ∷ algorithm ∷ signature.value ∷ []
  pub signed_is : IsTbsCertList profile signed tbs
  -- signatureAlgorithm (5.1.1.2) is the algorithm identifier of the signed part
  pub algorithm_sequence : tag algorithm ≡ 0x30
  pub same_algorithm : algorithm.octets ≡ tbs.head.signature.value.octets
  pub signature_is : IsSignature signature.value signature.octets
  pub fields_are : fields ≡ list_with signed tbs signature

-- The octets are DER (X.690), and have the layout of a list with these fields.
pub record IsCertificateListUnder (profile : Profile) (octets : List ℕ) (fields : CertificateList) : Type 0 where
  pub value : Value
  pub der : Encodes octets value
  pub layout : IsCertificateListAtUnder profile (record { octets = octets; at = 0 }) fields

-- the same in the stated profile
abbrev pub IsCertificateListAt : Place → CertificateList → Type 0
IsCertificateListAt = IsCertificateListAtUnder Stated

abbrev pub IsCertificateList : List ℕ → CertificateList → Type 0
IsCertificateList = IsCertificateListUnder Stated

-- what is read is exactly that; and its fields are the only ones
abbrev pub CertificateListIsExactUnder : Profile → Type 0
CertificateListIsExactUnder profile =
    (octets : List ℕ) (fields : CertificateList) → AreOctets octets →
    (certificate_list_under profile octets ≡ Ok fields) ↔ IsCertificateListUnder profile octets fields

abbrev pub CertificateListIsUniqueUnder : Profile → Type 0
CertificateListIsUniqueUnder profile =
    (octets : List ℕ) (one other : CertificateList) → AreOctets octets →
    IsCertificateListUnder profile octets one → IsCertificateListUnder profile octets other → one ≡ other

abbrev pub CertificateListIsExact : Type 0
CertificateListIsExact =
    (octets : List ℕ) (fields : CertificateList) → AreOctets octets →
    (certificate_list octets ≡ Ok fields) ↔ IsCertificateList octets fields

abbrev pub CertificateListIsUnique : Type 0
CertificateListIsUnique =
    (octets : List ℕ) (one other : CertificateList) → AreOctets octets →
    IsCertificateList octets one → IsCertificateList octets other → one ≡ other

-- In the stated profile a list is whole,
abbrev pub StatedListsAreWhole : Type 0
StatedListsAreWhole =
    (octets : List ℕ) (fields : CertificateList) → AreOctets octets →
    certificate_list octets ≡ Ok fields → fields.points ≡ []

-- and is read as the same in the wide one.
abbrev pub StatedListsAreReadWide : Type 0
StatedListsAreReadWide =
    (octets : List ℕ) (fields : CertificateList) → AreOctets octets →
    certificate_list octets ≡ Ok fields → certificate_list_under Wide octets ≡ Ok fields

-- What an issuingDistributionPoint is read as, in a profile, is what it says.
abbrev pub IssuingPointIsExact : Type 0
IssuingPointIsExact =
    (profile : Profile) (one : Extension) (scope : Scope) (points : List (List ℕ)) → AreOctets (body one.value) →
    (issuing_point profile one.value ≡ Some (record { scope = scope; points = points }))
    ↔ HasIssuingPoint profile one scope points

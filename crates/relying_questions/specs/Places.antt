-- Where the parts of questions stand.
use Rattle.std.specs.Prelude.{◌≡◌, ◌<◌, ◌+◌, ◌-◌, ℕ, suc, List, [], ◌∷◌, ◌++◌, length, map, take, slice_index_or, Ok}
use Rattle.std.specs.List.{AllByRecursion, AllZip}
use Rattle.asn.specs.DerLaws.{AreOctets}
use Rattle.asn.specs.Part.{IsPartOf}
use Rattle.asn.specs.Place.{Place, body, body_place}
use Rattle.cert.specs.BitString.{BitString}
use Rattle.cert.specs.Certificate.{Certificate, seen_certificate}
use Rattle.cert.specs.Offsets.{StandsIn}
use Rattle.path.specs.Query.{Query}
use Rattle.path_issuers.specs.Links.{anchor_at, certificate_at}
use Rattle.path_issuers.specs.Search.{Search}
use Rattle.statements_facts.specs.declared.profile.Profile.{Profile}
use Rattle.statements.specs.OneIssuer.{WasRead}
use Rattle.statements.specs.Statement.{Statement, statement_under}
use Rattle.statements_crl.specs.CertificateList.{CertificateList}
use Rattle.statements_ocsp.specs.OcspResponse.{OcspResponse}
use Rattle.relying_agreement.specs.Link.{Link}
use Rattle.relying_search.specs.View.{seen_link}
use Rattle.relying_search.specs.declared.link.Link as linked
use Rattle.relying_questions.specs.declared.question.SignatureQuestion as asked
use Rattle.relying_questions.specs.declared.part.TextPart as part
use Rattle.relying_questions.specs.declared.part.WhichText.{WhichText}
use Rattle.relying_questions.specs.declared.part.WhichText.TheVariants as source
use Rattle.relying_questions.specs.declared.placed.Placed as placed

-- ---- the texts

abbrev pub Texts : Type 0
Texts = WhichText → List ℕ

-- those of certificates, the anchor first, and of statements; what is not there has no octets
abbrev pub texts_at : List (List ℕ) → List (List ℕ) → Texts
texts_at certificates statements (source.Certificate number) = slice_index_or certificates number []
texts_at certificates statements (source.Statement index) = slice_index_or statements index []

abbrev pub certificate_octets : List Certificate → List (List ℕ)
certificate_octets certificates = map (λ (c : Certificate). c.octets) certificates

-- those of a path, and these of statements
abbrev pub texts_in : Query → List (List ℕ) → Texts
texts_in query octets = texts_at (certificate_octets (query.anchor ∷ query.certificates)) octets

-- the certificates of a search: the anchors, then the target, then the bag
abbrev pub certificates_of : Search → List Certificate
certificates_of s = s.anchors ++ s.target ∷ s.bag

-- their texts, and these of statements
abbrev pub texts_searched : Search → List (List ℕ) → Texts
texts_searched s octets = texts_at (certificate_octets (certificates_of s)) octets

abbrev pub certificate_text : Texts → ℕ → List ℕ
certificate_text texts number = texts (source.Certificate number)

abbrev pub statement_text : Texts → ℕ → List ℕ
statement_text texts index = texts (source.Statement index)

-- the part stands in its text, at its offset
pub record Stands (texts : Texts) (part : part.TextPart) : Type 0 where
  pub is_part : IsPartOf (texts part.source) part.at part.octets.now
  -- it is not the empty part at the begin of no octets, so its source is there
  pub is_there : 0 < part.at + length part.octets.now

-- the four parts of a question
pub record AreInTexts (texts : Texts) (asked : asked.SignatureQuestion) : Type 0 where
  pub algorithm : Stands texts asked.algorithm
  pub key_info : Stands texts asked.key_info
  pub message : Stands texts asked.message
  pub signature : Stands texts asked.signature

-- those of each question
abbrev pub AllInTexts : Texts → List asked.SignatureQuestion → Type 0
AllInTexts texts asked = AllByRecursion (AreInTexts texts) asked

-- In each text in which the premise holds, questions whose parts stand there are added.
abbrev pub KeepsInTexts : (Texts → Type 0) → List asked.SignatureQuestion → List asked.SignatureQuestion → Type 0
KeepsInTexts Premise old new = (texts : Texts) → Premise texts → AllInTexts texts old → AllInTexts texts new

-- The certificate was read from its octets, in whichever profile: they differ in constraints and in the names of points, and no question is
-- about these.
pub record WasReadInSomeProfile (c : Certificate) : Type 0 where
  pub read : Certificate
  pub was_read : WasRead read
  pub same : c ≡ record read { extensions = c.extensions; points = c.points; hosts = c.hosts }

-- the certificates of the query were read from their octets
abbrev pub WereRead : Query → Type 0
WereRead query = AllByRecursion WasReadInSomeProfile (query.anchor ∷ query.certificates)

-- the statements were read from these octets, one by one, in whichever profile
pub record WasStatementRead (octets : List ℕ) (read : Statement) : Type 0 where
  pub profile : Profile
  pub are_octets : AreOctets octets
  pub reads : statement_under profile octets ≡ Ok read

abbrev pub WereStatementsRead : List (List ℕ) → List Statement → Type 0
WereStatementsRead octets statements = AllZip WasStatementRead octets statements

-- If certificates and statements were read from octets, each part stands in its text, at its offset.
abbrev pub StandWhereRead : Query → List Statement → List asked.SignatureQuestion → Type 0
StandWhereRead query statements asked =
    (octets : List (List ℕ)) → WereRead query → WereStatementsRead octets statements →
    AllInTexts (texts_in query octets) asked

-- the certificates of the search were read from their octets
abbrev pub WereReadForSearch : Search → Type 0
WereReadForSearch s = AllByRecursion WasReadInSomeProfile (certificates_of s)

-- the same of the certificates of a search
abbrev pub StandWhereSearched : Search → List Statement → List asked.SignatureQuestion → Type 0
StandWhereSearched s statements asked =
    (octets : List (List ℕ)) → WereReadForSearch s → WereStatementsRead octets statements →
    AllInTexts (texts_searched s octets) asked

-- ---- what is signed

-- the place stands in the text
abbrev pub IsPlaceIn : List ℕ → Place → Type 0
IsPlaceIn text place = IsPartOf text place.at place.octets

-- where the octets of a BIT STRING begin, behind the count of unused bits
abbrev pub bits_at : Place → ℕ
bits_at value = (body_place value).at + length (take 1 (body value))

-- what is signed, the algorithm identifier and the octets of the signature stand in the text
pub record AreSignedIn (text : List ℕ) (message algorithm : Place) (signature : BitString) : Type 0 where
  pub message_stands : IsPlaceIn text message
  pub algorithm_stands : IsPlaceIn text algorithm
  pub signature_stands : IsPartOf text (bits_at signature.value) signature.octets

-- ---- certificates

-- the parts that a verifier is asked about stand in the text
pub record HasParts (text : List ℕ) (c : Certificate) : Type 0 where
  pub signed : AreSignedIn text c.tbs c.algorithm.value c.signature
  pub key_info : IsPlaceIn text c.key_info.value

abbrev pub placed_certificate : placed.Placed → Certificate
placed_certificate placed = seen_certificate placed.certificate.now

abbrev pub IsPlaced : Texts → placed.Placed → Type 0
IsPlaced texts placed = HasParts (texts placed.source) (placed_certificate placed)

abbrev pub placed_certificates : List placed.Placed → List Certificate
placed_certificates placed = map placed_certificate placed

abbrev pub ArePlaced : Texts → List placed.Placed → Type 0
ArePlaced texts placed = AllByRecursion (IsPlaced texts) placed

-- a certificate of a path and the one above it have their parts in the texts with their numbers
pub record LinkStands (texts : Texts) (link : Link) : Type 0 where
  pub issuer : HasParts (texts (source.Certificate (link.number - 1))) link.issuer
  pub certificate : HasParts (texts (source.Certificate link.number)) link.certificate

abbrev pub LinksStand : Texts → List linked.Link → Type 0
LinksStand texts links = AllByRecursion (LinkStands texts) (map seen_link links)

-- the certificates of a search have their parts in the texts with their numbers
pub record SearchStands (texts : Texts) (s : Search) : Type 0 where
  pub anchors : (place : ℕ) → place < length s.anchors → HasParts (certificate_text texts place) (anchor_at s place)
  pub target : HasParts (certificate_text texts (length s.anchors)) s.target
  pub bag : (place : ℕ) → place < length s.bag → HasParts (certificate_text texts (length s.anchors + 1 + place)) (certificate_at s place)

-- ---- statements

abbrev pub ListStands : List ℕ → CertificateList → Type 0
ListStands text list = AreSignedIn text list.tbs list.algorithm.value list.signature

-- the parts of a response, and the values that come with it
pub record ResponseStands (text : List ℕ) (response : OcspResponse) : Type 0 where
  pub signed : AreSignedIn text response.tbs response.algorithm.value response.signature
  pub certs : AllByRecursion (StandsIn text) response.certs

abbrev pub StatementStands : List ℕ → Statement → Type 0
StatementStands text (Statement.OfList list) = ListStands text list
StatementStands text (Statement.OfResponse profile response) = ResponseStands text response

-- those from an index on
abbrev pub StatementsStand : Texts → ℕ → List Statement → Type 0
StatementsStand texts index [] = Unit {0}
StatementsStand texts index (read ∷ statements) =
    StatementStands (statement_text texts index) read × StatementsStand texts (suc index) statements

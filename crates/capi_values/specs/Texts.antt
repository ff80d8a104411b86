-- What is handed in, in texts: a query about a path (RFC 5280, 6.1.1), and statements.
use Rattle.std.specs.Prelude.{◌≡◌, ◌<◌, ◌++◌, ◌==◌, if◌then◌else◌, ℕ, List, [], ◌∷◌, length, map, slice_index_or, Option, Some, None, Result, Ok}
use Rattle.std.specs.List.{AllByRecursion}
use Rattle.asn.specs.DerLaws.{AreOctets}
use Rattle.cert.specs.Certificate.{Certificate, seen_certificate}
use Rattle.cert.specs.declared.certificate.Certificate as of_cert
use Rattle.cert.specs.declared.fault.CertRule.{CertRule}
use Rattle.path.specs.Query.{Query}
use Rattle.path.specs.InProfile.{certificate_in}
use Rattle.path.specs.ProfileReading as reading
use Rattle.path.specs.declared.options.Options.{Options}
use Rattle.statements.specs.Statement.{Statement}
use Rattle.statements_facts.specs.declared.profile.Profile.{Profile}
use Rattle.statements_facts.specs.declared.profile.Profile.TheVariants.{Stated, Wide}
use Rattle.relying_texts.specs.Reading.{AreStatementsReadUnder}
use Rattle.capi_values.specs.declared.texts.Text.{Text}
use Rattle.capi_values.specs.declared.texts.QueryOfTexts as code

abbrev pub octets_of_texts : List Text → List (List ℕ)
octets_of_texts texts = map (λ (text : Text). text.octets.now) texts

-- no octet is greater than 255
abbrev pub AreAllOctets : List (List ℕ) → Type 0
AreAllOctets texts = AllByRecursion AreOctets texts

-- any number but 0 asks for the wide profile
abbrev pub profile_of : ℕ → Profile
profile_of wide = if wide == 0 then Stated else Wide

-- what is asked for besides
abbrev pub options_in : Profile → Options
options_in profile = record { profile = profile }

abbrev pub options_of : ℕ → Options
options_of wide = options_in (profile_of wide)

-- The certificates of a query or of a search, and the profile in which they are read. Anchors are read alike in both: of them only the
-- name and the key are used, and no list speaks of them, so they have no points.
pub record CertificateTexts : Type 0 where
  pub profile : Profile
  pub anchors : List (List ℕ)
  pub others : List (List ℕ)

-- their octets, by their numbers
abbrev pub numbered : CertificateTexts → List (List ℕ)
numbered texts = texts.anchors ++ texts.others

-- the certificates of a query, the anchor first
abbrev pub query_certificates : code.QueryOfTexts → CertificateTexts
query_certificates query = record {
  profile = profile_of query.wide;
  anchors = query.anchor.octets.now ∷ [];
  others = octets_of_texts query.path.now;
}

abbrev pub certificate_texts : code.QueryOfTexts → List (List ℕ)
certificate_texts query = numbered (query_certificates query)

-- the purpose, if there are octets of one
abbrev pub purpose_if_any : List ℕ → Option (List ℕ)
purpose_if_any [] = None
purpose_if_any (octet ∷ octets) = Some (octet ∷ octets)

-- a certificate, or the first fault and its place
abbrev pub Reading : Type 0
Reading = Result Certificate (CertRule × ℕ)

-- what texts are read as in a profile
abbrev pub readings_under : Profile → List (List ℕ) → List Reading
readings_under profile texts = map (certificate_in profile) texts

-- what certificates are read as, by their numbers
abbrev pub readings : CertificateTexts → List Reading
readings texts = readings_under Stated texts.anchors ++ readings_under texts.profile texts.others

-- readings of which none is refused
abbrev pub all_read : List Certificate → List Reading
all_read these = map (λ c. Ok c) these

-- the readings of certificates that were read, and of such a list to which those with these readings were added
abbrev pub all_seen : List of_cert.Certificate → List Reading
all_seen certificates = all_read (map seen_certificate certificates)

abbrev pub AddReadings : List of_cert.Certificate → List of_cert.Certificate → List Reading → Type 0
AddReadings old new added = all_seen new ≡ all_seen old ++ added

-- the certificates are what the texts are
abbrev pub AreCertificates : CertificateTexts → List Certificate → Type 0
AreCertificates texts these = readings texts ≡ all_read these

-- what was read is the query, with the options that it asks for
abbrev pub IsQueryRead : code.QueryOfTexts → Query → Type 0
IsQueryRead query read =
    reading.IsQueryRead (options_of query.wide) query.anchor.octets.now (octets_of_texts query.path.now) query.moment
    (purpose_if_any query.purpose.octets.now) read

-- what was read is the query, and these are the statements
pub record IsRead (query : code.QueryOfTexts) (statements : List Text) (read : Query) (these : List Statement) : Type 0 where
  pub query_is : IsQueryRead query read
  pub statements_are : AreStatementsReadUnder (profile_of query.wide) (octets_of_texts statements) these

-- the text with the index is there, and has these octets
abbrev pub IsAt : List (List ℕ) → ℕ → List ℕ → Type 0
IsAt texts index octets = (index < length texts) × (slice_index_or texts index [] ≡ octets)

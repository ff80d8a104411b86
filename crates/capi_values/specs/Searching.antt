-- What is searched, in texts (RFC 4158): anchors, the certificate in question, and others in any order.
use Rattle.std.specs.Prelude.{◌≡◌, ℕ, List, ◌∷◌, length}
use Rattle.path_issuers.specs.Search.{Search}
use Rattle.statements.specs.Statement.{Statement}
use Rattle.relying_search.specs.declared.finding.FindingBudget.{FindingBudget}
use Rattle.relying_texts.specs.Reading.{AreStatementsReadUnder}
use Rattle.relying_questions.specs.Places.{certificates_of}
use Rattle.capi_values.specs.Texts.{AreCertificates, CertificateTexts, numbered, octets_of_texts, options_of, profile_of, purpose_if_any}
use Rattle.capi_values.specs.declared.searching.Limits.{Limits}
use Rattle.capi_values.specs.declared.searching.SearchOfTexts.{SearchOfTexts}
use Rattle.capi_values.specs.declared.texts.Text.{Text}

-- its certificates: the anchors, then the target, then the bag
abbrev pub search_certificates : SearchOfTexts → CertificateTexts
search_certificates search = record {
  profile = profile_of search.wide;
  anchors = octets_of_texts search.anchors.now;
  others = search.target.octets.now ∷ octets_of_texts search.bag.now;
}

abbrev pub search_texts : SearchOfTexts → List (List ℕ)
search_texts search = numbered (search_certificates search)

-- the certificates are what the texts are, and as many are anchors as were handed in as such
pub record AreSearchCertificates (search : SearchOfTexts) (read : Search) : Type 0 where
  pub certificates : AreCertificates (search_certificates search) (certificates_of read)
  pub anchors : length read.anchors ≡ length search.anchors.now

-- what was read is the search, with the options that it asks for
pub record IsSearchRead (search : SearchOfTexts) (read : Search) : Type 0 where
  pub certificates_are : AreSearchCertificates search read
  pub moment : read.moment ≡ search.moment
  pub purpose : read.purpose ≡ purpose_if_any search.purpose.octets.now
  pub options : read.options ≡ options_of search.wide

-- what was read is the search, and these are the statements
pub record IsSearchReadWith (search : SearchOfTexts) (statements : List Text) (read : Search) (these : List Statement) : Type 0 where
  pub search_is : IsSearchRead search read
  pub statements_are : AreStatementsReadUnder (profile_of search.wide) (octets_of_texts statements) these

-- what it may spend
abbrev pub budget_of : Limits → FindingBudget
budget_of limits = record {
  search = record { signatures = limits.signatures; steps = limits.steps };
  verdicts = limits.verdicts;
}

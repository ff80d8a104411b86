-- What is done on the way of a search.
use Rattle.std.specs.Prelude.{◌≡◌, ◌⊎◌, ℕ, Bool, List, [], Option, map}
use Rattle.cert.specs.Certificate.{Certificate}
use Rattle.names_identity.specs.Identity.{ReferenceIdentity}
use Rattle.path_issuers.specs.Search.{Search}
use Rattle.path_search.specs.Answer.{seen_candidate}
use Rattle.relying_search.specs.declared.finding.Finding.{Finding}
use Rattle.relying_search.specs.declared.finding.Finding.TheVariants as Of
use Rattle.cli_answers.specs.SearchText.{seen_place}
use Rattle.cli_answers.specs.declared.search_verdict.SearchVerdict.TheVariants.{NotFound, GaveUp}
use Rattle.cli_failures.specs.declared.failure.Failure.{Failure}
use Rattle.cli_failures.specs.declared.failure.Failure.TheVariants.{NoMemory}
use Rattle.cli_operands.specs.Searching.{AreCertificatesOfSearch, ArePlacesIn, IsRefusalInSearch, IsSearchFor}
use Rattle.cli_operands.specs.declared.search_files.SearchCertificates.{SearchCertificates}
use Rattle.cli_operands.specs.declared.search_files.SearchOperands.{SearchOperands}
use Rattle.cli_operands.specs.declared.terms.Terms.{Terms}
use Rattle.cli_steps.specs.Found.{IsToldOf}
use Rattle.cli_steps.specs.SearchPrints.{AreSearchLines}
use Rattle.cli_steps.specs.declared.found.FoundPath.{FoundPath}

-- the search on these terms among the certificates of the operands
abbrev pub IsSearchIn : SearchOperands → Terms → Search → Type 0
IsSearchIn it terms s =
    (read : SearchCertificates) × AreCertificatesOfSearch it read × IsSearchFor read terms s

-- the lines of what a verifier may be asked in a search among their certificates
abbrev pub ArePrintsOf : SearchOperands → Bool → List ℕ → Type 0
ArePrintsOf it with_parts text =
    (terms : Terms) × ((s : Search) × IsSearchIn it terms s × AreSearchLines s with_parts text)

-- why there are none: one is refused, or memory ran out
abbrev pub IsNoPrintOf : SearchOperands → Failure → Type 0
IsNoPrintOf it failure = IsRefusalInSearch it failure ⊎ (failure ≡ NoMemory)

-- the answer, with the places of certificates in the files of the operands
abbrev pub AnswersIn : SearchOperands → Option ReferenceIdentity → Certificate → Finding → FoundPath → Type 0
AnswersIn it name target (Of.Found c verdict) answer =
    ArePlacesIn it (seen_candidate c) (map seen_place answer.path.items) × IsToldOf name target verdict answer.verdict
AnswersIn it name target Of.NotFound answer = (answer.path.items ≡ []) × (answer.verdict ≡ NotFound)
AnswersIn it name target Of.GaveUp answer = (answer.path.items ≡ []) × (answer.verdict ≡ GaveUp)

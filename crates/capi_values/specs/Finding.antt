-- What is found, as numbers: a verdict, and the certificates of its path by their numbers in the search.
use Rattle.std.specs.Prelude.{◌≡◌, ◌⊎◌, ◌+◌, ◌++◌, ◌<◌, ◌^◌, ℕ, List, [], ◌∷◌, length, map, reverse}
use Rattle.std.specs.List.{AllByRecursion}
use Rattle.path.specs.Query.{Accepts}
use Rattle.path_issuers.specs.Search.{Candidate, Search}
use Rattle.statements.specs.Statement.{Statement}
use Rattle.relying_search.specs.Finding.{Finding, IsFinding}
use Rattle.relying_questions.specs.Agreement.{AcceptsPrints}
use Rattle.relying_texts.specs.Texts.{held_for}
use Rattle.capi_values.specs.Arrays.{AreWrittenTo}
use Rattle.capi_values.specs.Refusal.{TellsRefusal}
use Rattle.capi_values.specs.Searching.{IsSearchReadWith, budget_of, search_certificates}
use Rattle.capi_values.specs.Verdict.{TellsVerdict, refusal_answer, verdict_numbers}
use Rattle.capi_values.specs.declared.answer.VerdictAnswer.{VerdictAnswer}
use Rattle.capi_values.specs.declared.finding.FindingAnswer.{FindingAnswer}
use Rattle.capi_values.specs.declared.refusal.Refusal.{Refusal}
use Rattle.capi_values.specs.declared.searching.SearchOfTexts.{SearchOfTexts}
use Rattle.capi_values.specs.declared.texts.Text.{Text}

-- the certificates of a path by their numbers, the anchor first and the target last, where there are so many anchors
abbrev pub path_numbers : ℕ → Candidate → List ℕ
path_numbers anchors c = c.anchor ∷ (map (λ place. anchors + 1 + place) (reverse c.above) ++ anchors ∷ [])

-- the answer has this verdict, and no path
abbrev pub without_path : VerdictAnswer → FindingAnswer
without_path verdict = record { verdict = verdict; path_count = 0 }

-- where there are so many anchors; 6 stands for no valid path, and 7 for limits that are used up
abbrev pub TellsFinding : ℕ → FindingAnswer → List ℕ → List ℕ → Finding → Type 0
TellsFinding anchors answer old new (Finding.Found c verdict) =
    TellsVerdict answer.verdict verdict × AreWrittenTo (path_numbers anchors c) old new answer.path_count
TellsFinding anchors answer old new Finding.NotFound = (answer ≡ without_path (verdict_numbers 6 0 0)) × (new ≡ old)
TellsFinding anchors answer old new Finding.GaveUp = (answer ≡ without_path (verdict_numbers 7 0 0)) × (new ≡ old)

-- the certificates at these places of the bag have numbers that fit into 64 bits
abbrev pub HavePlaces : ℕ → List ℕ → Type 0
HavePlaces anchors places = AllByRecursion (λ place. anchors + 1 + place < 2 ^ 64) places

abbrev pub HasNumbers : ℕ → Finding → Type 0
HasNumbers anchors (Finding.Found c verdict) = HavePlaces anchors c.above
HasNumbers anchors Finding.NotFound = Unit {0}
HasNumbers anchors Finding.GaveUp = Unit {0}

-- What who accepts so finds by the statements, within the limits.
pub record IsFindingFor (accepts : Accepts) (search : SearchOfTexts) (statements : List Text) (finding : Finding) : Type 0 where
  pub read : Search
  pub these : List Statement
  pub is_read : IsSearchReadWith search statements read these
  pub is_finding : IsFinding accepts (held_for accepts these) read (budget_of search.limits) finding

-- The same of who accepts exactly the signatures that have these fingerprints.
pub record IsFindingOn (search : SearchOfTexts) (statements : List Text) (prints : List (List ℕ)) (finding : Finding) : Type 0 where
  pub accepts : Accepts
  pub accepts_prints : AcceptsPrints accepts prints
  pub is_finding : IsFindingFor accepts search statements finding

-- a text is refused; then there is no path
abbrev pub TellsSearchRefusal : SearchOfTexts → List Text → FindingAnswer → List ℕ → List ℕ → Refusal → Type 0
TellsSearchRefusal search statements answer old new told =
    TellsRefusal (search_certificates search) statements told × (answer ≡ without_path (refusal_answer told)) × (new ≡ old)

-- the answer tells what is found
abbrev pub TellsFound : SearchOfTexts → List Text → List (List ℕ) → List ℕ → List ℕ → FindingAnswer → Type 0
TellsFound search statements prints old new answer =
    (finding : Finding) × IsFindingOn search statements prints finding × TellsFinding (length search.anchors.now) answer old new finding

-- or what is refused
abbrev pub TellsSearchAnswer : FindingAnswer → SearchOfTexts → List Text → List (List ℕ) → List ℕ → List ℕ → Type 0
TellsSearchAnswer answer search statements prints old new =
    TellsFound search statements prints old new answer
    ⊎ ((told : Refusal) × TellsSearchRefusal search statements answer old new told)

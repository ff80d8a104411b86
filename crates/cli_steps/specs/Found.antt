-- Searches of commands: what is read and passed to a receiver, and what is answered.
use Rattle.std.specs.Prelude.{◌≡◌, ◌⊎◌, ℕ, List, [], ◌++◌, Option, Some, None, Result, Ok, Err, map}
use Rattle.cert.specs.Certificate.{Certificate}
use Rattle.names_identity.specs.Identity.{ReferenceIdentity, SpeaksFor}
use Rattle.path.specs.Query.{Accepts}
use Rattle.path_issuers.specs.Search.{IsCandidate, Search}
use Rattle.path_search.specs.Answer.{seen_candidate}
use Rattle.relying_agreement.specs.declared.verdict.Verdict.{Verdict}
use Rattle.relying_agreement.specs.declared.verdict.Verdict.TheVariants.{Valid}
use Rattle.relying_search.specs.declared.finding.Finding.{Finding}
use Rattle.relying_search.specs.declared.finding.Finding.TheVariants as Of
use Rattle.relying_search.specs.declared.finding.FindingBudget.{FindingBudget}
use Rattle.cli_answers.specs.SearchText.{path_lines, search_verdict_line, seen_place}
use Rattle.cli_answers.specs.declared.search_verdict.SearchVerdict.{SearchVerdict}
use Rattle.cli_answers.specs.declared.search_verdict.SearchVerdict.TheVariants.{Told, OtherName, NotFound, GaveUp}
use Rattle.cli_failures.specs.Failures.{Holding}
use Rattle.cli_failures.specs.declared.failure.Failure.{Failure}
use Rattle.cli_failures.specs.declared.failure.Failure.TheVariants.{NoMemory}
use Rattle.cli_operands.specs.Asked.{AreBadTerms, HoldsFingerprints, IsFailureOnFingerprints, MakeTerms}
use Rattle.cli_operands.specs.InOrder.{FailsFirst}
use Rattle.cli_operands.specs.Name.{IsBadName, IsNameOf}
use Rattle.cli_operands.specs.Searching.{ArePlacesOf, AsksToFind, IsFailureOfSearched}
use Rattle.cli_words.specs.SearchTexts.{SearchTexts}
use Rattle.cli_steps.specs.Commands.{BelievesFile}
use Rattle.cli_steps.specs.Passing.{PassesOn}
use Rattle.cli_steps.specs.declared.found.FoundPath.{FoundPath}

-- what a search of a command may spend
abbrev pub usual_budget : FindingBudget
usual_budget = record { search = record { signatures = 1000; steps = 10000 }; verdicts = 32 }

-- a call of a receiver with a search: its states before and behind it, what its verifier accepts, the search, what that may spend, and the
-- result
abbrev pub FindingBy : Type 0 → Type 1
FindingBy R = R → R → Accepts → Search → FindingBudget → Result Finding Failure → Type 0

-- ---- what is asked

-- the texts, with this name in place of theirs
abbrev pub with_name : Option (List ℕ) → SearchTexts → SearchTexts
with_name name texts = record texts { name = name }

-- what is searched, and for whom the target is to speak
pub record SearchAsked : Type 0 where
  pub search : Search
  pub name : Option ReferenceIdentity

-- as the texts say
pub record IsAskedToFind (holds : Holding) (texts : SearchTexts) (asked : SearchAsked) : Type 0 where
  pub name : IsNameOf texts.name asked.name
  pub search : AsksToFind holds texts asked.search

-- What is wrong with the texts, the first of it: the moment, the purpose, the name; then this, if they are right.
abbrev pub FailsBehindName : SearchTexts → (Failure → Type 0) → Failure → Type 0
FailsBehindName texts next =
    FailsFirst (AreBadTerms texts.moment texts.purpose) (MakeTerms texts.moment texts.purpose)
    (FailsFirst (IsBadName texts.name) ((name : Option ReferenceIdentity) × IsNameOf texts.name name) next)

-- In a line of a session the certificates come next.
abbrev pub IsFailureOfSearch : Holding → SearchTexts → Failure → Type 0
IsFailureOfSearch holds texts = FailsBehindName texts (IsFailureOfSearched holds texts)

-- On a command line the file of verdicts is read between.
abbrev pub IsFailureOfFind : Holding → List ℕ → SearchTexts → Failure → Type 0
IsFailureOfFind holds verdicts texts =
    FailsBehindName texts
    (FailsFirst (IsFailureOnFingerprints holds verdicts)
    ((prints : List (List ℕ)) × HoldsFingerprints holds verdicts prints)
    (IsFailureOfSearched holds texts))

-- ---- what is answered

-- the target speaks for the name, if one is asked for (RFC 9525, 6)
abbrev pub SpeaksForName : Option ReferenceIdentity → Certificate → Type 0
SpeaksForName None target = Unit {0}
SpeaksForName (Some name) target = SpeaksFor target.extensions.alternative_names name

-- the verdict on the path; or that it is Valid, and the target does not speak for the name
abbrev pub IsToldOf : Option ReferenceIdentity → Certificate → Verdict → SearchVerdict → Type 0
IsToldOf name target verdict (Told told) = (told ≡ verdict) × (verdict ≡ Valid → SpeaksForName name target)
IsToldOf name target verdict OtherName = (verdict ≡ Valid) × ¬ SpeaksForName name target
IsToldOf name target verdict NotFound = ⊥
IsToldOf name target verdict GaveUp = ⊥

-- the certificates of the path that was found, from the anchor down to the target, and the verdict on it; or that none was found
abbrev pub AnswersFinding : Holding → SearchTexts → SearchAsked → Finding → FoundPath → Type 0
AnswersFinding holds texts asked (Of.Found c verdict) answer =
    (IsCandidate asked.search (seen_candidate c) → ArePlacesOf holds texts (seen_candidate c) (map seen_place answer.path.items))
    × IsToldOf asked.name asked.search.target verdict answer.verdict
AnswersFinding holds texts asked Of.NotFound answer = (answer.path.items ≡ []) × (answer.verdict ≡ NotFound)
AnswersFinding holds texts asked Of.GaveUp answer = (answer.path.items ≡ []) × (answer.verdict ≡ GaveUp)

-- a receiver found something, and this is answered to it; or it failed; or memory ran out behind it
abbrev pub FindsThen : {R : Type 0} → FindingBy R → (Finding → FoundPath → Type 0) → R → R → Accepts → Search → Result FoundPath Failure → Type 0
FindsThen Finds Answers old new accepts s (Ok answer) =
    (finding : Finding) × Finds old new accepts s usual_budget (Ok finding) × Answers finding answer
FindsThen Finds Answers old new accepts s (Err failure) =
    Finds old new accepts s usual_budget (Err failure)
    ⊎ ((finding : Finding) × Finds old new accepts s usual_budget (Ok finding) × (failure ≡ NoMemory))

-- the search that the texts ask for is passed to a receiver, with a verifier that accepts so
abbrev pub FindsByTexts : {R : Type 0} → Holding → Accepts → SearchTexts → FindingBy R → R → R → Result FoundPath Failure → Type 0
FindsByTexts holds accepts texts Finds =
    PassesOn (IsAskedToFind holds texts) (IsFailureOfSearch holds texts)
    (λ old new asked. FindsThen Finds (AnswersFinding holds texts asked) old new accepts asked.search)

-- with one that accepts just the signatures whose fingerprints the file of verdicts lists
abbrev pub FindsBelieving : {R : Type 0} → Holding → List ℕ → SearchTexts → FindingBy R → R → R → Result FoundPath Failure → Type 0
FindsBelieving holds verdicts texts Finds =
    PassesOn (λ (asked : Accepts × SearchAsked). BelievesFile holds verdicts asked.0 × IsAskedToFind holds texts asked.1)
    (IsFailureOfFind holds verdicts texts)
    (λ old new asked. FindsThen Finds (AnswersFinding holds texts asked.1) old new asked.0 asked.1.search)

-- ---- how it is written

-- a line for each certificate, and then one for the verdict
abbrev pub found_text : FoundPath → List ℕ
found_text answer = path_lines 0 (map seen_place answer.path.items) ++ search_verdict_line answer.verdict

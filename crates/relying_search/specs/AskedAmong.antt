-- Where a search for a verdict stands, as it asks about one valid path after the other, and passes over those that do not count.
use Rattle.std.specs.Prelude.{◌≡◌, ◌≢◌, ◌+◌, ℕ, List, Option, Some, None, length}
use Rattle.std.specs.List.{AllByRecursion}
use Rattle.std.specs.Option.{option_or}
use Rattle.path.specs.Query.{Accepts}
use Rattle.path_issuers.specs.Search.{Search, Candidate}
use Rattle.path_search.specs.Answer.{IsNextValid, seen_candidate}
use Rattle.path_search.specs.Paths.{AnswersNext, ArePaths}
use Rattle.path_search.specs.declared.paths.Paths.{Paths}
use Rattle.path_search.specs.declared.answer.Answer.{Answer}
use Rattle.path_search.specs.declared.answer.Answer.TheVariants as A
use Rattle.path_search.specs.declared.answer.Candidate as path
use Rattle.relying_agreement.specs.declared.verdict.Verdict.{Verdict}
use Rattle.relying_agreement.specs.declared.verdict.Verdict.TheVariants.{Valid}
use Rattle.relying_search.specs.Asked.{BeginsWith, IsUpTo, found_first}
use Rattle.relying_search.specs.Finding.{AreDescending, HasVerdict, HeldFor, seen_finding}
use Rattle.relying_search.specs.declared.finding.Finding as code
use Rattle.relying_search.specs.declared.finding.Finding.TheVariants as C
use Rattle.relying_search.specs.declared.finding.FindingBudget.{FindingBudget}
use Rattle.relying_search.specs.Among.{IsCounted, IsFindingAmong, IsFirstCounted, IsPassedOver}
use Rattle.relying_search.specs.declared.among_asked.AskedAmong.{AskedAmong}

-- the first candidate that counts, with its verdict; if there is none, no candidate up to the last one counts
abbrev pub IsFirstAskedAmong : (Candidate → Type 0) → Accepts → HeldFor → Search → Option Candidate → Option (path.Candidate × Verdict) → Type 0
IsFirstAskedAmong counts accepts held s last None = (c : Candidate) → IsUpTo last c → ¬ IsCounted counts accepts s c
IsFirstAskedAmong counts accepts held s last (Some first) =
    IsFirstCounted counts accepts s (seen_candidate first.0) × HasVerdict accepts held s (seen_candidate first.0) first.1 × (first.1 ≢ Valid)

-- so many valid candidates were asked about, down from the last one
pub record WereAskedAmong (counts : Candidate → Type 0) (accepts : Accepts) (held : HeldFor) (s : Search) (last : Option Candidate) (count : ℕ) : Type 0 where
  pub candidates : List Candidate
  pub begins : BeginsWith last candidates
  pub each : AllByRecursion (IsPassedOver counts accepts held s) candidates
  pub descending : AreDescending candidates
  pub counted : length candidates ≡ count

-- up to the last candidate each valid one was asked about, so many in all, and none counts and has the verdict Valid
pub record StandsAtAmong (counts : Candidate → Type 0) (accepts : Accepts) (held : HeldFor) (s : Search) (last : Option Candidate) (count : ℕ) (asked : AskedAmong) : Type 0 where
  pub first : IsFirstAskedAmong counts accepts held s last asked.first
  pub none : (c : Candidate) → IsUpTo last c → counts c → ¬ HasVerdict accepts held s c Valid
  pub were : WereAskedAmong counts accepts held s last count

-- the search ends with the answer, or stands at the candidate
abbrev pub GoesOnOrEndsAmong : (Candidate → Type 0) → Accepts → HeldFor → Search → Candidate → ℕ → AskedAmong → Option code.Finding → Type 0
GoesOnOrEndsAmong counts accepts held s c count asked None = StandsAtAmong counts accepts held s (Some c) count asked
GoesOnOrEndsAmong counts accepts held s c count asked (Some finding) =
    (budget : FindingBudget) → IsFindingAmong counts accepts held s budget (seen_finding finding)

-- wherever it stands, it goes on to the next valid candidate, which was asked about
abbrev pub AsksAbout : (Candidate → Type 0) → Accepts → HeldFor → Search → AskedAmong → AskedAmong → Candidate → Option code.Finding → Type 0
AsksAbout counts accepts held s old new c answer =
    (last : Option Candidate) (count : ℕ) →
    StandsAtAmong counts accepts held s last count old → IsNextValid accepts s last c →
    GoesOnOrEndsAmong counts accepts held s c (count + 1) new answer

-- the search ends with the finding; or the next valid path was asked about, and those behind it are left
abbrev pub StepsToAmong : (Candidate → Type 0) → Accepts → HeldFor → Search → FindingBudget → Option Candidate → ℕ → Paths → AskedAmong → Option code.Finding → Type 0
StepsToAmong counts accepts held s budget last count paths asked None =
    (c : Candidate) × IsNextValid accepts s last c × ArePaths accepts s budget.search (Some c) paths
    × StandsAtAmong counts accepts held s (Some c) count asked
StepsToAmong counts accepts held s budget last count paths asked (Some finding) = IsFindingAmong counts accepts held s budget (seen_finding finding)

-- wherever it stands, it asks about the next valid path
abbrev pub StepsAmong : (Candidate → Type 0) → Accepts → HeldFor → Search → Paths → AskedAmong → Paths → AskedAmong → Option code.Finding → Type 0
StepsAmong counts accepts held s paths asked next new answer =
    (budget : FindingBudget) (last : Option Candidate) (count : ℕ) →
    ArePaths accepts s budget.search last paths → StandsAtAmong counts accepts held s last count asked →
    StepsToAmong counts accepts held s budget last (count + 1) next new answer

-- a verdict Valid ends the search with this path; after another one the first path is kept, or this one if there was none
pub record Notes (old new : AskedAmong) (c : path.Candidate) (verdict : Verdict) (answer : Option code.Finding) : Type 0 where
  pub ends : verdict ≡ Valid → answer ≡ Some (C.Found c verdict)
  pub goes_on : verdict ≢ Valid → (answer ≡ None) × (new.first ≡ option_or old.first (Some (c, verdict)))

-- no further path is valid, and the first one is found, if one counted; or there is one, or the search for valid paths gave up
abbrev pub IsFoundAfter : AskedAmong → Answer → code.Finding → Type 0
IsFoundAfter asked A.NotFound finding = seen_finding finding ≡ found_first asked.first
IsFoundAfter asked (A.Found c) finding = finding ≡ C.GaveUp
IsFoundAfter asked A.GaveUp finding = finding ≡ C.GaveUp

-- so by the answer of the paths that are left
pub record EndsAfter (paths : Paths) (asked : AskedAmong) (finding : code.Finding) : Type 0 where
  pub next : Paths
  pub answer : Answer
  pub answers : AnswersNext paths next answer
  pub found : IsFoundAfter asked answer finding

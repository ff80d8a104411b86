-- Where a search for a verdict stands, as it asks about one valid path after the other.
use Rattle.std.specs.Prelude.{◌≡◌, ◌≢◌, ◌⊎◌, ◌+◌, ◌≤◌, ⊤, ℕ, List, [], ◌∷◌, Option, Some, None, length}
use Rattle.std.specs.List.{AllByRecursion}
use Rattle.path.specs.Query.{Accepts}
use Rattle.path_issuers.specs.Search.{Search, Candidate, IsBefore, IsFirstValid}
use Rattle.path_search.specs.Answer.{IsNextValid, HasNoMore, seen_candidate}
use Rattle.path_search.specs.Paths.{ArePaths}
use Rattle.path_search.specs.declared.paths.Paths.{Paths}
use Rattle.path_search.specs.declared.answer.Budget.{Budget}
use Rattle.path_search.specs.declared.answer.Candidate as path
use Rattle.relying_agreement.specs.declared.verdict.Verdict.{Verdict}
use Rattle.relying_agreement.specs.declared.verdict.Verdict.TheVariants.{Valid}
use Rattle.relying_search.specs.Finding.{AreDescending, Finding, HasOtherVerdict, HasVerdict, HeldFor, IsFinding, seen_finding}
use Rattle.relying_search.specs.declared.asked.Asked.{Asked}
use Rattle.relying_search.specs.declared.finding.Finding as code
use Rattle.relying_search.specs.declared.finding.Finding.TheVariants as C
use Rattle.relying_search.specs.declared.finding.FindingBudget.{FindingBudget}

-- the candidate is the last one, or before it
abbrev pub IsUpTo : Option Candidate → Candidate → Type 0
IsUpTo None c = ⊥
IsUpTo (Some last) c = IsBefore c last ⊎ (c ≡ last)

-- the first valid candidate, with its verdict; none before the first one was asked about
abbrev pub IsFirstAsked : Accepts → HeldFor → Search → Option Candidate → Option (path.Candidate × Verdict) → Type 0
IsFirstAsked accepts held s None None = Unit {0}
IsFirstAsked accepts held s None (Some first) = ⊥
IsFirstAsked accepts held s (Some last) None = ⊥
IsFirstAsked accepts held s (Some last) (Some first) =
    IsFirstValid accepts s (seen_candidate first.0) × HasVerdict accepts held s (seen_candidate first.0) first.1 × (first.1 ≢ Valid)

-- the last one stands in front
abbrev pub BeginsWith : Option Candidate → List Candidate → Type 0
BeginsWith None candidates = candidates ≡ []
BeginsWith (Some last) [] = ⊥
BeginsWith (Some last) (c ∷ more) = c ≡ last

-- so many valid candidates were asked about, down from the last one
pub record WereAsked (accepts : Accepts) (held : HeldFor) (s : Search) (last : Option Candidate) (count : ℕ) : Type 0 where
  pub candidates : List Candidate
  pub begins : BeginsWith last candidates
  pub each : AllByRecursion (HasOtherVerdict accepts held s) candidates
  pub descending : AreDescending candidates
  pub counted : length candidates ≡ count

-- up to the last candidate each valid one was asked about, so many in all, and none has the verdict Valid
pub record StandsAt (accepts : Accepts) (held : HeldFor) (s : Search) (last : Option Candidate) (count : ℕ) (asked : Asked) : Type 0 where
  pub first : IsFirstAsked accepts held s last asked.first
  pub none : (c : Candidate) → IsUpTo last c → ¬ HasVerdict accepts held s c Valid
  pub were : WereAsked accepts held s last count

-- before the first candidate
abbrev pub StandsFirst : Asked → Type 0
StandsFirst asked = (accepts : Accepts) (held : HeldFor) (s : Search) → StandsAt accepts held s None 0 asked

-- the search ends with the answer, or stands at the candidate
abbrev pub GoesOnOrEnds : Accepts → HeldFor → Search → Candidate → ℕ → Asked → Option code.Finding → Type 0
GoesOnOrEnds accepts held s c count asked None = StandsAt accepts held s (Some c) count asked
GoesOnOrEnds accepts held s c count asked (Some finding) = (budget : FindingBudget) → IsFinding accepts held s budget (seen_finding finding)

-- wherever it stands, it goes on to the next valid candidate, whose verdict this is
abbrev pub Notes : Asked → Asked → Candidate → Verdict → Option code.Finding → Type 0
Notes old new c verdict answer =
    (accepts : Accepts) (held : HeldFor) (s : Search) (last : Option Candidate) (count : ℕ) →
    StandsAt accepts held s last count old → IsNextValid accepts s last c → HasVerdict accepts held s c verdict →
    GoesOnOrEnds accepts held s c (count + 1) new answer

-- wherever it stands, this is found if no further candidate is valid
abbrev pub Ends : Asked → code.Finding → Type 0
Ends asked finding =
    (accepts : Accepts) (held : HeldFor) (s : Search) (last : Option Candidate) (count : ℕ) (budget : FindingBudget) →
    StandsAt accepts held s last count asked → HasNoMore accepts s last → IsFinding accepts held s budget (seen_finding finding)

-- the search ends with the finding; or the next valid path was asked about, and those behind it are left
abbrev pub StepsTo : Accepts → HeldFor → Search → FindingBudget → Option Candidate → ℕ → Paths → Asked → Option code.Finding → Type 0
StepsTo accepts held s budget last count paths asked None =
    (c : Candidate) × IsNextValid accepts s last c × ArePaths accepts s budget.search (Some c) paths × StandsAt accepts held s (Some c) count asked
StepsTo accepts held s budget last count paths asked (Some finding) = IsFinding accepts held s budget (seen_finding finding)

-- wherever it stands, it asks about the next valid path
abbrev pub Steps : Accepts → HeldFor → Search → Paths → Asked → Paths → Asked → Option code.Finding → Type 0
Steps accepts held s paths asked next new answer =
    (budget : FindingBudget) (last : Option Candidate) (count : ℕ) →
    ArePaths accepts s budget.search last paths → StandsAt accepts held s last count asked →
    StepsTo accepts held s budget last (count + 1) next new answer

-- wherever it stands, this is found if no more paths may be asked about
abbrev pub EndsBehind : Paths → Asked → code.Finding → Type 0
EndsBehind paths asked finding =
    (accepts : Accepts) (held : HeldFor) (s : Search) (budget : FindingBudget) (last : Option Candidate) (count : ℕ) →
    ArePaths accepts s budget.search last paths → StandsAt accepts held s last count asked → budget.verdicts ≤ count →
    IsFinding accepts held s budget (seen_finding finding)

-- the first valid path is found with its verdict, if one was asked about
abbrev pub found_first : Option (path.Candidate × Verdict) → Finding
found_first None = Finding.NotFound
found_first (Some first) = Finding.Found (seen_candidate first.0) first.1

-- a path that is found in the end was asked about, and such a search has not given up
abbrev pub WasAsked : Asked → code.Finding → Type 0
WasAsked asked (C.Found c verdict) = asked.first ≢ None
WasAsked asked C.NotFound = asked.first ≡ None
WasAsked asked C.GaveUp = ⊥

-- what is found is a path with its verdict
abbrev pub IsPath : code.Finding → Type 0
IsPath (C.Found c verdict) = ⊤
IsPath C.NotFound = ⊥
IsPath C.GaveUp = ⊥

-- no further path is valid
abbrev pub NoneIsLeft : Paths → Type 0
NoneIsLeft paths =
    (accepts : Accepts) (s : Search) (budget : Budget) (last : Option Candidate) → ArePaths accepts s budget last paths → HasNoMore accepts s last

-- a path that is found in the end was asked about; if there is none, none was asked about, and none is left
abbrev pub FoundBehind : Paths → Asked → code.Finding → Type 0
FoundBehind paths asked (C.Found c verdict) = asked.first ≢ None
FoundBehind paths asked C.NotFound = (asked.first ≡ None) × NoneIsLeft paths
FoundBehind paths asked C.GaveUp = ⊤

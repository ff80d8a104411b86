-- What a store is asked about in a search for a verdict.
use Rattle.std.specs.Prelude.{◌≡◌, ◌≢◌, ◌⊎◌, ⊤, Bool, Option, Some, None, IsTrue}
use Rattle.path.specs.Query.{Accepts}
use Rattle.path_issuers.specs.Search.{Search, Candidate, IsValidCandidate, HasNoValid}
use Rattle.path_search.specs.Answer.{HasNoMore, IsNextValid}
use Rattle.path_search.specs.Paths.{ArePaths}
use Rattle.path_search.specs.declared.paths.Paths.{Paths}
use Rattle.path_search.specs.declared.answer.Budget.{Budget}
use Rattle.statements_facts.specs.Statement.{Holdings}
use Rattle.relying_search.specs.Finding.{Finding, IsFinding, IsUsedUp}
use Rattle.relying_search.specs.declared.asked.Asked.{Asked}
use Rattle.relying_search.specs.declared.finding.Finding as code
use Rattle.relying_search.specs.declared.finding.Finding.TheVariants as C
use Rattle.relying_search.specs.declared.finding.FindingBudget.{FindingBudget}
use Rattle.relying_verdicts.specs.declared.fault.Fault.{Fault}
use Rattle.relying_verdicts.specs.declared.fault.Fault.TheVariants.{Store, Memory}

-- a store is asked only about paths that meet all conditions, so without one there is no fault of it
abbrev pub IsFaultOfValidCandidate : Accepts → Search → Fault → Type 0
IsFaultOfValidCandidate accepts s (Store fault) = (c : Candidate) × IsValidCandidate accepts s c
IsFaultOfValidCandidate accepts s Memory = ⊤

-- a path with its verdict comes from an open connection; that no path is valid is so whatever is held; that a search gave up is one or the
-- other
abbrev pub IsFoundOnlyIfOpen : Accepts → Search → FindingBudget → Bool → Finding → Type 0
IsFoundOnlyIfOpen accepts s budget is_open (Finding.Found c verdict) = IsTrue is_open
IsFoundOnlyIfOpen accepts s budget is_open Finding.NotFound = HasNoValid accepts s
IsFoundOnlyIfOpen accepts s budget is_open Finding.GaveUp =
    IsTrue is_open ⊎ ((held : Holdings) → IsFinding accepts (λ query. held) s budget Finding.GaveUp)

-- ---- one step, wherever the search stands, and whatever is held

abbrev pub IsFaultOfNextCandidate : Search → Paths → Fault → Type 0
IsFaultOfNextCandidate s paths fault =
    (accepts : Accepts) (budget : Budget) (last : Option Candidate) → ArePaths accepts s budget last paths → IsFaultOfValidCandidate accepts s fault

-- the next valid path was asked about; or none was found, since none is left and none was asked about; or a budget is used up
abbrev pub WalksTo : Accepts → Search → Budget → Option Candidate → Asked → Paths → Asked → Option code.Finding → Type 0
WalksTo accepts s budget last asked next new None =
    (c : Candidate) × IsNextValid accepts s last c × ArePaths accepts s budget (Some c) next × (new.first ≢ None)
WalksTo accepts s budget last asked next new (Some (C.Found c verdict)) = ⊤
WalksTo accepts s budget last asked next new (Some C.NotFound) = HasNoMore accepts s last × (asked.first ≡ None)
WalksTo accepts s budget last asked next new (Some C.GaveUp) = IsUsedUp accepts s budget

abbrev pub Walks : Search → Paths → Asked → Paths → Asked → Option code.Finding → Type 0
Walks s paths asked next new answer =
    (accepts : Accepts) (budget : Budget) (last : Option Candidate) → ArePaths accepts s budget last paths →
    WalksTo accepts s budget last asked next new answer

-- the connection was open, if a path was asked about
abbrev pub IsAskedOnlyIfOpen : Bool → Asked → Option code.Finding → Type 0
IsAskedOnlyIfOpen is_open asked None = IsTrue is_open
IsAskedOnlyIfOpen is_open asked (Some (C.Found c verdict)) = (asked.first ≢ None) ⊎ IsTrue is_open
IsAskedOnlyIfOpen is_open asked (Some C.NotFound) = ⊤
IsAskedOnlyIfOpen is_open asked (Some C.GaveUp) = ⊤

-- What is found for a certificate among the valid paths that meet a further condition (RFC 4158; RFC 5280, 6.1 and 6.3). A candidate whose
-- path meets it counts.
use Rattle.std.specs.Prelude.{◌≡◌, ◌≢◌, ◌⊎◌, ◌↔◌, ◌≤◌, ⊤, ℕ, List, ◌∷◌, length}
use Rattle.std.specs.List.{AllByRecursion}
use Rattle.path.specs.Query.{Accepts}
use Rattle.path_issuers.specs.Search.{Search, Candidate, IsValidCandidate, IsBefore, query_about}
use Rattle.relying_agreement.specs.declared.verdict.Verdict.{Verdict}
use Rattle.relying_agreement.specs.declared.verdict.Verdict.TheVariants.{Valid, Invalid, Revoked, Unknown}
use Rattle.relying_search.specs.Agreement.{HoldTheSameFor, PartyFor}
use Rattle.relying_search.specs.Finding.{AreDescending, Finding, HasOtherVerdict, HasVerdict, HeldFor, IsFinding, IsUsedUp}
use Rattle.relying_search.specs.declared.finding.FindingBudget.{FindingBudget}

-- its path meets the conditions of 6.1, and it counts
pub record IsCounted (counts : Candidate → Type 0) (accepts : Accepts) (s : Search) (c : Candidate) : Type 0 where
  pub valid : IsValidCandidate accepts s c
  pub counted : counts c

-- the first such candidate
pub record IsFirstCounted (counts : Candidate → Type 0) (accepts : Accepts) (s : Search) (c : Candidate) : Type 0 where
  pub is : IsCounted counts accepts s c
  pub first : (other : Candidate) → IsBefore other c → ¬ IsCounted counts accepts s other

-- there is none
abbrev pub HasNoCounted : (Candidate → Type 0) → Accepts → Search → Type 0
HasNoCounted counts accepts s = (c : Candidate) → ¬ IsCounted counts accepts s c

-- the first candidate that counts and has the verdict Valid
pub record IsFirstClearAmong (counts : Candidate → Type 0) (accepts : Accepts) (held : HeldFor) (s : Search) (c : Candidate) : Type 0 where
  pub clear : HasVerdict accepts held s c Valid
  pub counted : counts c
  pub first : (other : Candidate) → IsBefore other c → counts other → ¬ HasVerdict accepts held s other Valid

-- there is none
abbrev pub HasNoClearAmong : (Candidate → Type 0) → Accepts → HeldFor → Search → Type 0
HasNoClearAmong counts accepts held s = (c : Candidate) → counts c → ¬ HasVerdict accepts held s c Valid

-- there is none, and this is the verdict on the first candidate that counts
pub record IsFirstOtherAmong (counts : Candidate → Type 0) (accepts : Accepts) (held : HeldFor) (s : Search) (c : Candidate) (verdict : Verdict) : Type 0 where
  pub first : IsFirstCounted counts accepts s c
  pub has : HasVerdict accepts held s c verdict
  pub none : HasNoClearAmong counts accepts held s

-- budgets

-- its path meets the conditions of 6.1, and it does not count; or it counts, and its verdict is another than Valid
abbrev pub IsPassedOver : (Candidate → Type 0) → Accepts → HeldFor → Search → Candidate → Type 0
IsPassedOver counts accepts held s c =
    (IsValidCandidate accepts s c × ¬ counts c) ⊎ (counts c × HasOtherVerdict accepts held s c)

-- there are at least as many such paths, and a further valid one behind them
pub record HasMoreThanAmong (counts : Candidate → Type 0) (accepts : Accepts) (held : HeldFor) (s : Search) (count : ℕ) : Type 0 where
  pub candidates : List Candidate
  pub further : Candidate
  pub each : AllByRecursion (IsPassedOver counts accepts held s) candidates
  pub valid : IsValidCandidate accepts s further
  pub descending : AreDescending (further ∷ candidates)
  pub enough : count ≤ length candidates

-- The finding: the first path that counts and has the verdict Valid; if there is none, the first valid one that counts, with its verdict.
abbrev pub IsFindingAmong : (Candidate → Type 0) → Accepts → HeldFor → Search → FindingBudget → Finding → Type 0
IsFindingAmong counts accepts held s budget (Finding.Found c Valid) = IsFirstClearAmong counts accepts held s c
IsFindingAmong counts accepts held s budget (Finding.Found c (Invalid j reason)) = IsFirstOtherAmong counts accepts held s c (Invalid j reason)
IsFindingAmong counts accepts held s budget (Finding.Found c (Revoked j reason)) = IsFirstOtherAmong counts accepts held s c (Revoked j reason)
IsFindingAmong counts accepts held s budget (Finding.Found c (Unknown j)) = IsFirstOtherAmong counts accepts held s c (Unknown j)
IsFindingAmong counts accepts held s budget Finding.NotFound = HasNoCounted counts accepts s
IsFindingAmong counts accepts held s budget Finding.GaveUp = IsUsedUp accepts s budget.search ⊎ HasMoreThanAmong counts accepts held s budget.verdicts

-- laws

-- each candidate counts
abbrev pub EachCounts : Candidate → Type 0
EachCounts c = ⊤

-- where each candidate counts, a finding is one among all valid paths
abbrev pub AmongAllIsFinding : Type 0
AmongAllIsFinding =
    (accepts : Accepts) (held : HeldFor) (s : Search) (budget : FindingBudget) (finding : Finding) →
    (IsFindingAmong EachCounts accepts held s budget finding ↔ IsFinding accepts held s budget finding)

-- a path that is found is valid and counts, and its verdict is this
abbrev pub FoundIsCounted : (Accepts → Search → Candidate → Type 0) → Type 0
FoundIsCounted counts =
    (accepts : Accepts) (held : HeldFor) (s : Search) (budget : FindingBudget) (c : Candidate) (verdict : Verdict) →
    IsFindingAmong (counts accepts s) accepts held s budget (Finding.Found c verdict) →
    IsCounted (counts accepts s) accepts s c × HasVerdict accepts held s c verdict

-- a search has one finding, whatever it may spend, if that suffices
abbrev pub FindingAmongIsOne : (Accepts → Search → Candidate → Type 0) → Type 0
FindingAmongIsOne counts =
    (accepts : Accepts) (held : HeldFor) (s : Search) (budget others : FindingBudget) (one other : Finding) →
    IsFindingAmong (counts accepts s) accepts held s budget one → IsFindingAmong (counts accepts s) accepts held s others other →
    one ≢ Finding.GaveUp → other ≢ Finding.GaveUp → one ≡ other

-- Two parties find the same path with the same verdict, or that none counts, if for each valid path that counts both hold the same newest,
-- and neither gave up.
abbrev pub PartiesFindTheSameAmong : (Accepts → Search → Candidate → Type 0) → Type 0
PartiesFindTheSameAmong counts =
    (accepts : Accepts) (one other : PartyFor) (s : Search) (budget others : FindingBudget) (found other_found : Finding) →
    ((c : Candidate) → IsCounted (counts accepts s) accepts s c →
    HoldTheSameFor accepts (query_about s c) (one (query_about s c)) (other (query_about s c))) →
    IsFindingAmong (counts accepts s) accepts (λ query. (one query).held) s budget found →
    IsFindingAmong (counts accepts s) accepts (λ query. (other query).held) s others other_found →
    found ≢ Finding.GaveUp → other_found ≢ Finding.GaveUp →
    found ≡ other_found

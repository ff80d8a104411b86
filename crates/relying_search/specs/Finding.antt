-- What is found for a certificate among others that come in any order: a valid path with its verdict (RFC 4158; RFC 5280, 6.1 and 6.3).
use Rattle.std.specs.Prelude.{◌≡◌, ◌≢◌, ◌⊎◌, ◌<◌, ◌≤◌, ℕ, List, [], ◌∷◌, length}
use Rattle.std.specs.List.{AllByRecursion}
use Rattle.statements_facts.specs.Statement.{Holdings}
use Rattle.path.specs.Query.{Query, Accepts}
use Rattle.path_issuers.specs.Search.{Search, Candidate, IsCandidate, IsValidCandidate, IsBefore, IsFirstValid, HasNoValid, query_about}
use Rattle.path_issuers.specs.Asking.{count_pairs}
use Rattle.path_search.specs.Answer.{HasRightTails, seen_candidate}
use Rattle.path_search.specs.declared.answer.Budget.{Budget}
use Rattle.relying_agreement.specs.Verdict.{IsVerdict}
use Rattle.relying_agreement.specs.declared.verdict.Verdict.{Verdict}
use Rattle.relying_agreement.specs.declared.verdict.Verdict.TheVariants.{Valid, Invalid, Revoked, Unknown}
use Rattle.relying_search.specs.declared.finding.FindingBudget.{FindingBudget}
use Rattle.relying_search.specs.declared.finding.Finding as code
use Rattle.relying_search.specs.declared.finding.Finding.TheVariants as C

-- a path with its verdict; or that none is valid, or that a budget is used up
pub data Finding : Type 0 where
  Found : Candidate → Verdict → Finding
  NotFound : Finding
  GaveUp : Finding

abbrev pub seen_finding : code.Finding → Finding
seen_finding (C.Found c verdict) = Finding.Found (seen_candidate c) verdict
seen_finding C.NotFound = Finding.NotFound
seen_finding C.GaveUp = Finding.GaveUp

-- What is held when a path is asked about. A store holds the same for each; by statements at hand, what they say under the path's issuers.
abbrev pub HeldFor : Type 0
HeldFor = Query → Holdings

-- the verdict on the path of a candidate
pub record HasVerdict (accepts : Accepts) (held : HeldFor) (s : Search) (c : Candidate) (verdict : Verdict) : Type 0 where
  pub candidate : IsCandidate s c
  pub verdict_is : IsVerdict accepts (query_about s c) (held (query_about s c)) verdict

-- the first candidate with the verdict Valid
pub record IsFirstClear (accepts : Accepts) (held : HeldFor) (s : Search) (c : Candidate) : Type 0 where
  pub clear : HasVerdict accepts held s c Valid
  pub first : (other : Candidate) → IsBefore other c → ¬ HasVerdict accepts held s other Valid

-- there is none
abbrev pub HasNoClear : Accepts → HeldFor → Search → Type 0
HasNoClear accepts held s = (c : Candidate) → ¬ HasVerdict accepts held s c Valid

-- there is none, and this is the verdict on the first candidate whose path meets the conditions of 6.1
pub record IsFirstOther (accepts : Accepts) (held : HeldFor) (s : Search) (c : Candidate) (verdict : Verdict) : Type 0 where
  pub first : IsFirstValid accepts s c
  pub has : HasVerdict accepts held s c verdict
  pub none : HasNoClear accepts held s

-- budgets

-- the path meets the conditions of 6.1, and its verdict is another than Valid
pub record HasOtherVerdict (accepts : Accepts) (held : HeldFor) (s : Search) (c : Candidate) : Type 0 where
  pub verdict : Verdict
  pub valid : IsValidCandidate accepts s c
  pub has : HasVerdict accepts held s c verdict
  pub other : verdict ≢ Valid

-- each comes before the one in front of it
abbrev pub AreDescending : List Candidate → Type 0
AreDescending [] = Unit {0}
AreDescending (c ∷ []) = Unit {0}
AreDescending (c ∷ next ∷ more) = IsBefore next c × AreDescending (next ∷ more)

-- there are at least as many such paths, and a further valid one behind them
pub record HasMoreThan (accepts : Accepts) (held : HeldFor) (s : Search) (count : ℕ) : Type 0 where
  pub candidates : List Candidate
  pub further : Candidate
  pub each : AllByRecursion (HasOtherVerdict accepts held s) candidates
  pub valid : IsValidCandidate accepts s further
  pub descending : AreDescending (further ∷ candidates)
  pub enough : count ≤ length candidates

-- the search for valid paths has used up one of its two budgets
abbrev pub IsUsedUp : Accepts → Search → Budget → Type 0
IsUsedUp accepts s budget = (budget.signatures < count_pairs s) ⊎ HasRightTails accepts s budget.steps

-- The finding: the first path with the verdict Valid; if there is none, the first valid one, with its verdict.
abbrev pub IsFinding : Accepts → HeldFor → Search → FindingBudget → Finding → Type 0
IsFinding accepts held s budget (Finding.Found c Valid) = IsFirstClear accepts held s c
IsFinding accepts held s budget (Finding.Found c (Invalid j reason)) = IsFirstOther accepts held s c (Invalid j reason)
IsFinding accepts held s budget (Finding.Found c (Revoked j reason)) = IsFirstOther accepts held s c (Revoked j reason)
IsFinding accepts held s budget (Finding.Found c (Unknown j)) = IsFirstOther accepts held s c (Unknown j)
IsFinding accepts held s budget Finding.NotFound = HasNoValid accepts s
IsFinding accepts held s budget Finding.GaveUp = IsUsedUp accepts s budget.search ⊎ HasMoreThan accepts held s budget.verdicts

-- the same of a store, which holds the same whatever path is asked about
abbrev pub FindsHolding : Accepts → Search → FindingBudget → Holdings → code.Finding → Type 0
FindsHolding accepts s budget held finding = IsFinding accepts (λ query. held) s budget (seen_finding finding)

-- laws

-- a search has one finding, whatever it may spend, if that suffices
abbrev pub FindingIsOne : Type 0
FindingIsOne =
    (accepts : Accepts) (held : HeldFor) (s : Search) (budget others : FindingBudget) (one other : Finding) →
    IsFinding accepts held s budget one → IsFinding accepts held s others other →
    one ≢ Finding.GaveUp → other ≢ Finding.GaveUp → one ≡ other

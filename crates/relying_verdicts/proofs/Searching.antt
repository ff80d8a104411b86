-- A search for a verdict, as its steps ask a store.
use Rattle.std.proofs.Common.{◌≡◌, ◌≢◌, ◌≤◌, ◌+◌, ◌∙◌, ℕ, Bool, List, [], Option, Some, None, IfNone, IfSome, IsTrue, subst, sym, refl, inl, inr}
use Rattle.path.specs.declared.reason.Outcome.TheVariants.{Good}
use Rattle.path.specs.Query.{Accepts}
use Rattle.statements_facts.specs.Statement.{Holdings}
use Rattle.path_issuers.specs.Search.{Search, Candidate, IsValidCandidate, CandidatesAreOrdered, HasNoValid, query_about}
use Rattle.path_search.specs.Answer.{HasNoMore, IsNextValid, seen_candidate}
use Rattle.path_search.specs.Paths.{AnswersNext, ArePaths}
use Rattle.path_search.specs.declared.answer.Answer.TheVariants as A
use Rattle.path_search.specs.declared.answer.Budget.{Budget}
use Rattle.path_search.specs.declared.answer.Candidate as path
use Rattle.path_search.specs.declared.paths.Paths.{Paths}
use Rattle.relying_agreement.specs.Verdict.{evidence_on, verdict_by}
use Rattle.relying_agreement.specs.declared.verdict.Verdict.{Verdict}
use Rattle.relying_search.specs.Asked.{EndsBehind, FoundBehind, IsFirstAsked, IsPath, StandsAt, Steps, StepsTo, WasAsked, WereAsked}
use Rattle.relying_search.specs.Finding.{HasVerdict, HeldFor, seen_finding}
use Rattle.relying_search.specs.declared.asked.Asked.{Asked}
use Rattle.relying_search.specs.declared.finding.Finding as code
use Rattle.relying_search.specs.declared.finding.Finding.TheVariants as C
use Rattle.relying_search.specs.declared.finding.FindingBudget.{FindingBudget}
use Rattle.relying_verdicts.specs.declared.fault.Fault.{Fault}
use Rattle.relying_verdicts.specs.declared.fault.Fault.TheVariants.{Store, Memory}
use Rattle.relying_verdicts.specs.Looking.{IsAskedOnlyIfOpen, IsFaultOfNextCandidate, IsFoundOnlyIfOpen, Walks, WalksTo}

-- ---- one step

pub has_verdict : (accepts : Accepts) (s : Search) (held : Holdings) (c : Candidate) (verdict : Verdict)
    → verdict ≡ verdict_by s.moment (evidence_on held (query_about s c)) → IsValidCandidate accepts s c → HasVerdict accepts (λ query. held) s c verdict
has_verdict accepts s held c verdict is valid = record {
  candidate = valid.candidate;
  verdict_is = record { outcome = Good; is_outcome = valid.valid; verdict_is = is };
}

pub next_fails : (s : Search) (paths next : Paths) (c : path.Candidate) (fault : Fault) → AnswersNext paths next (A.Found c) → IsFaultOfNextCandidate s paths fault
next_fails s paths next c (Store fault) answers accepts budget last are = (seen_candidate c, (answers accepts s budget last are).0.valid)
next_fails s paths next c Memory answers accepts budget last are = tt

walked : (accepts : Accepts) (s : Search) (budget : Budget) (last : Option Candidate) (asked new : Asked) (next : Paths) (c : Candidate) (answer : Option code.Finding)
    → IsNextValid accepts s last c → ArePaths accepts s budget (Some c) next → IfNone answer (new.first ≢ None) → IfSome answer IsPath
    → WalksTo accepts s budget last asked next new answer
walked accepts s budget last asked new next c None is are first path = (c, is, are, first)
walked accepts s budget last asked new next c (Some (C.Found d verdict)) is are first path = tt
walked accepts s budget last asked new next c (Some C.NotFound) is are first path = absurd path
walked accepts s budget last asked new next c (Some C.GaveUp) is are first path = absurd path

pub walks_found : (s : Search) (paths next : Paths) (asked new : Asked) (c : path.Candidate) (answer : Option code.Finding) → AnswersNext paths next (A.Found c)
    → IfNone answer (new.first ≢ None) → IfSome answer IsPath → Walks s paths asked next new answer
walks_found s paths next asked new c answer answers first path accepts budget last are =
    let it = answers accepts s budget last are in
    walked accepts s budget last asked new next (seen_candidate c) answer it.0 it.1 first path

ended : (accepts : Accepts) (s : Search) (budget : Budget) (last : Option Candidate) (asked new : Asked) (next : Paths) (finding : code.Finding)
    → HasNoMore accepts s last → WasAsked asked finding → WalksTo accepts s budget last asked next new (Some finding)
ended accepts s budget last asked new next (C.Found c verdict) none was = tt
ended accepts s budget last asked new next C.NotFound none was = (none, was)
ended accepts s budget last asked new next C.GaveUp none was = absurd was

pub walks_ended : (s : Search) (paths next : Paths) (asked new : Asked) (finding : code.Finding) → AnswersNext paths next A.NotFound → WasAsked asked finding
    → Walks s paths asked next new (Some finding)
walks_ended s paths next asked new finding answers was accepts budget last are =
    ended accepts s budget last asked new next finding (answers accepts s budget last are).0 was

pub walks_gave_up : (s : Search) (paths next : Paths) (asked new : Asked) → AnswersNext paths next A.GaveUp → Walks s paths asked next new (Some C.GaveUp)
walks_gave_up s paths next asked new answers accepts budget last are = (answers accepts s budget last are).0

-- ---- all steps

-- as long as none was asked about, the search stands before the first candidate
abbrev pub HasFirst : Option Candidate → ℕ → Asked → Type 0
HasFirst last count asked = asked.first ≡ None → (last ≡ None) × (count ≡ 0)

pub next_is_one : CandidatesAreOrdered → (accepts : Accepts) (s : Search) (last : Option Candidate) (c d : Candidate) → IsNextValid accepts s last c
    → IsNextValid accepts s last d → c ≡ d
next_is_one ordered accepts s last c d one other =
    elim (ordered c d) [
      | inl before ↦ absurd (other.first c one.after before one.valid)
      | inr o ↦ elim o [ inl same ↦ same | inr after ↦ absurd (one.first d other.after after other.valid) ]
    ]

-- the search stands at the next candidate, by what is held
pub stands_next : CandidatesAreOrdered → (accepts : Accepts) (s : Search) (held : Holdings) (budget : FindingBudget) (last : Option Candidate) (count : ℕ)
    (paths next : Paths) (asked new : Asked) (c : Candidate) → IsNextValid accepts s last c → ArePaths accepts s budget.search last paths
    → StandsAt accepts (λ query. held) s last count asked → Steps accepts (λ query. held) s paths asked next new None
    → StandsAt accepts (λ query. held) s (Some c) (count + 1) new
stands_next ordered accepts s held budget last count paths next asked new c is are stands steps =
    let step : StepsTo accepts (λ query. held) s budget last (count + 1) next new None = steps budget last count are stands in
    subst (λ (d : Candidate). StandsAt accepts (λ query. held) s (Some d) (count + 1) new) (next_is_one ordered accepts s last step.0 c step.1 is) step.3

pub steps_to : (accepts : Accepts) (s : Search) (held : Holdings) (paths : Paths) (asked : Asked) (next : Paths) (new : Asked) (answer : Option code.Finding)
    → answer ≡ None → Steps accepts (λ query. held) s paths asked next new answer → Steps accepts (λ query. held) s paths asked next new None
steps_to accepts s held paths asked next new answer is steps = subst (Steps accepts (λ query. held) s paths asked next new) is steps

no_valid : (accepts : Accepts) (s : Search) (last : Option Candidate) → last ≡ None → HasNoMore accepts s last → HasNoValid accepts s
no_valid accepts s None e none = λ c. none c tt
no_valid accepts s (Some last) e none = absurd cc

-- what a step finds comes from an open connection
pub found_open : (accepts : Accepts) (s : Search) (budget : FindingBudget) (last : Option Candidate) (count : ℕ) (live before : Bool) (asked new : Asked) (next : Paths) (finding : code.Finding)
    → IsAskedOnlyIfOpen before asked (Some finding) → (IsTrue before → IsTrue live) → (asked.first ≢ None → IsTrue live) → HasFirst last count asked
    → WalksTo accepts s budget.search last asked next new (Some finding) → IsFoundOnlyIfOpen accepts s budget live (seen_finding finding)
found_open accepts s budget last count live before asked new next (C.Found c verdict) opened was earlier first walks =
    elim opened [ inl some ↦ earlier some | inr now ↦ was now ]
found_open accepts s budget last count live before asked new next C.NotFound opened was earlier first walks = no_valid accepts s last (first walks.1).0 walks.0
found_open accepts s budget last count live before asked new next C.GaveUp opened was earlier first walks = inr (λ held. inl walks)

none_asked : (accepts : Accepts) (held : HeldFor) (s : Search) (asked : Asked) → asked.first ≡ None → StandsAt accepts held s None 0 asked
none_asked accepts held s asked is = record {
  first = subst (IsFirstAsked accepts held s None) (sym is) tt;
  none = λ c before. absurd before;
  were = record { candidates = []; begins = refl; each = tt; descending = tt; counted = refl };
}

-- a search that gives up behind its last step has asked about a path, or may ask about none
gave_up : (accepts : Accepts) (s : Search) (budget : FindingBudget) (last : Option Candidate) (count : ℕ) (live : Bool) (asked : Asked) (paths : Paths)
    (begun : Option (path.Candidate × Verdict)) → asked.first ≡ begun → (asked.first ≢ None → IsTrue live) → HasFirst last count asked
    → ArePaths accepts s budget.search last paths → budget.verdicts ≤ count → EndsBehind paths asked C.GaveUp
    → IsFoundOnlyIfOpen accepts s budget live (seen_finding C.GaveUp)
gave_up accepts s budget last count live asked paths None is earlier first are all ends =
    let at = first is in
    inr (λ held. ends accepts (λ query. held) s budget None 0 (subst (λ (one : Option Candidate). ArePaths accepts s budget.search one paths) at.0 are)
    (none_asked accepts (λ query. held) s asked is) (subst (λ (n : ℕ). budget.verdicts ≤ n) at.1 all))
gave_up accepts s budget last count live asked paths (Some it) is earlier first are all ends =
    inl (earlier (λ none. let e : None ≡ Some it = sym none ∙ is in absurd cc))

-- and so does what is found behind the last step
pub behind_open : (accepts : Accepts) (s : Search) (budget : FindingBudget) (last : Option Candidate) (count : ℕ) (live : Bool) (asked : Asked) (paths : Paths) (finding : code.Finding)
    → (asked.first ≢ None → IsTrue live) → HasFirst last count asked → ArePaths accepts s budget.search last paths → budget.verdicts ≤ count
    → FoundBehind paths asked finding → EndsBehind paths asked finding → IsFoundOnlyIfOpen accepts s budget live (seen_finding finding)
behind_open accepts s budget last count live asked paths (C.Found c verdict) earlier first are all behind ends = earlier behind
behind_open accepts s budget last count live asked paths C.NotFound earlier first are all behind ends =
    no_valid accepts s last (first behind.0).0 (behind.1 accepts s budget.search last are)
behind_open accepts s budget last count live asked paths C.GaveUp earlier first are all behind ends =
    gave_up accepts s budget last count live asked paths asked.first refl earlier first are all ends

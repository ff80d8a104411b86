-- What is found for a certificate among the paths that are valid with their policies (RFC 4158; RFC 5280, 6.1 and 6.3).
use Rattle.std.specs.Prelude.{◌≡◌, ◌≢◌, ◌↔◌, Some}
use Rattle.path.specs.Query.{Accepts}
use Rattle.path_issuers.specs.Search.{Search, Candidate, IsCandidate, query_about}
use Rattle.path_search.specs.Answer.{seen_candidate}
use Rattle.path_search.specs.declared.answer.Candidate as path
use Rattle.path_policies.specs.declared.reason.PolicySets.{PolicySets}
use Rattle.path_with_policies.specs.declared.outcome.OutcomeWithPolicies.TheVariants.{Good}
use Rattle.path_with_policies.specs.WithPolicies.{AreSameWithPolicies, IsValidWithPolicies}
use Rattle.relying_policies.specs.WithPolicies.{IsVerdictWithPolicies}
use Rattle.relying_policies.specs.declared.verdict.VerdictWithPolicies.{VerdictWithPolicies}
use Rattle.relying_search.specs.Finding.{Finding, HeldFor}
use Rattle.relying_search.specs.declared.finding.FindingBudget.{FindingBudget}
use Rattle.relying_search.specs.Among.{IsFindingAmong}
use Rattle.relying_policies.specs.SearchPolicies.{IsValidUnderPolicies, SearchPolicies, query_with_policies_about}
use Rattle.relying_policies.specs.declared.finding.FindingWithPolicies as code
use Rattle.relying_policies.specs.declared.finding.FindingWithPolicies.TheVariants as C

-- without the policies at the end
abbrev pub seen_finding : code.FindingWithPolicies → Finding
seen_finding (C.Found c answer) = Finding.Found (seen_candidate c) answer.verdict
seen_finding C.NotFound = Finding.NotFound
seen_finding C.GaveUp = Finding.GaveUp

-- a path that is found has this verdict with its policies
abbrev pub HasFoundVerdict : Accepts → HeldFor → Search → SearchPolicies → code.FindingWithPolicies → Type 0
HasFoundVerdict accepts held s p (C.Found c answer) =
    IsVerdictWithPolicies accepts (query_with_policies_about s p (seen_candidate c)) (held (query_about s (seen_candidate c))) answer
HasFoundVerdict accepts held s p C.NotFound = Unit {0}
HasFoundVerdict accepts held s p C.GaveUp = Unit {0}

-- The finding: the first path that is valid with its policies and has the verdict Valid; if there is none, the first that is valid with its
-- policies, with its verdict.
pub record IsFindingWithPolicies (accepts : Accepts) (held : HeldFor) (s : Search) (p : SearchPolicies) (budget : FindingBudget) (finding : code.FindingWithPolicies) : Type 0 where
  pub among : IsFindingAmong (IsValidUnderPolicies p accepts s) accepts held s budget (seen_finding finding)
  pub verdict : HasFoundVerdict accepts held s p finding

-- ---- laws

-- a path that is found is valid with its policies, and these are the policies at its end
abbrev pub FoundIsValidWithPolicies : Type 0
FoundIsValidWithPolicies =
    (accepts : Accepts) (held : HeldFor) (s : Search) (p : SearchPolicies) (budget : FindingBudget) (c : path.Candidate) (answer : VerdictWithPolicies) →
    IsFindingWithPolicies accepts held s p budget (C.Found c answer) →
    (sets : PolicySets) × (answer.policies ≡ Some sets) × IsValidWithPolicies accepts (query_with_policies_about s p (seen_candidate c)) sets

-- no path is found exactly where none is valid with its policies
abbrev pub NotFoundExactlyWhere : Type 0
NotFoundExactlyWhere =
    (accepts : Accepts) (held : HeldFor) (s : Search) (p : SearchPolicies) (budget : FindingBudget) →
    (IsFindingWithPolicies accepts held s p budget C.NotFound
    ↔ ((c : Candidate) (sets : PolicySets) → IsCandidate s c → ¬ IsValidWithPolicies accepts (query_with_policies_about s p c) sets))

-- the same path, the same verdict, and the same policies at its end
abbrev pub AreSameFindings : code.FindingWithPolicies → code.FindingWithPolicies → Type 0
AreSameFindings (C.Found c one) (C.Found d other) =
    (seen_candidate c ≡ seen_candidate d) × (one.verdict ≡ other.verdict)
    × ((a b : PolicySets) → one.policies ≡ Some a → other.policies ≡ Some b → AreSameWithPolicies (Good a) (Good b))
AreSameFindings one other = seen_finding one ≡ seen_finding other

-- a search has one finding, whatever it may spend, if that suffices
abbrev pub FindingWithPoliciesIsOne : Type 0
FindingWithPoliciesIsOne =
    (accepts : Accepts) (held : HeldFor) (s : Search) (p : SearchPolicies) (budget others : FindingBudget) (one other : code.FindingWithPolicies) →
    IsFindingWithPolicies accepts held s p budget one → IsFindingWithPolicies accepts held s p others other →
    one ≢ C.GaveUp → other ≢ C.GaveUp → AreSameFindings one other

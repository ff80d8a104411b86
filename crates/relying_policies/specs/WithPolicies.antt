-- The verdict on a path whose policies are processed (RFC 5280, 6.1 and 6.3; RFC 6960, 2.2).
use Rattle.std.specs.Prelude.{◌≡◌, ◌↔◌, ℕ, List, Option, Some, None}
use Rattle.std.specs.List.{AllByRecursion}
use Rattle.statements_facts.specs.Statement.{Holdings}
use Rattle.statements.specs.Statement.{Statement}
use Rattle.path.specs.declared.reason.Reason.{Reason}
use Rattle.path.specs.Query.{Query, Accepts}
use Rattle.path_policies.specs.declared.reason.PolicySets.{PolicySets}
use Rattle.path_policies.specs.declared.reason.PolicyOutcome.{PolicyOutcome}
use Rattle.path_policies.specs.Outcome.{IsPolicyOutcome}
use Rattle.path_with_policies.specs.declared.outcome.OutcomeWithPolicies.{OutcomeWithPolicies}
use Rattle.path_with_policies.specs.declared.outcome.OutcomeWithPolicies.TheVariants.{Good, Bad}
use Rattle.path_with_policies.specs.WithPolicies.{QueryWithPolicies, HasPoliciesOfEach, IsOutcomeWithPolicies, IsValidWithPolicies, IsFirstFailureWithPolicies}
use Rattle.relying_agreement.specs.declared.verdict.Verdict.{Verdict}
use Rattle.relying_agreement.specs.declared.verdict.Verdict.TheVariants.{Invalid, Valid}
use Rattle.relying_agreement.specs.Link.{links_of}
use Rattle.relying_agreement.specs.Verdict.{IsClear, IsVerdict, evidence_on, verdict_by}
use Rattle.relying_texts.specs.Texts.{party_told}
use Rattle.relying_policies.specs.declared.verdict.VerdictWithPolicies.{VerdictWithPolicies}

-- Invalid with the first failure, and else what the statements that are held say.
abbrev pub verdict_of : OutcomeWithPolicies → Query → Holdings → Verdict
verdict_of (Bad j reason) path held = Invalid j reason
verdict_of (Good sets) path held = verdict_by path.moment (evidence_on held path)

-- the policies at the end of a path that is not refused
abbrev pub policies_of : OutcomeWithPolicies → Option PolicySets
policies_of (Bad j reason) = None
policies_of (Good sets) = Some sets

-- the verdict of who judges signatures so, and holds that
pub record IsVerdictWithPolicies (accepts : Accepts) (q : QueryWithPolicies) (held : Holdings) (answer : VerdictWithPolicies) : Type 0 where
  pub outcome : OutcomeWithPolicies
  pub is_outcome : IsOutcomeWithPolicies accepts q outcome
  pub verdict_is : answer.verdict ≡ verdict_of outcome q.path held
  pub policies_are : answer.policies ≡ policies_of outcome

-- the verdict of the party that began with nothing, and was told these statements
abbrev pub IsVerdictWithPoliciesByStatements : Accepts → QueryWithPolicies → List Statement → VerdictWithPolicies → Type 0
IsVerdictWithPoliciesByStatements accepts q statements answer =
    IsVerdictWithPolicies accepts q (party_told accepts q.path statements).held answer

-- Of whatever question and holdings this is the verdict without policies, and this the outcome of the policies alone, that is the answer.
abbrev pub JoinsVerdict : Verdict → PolicyOutcome → VerdictWithPolicies → Type 0
JoinsVerdict verdict policies answer =
    (accepts : Accepts) (q : QueryWithPolicies) (held : Holdings) → HasPoliciesOfEach q →
    IsVerdict accepts q.path held verdict → IsPolicyOutcome q.policies policies → IsVerdictWithPolicies accepts q held answer

-- Whoever gave that verdict on the path without its policies, by whatever he holds, this is his answer with them.
abbrev pub AddsPolicies : QueryWithPolicies → Verdict → VerdictWithPolicies → Type 0
AddsPolicies q verdict answer =
    (accepts : Accepts) (held : Holdings) → IsVerdict accepts q.path held verdict → IsVerdictWithPolicies accepts q held answer

-- ---- laws

-- valid, under these policies, exactly if the path is valid under them, and each certificate is covered and none revoked
abbrev pub ValidWithPoliciesExactlyWhere : Type 0
ValidWithPoliciesExactlyWhere =
    (accepts : Accepts) (q : QueryWithPolicies) (held : Holdings) (answer : VerdictWithPolicies) (sets : PolicySets) →
    answer.verdict ≡ Valid → answer.policies ≡ Some sets →
    (IsVerdictWithPolicies accepts q held answer
    ↔ (IsValidWithPolicies accepts q sets × AllByRecursion (IsClear held q.path.moment) (links_of q.path)))

-- invalid exactly where a certificate fails, with the first one and the reason; then no policies are told
abbrev pub InvalidWithPoliciesExactlyWhere : Type 0
InvalidWithPoliciesExactlyWhere =
    (accepts : Accepts) (q : QueryWithPolicies) (held : Holdings) (answer : VerdictWithPolicies) (j : ℕ) (reason : Reason) →
    answer.verdict ≡ Invalid j reason →
    (IsVerdictWithPolicies accepts q held answer ↔ (IsFirstFailureWithPolicies accepts q j reason × (answer.policies ≡ None)))

-- two parties whose verdicts on the path are the same without its policies answer the same with them
abbrev pub SameVerdictsAreSameWithPolicies : Type 0
SameVerdictsAreSameWithPolicies =
    (accepts : Accepts) (q : QueryWithPolicies) (one other : Holdings) (verdict : Verdict) (answer : VerdictWithPolicies) →
    IsVerdict accepts q.path one verdict → IsVerdict accepts q.path other verdict →
    IsVerdictWithPolicies accepts q one answer → IsVerdictWithPolicies accepts q other answer

-- Verdicts with policies by what stores at paths hold, and why there is none.
use Rattle.std.specs.Prelude.{◌≡◌, ℕ, List, Option, IsTrue}
use Rattle.statements_facts.specs.Statement.{Holdings}
use Rattle.store_maps.specs.Held.{IsStoreOf}
use Rattle.path.specs.Query.{Accepts}
use Rattle.path_with_policies.specs.WithPolicies.{QueryWithPolicies}
use Rattle.relying_policies.specs.WithPolicies.{IsVerdictWithPolicies}
use Rattle.relying_policies.specs.declared.verdict.VerdictWithPolicies.{VerdictWithPolicies}
use Rattle.cli_words.specs.PolicyTexts.{PolicyTexts}
use Rattle.cli_words.specs.QueryTexts.{QueryTexts}
use Rattle.cli_failures.specs.declared.failure.Failure.{Failure}
use Rattle.cli_operands.specs.InOrder.{FailsFirst}
use Rattle.cli_operands.specs.Policies.{AsksWithPolicies}
use Rattle.cli_steps.specs.Commands.{BelievesFile}
use Rattle.cli_steps.specs.PolicyText.{SaysVerdict}
use Rattle.cli_steps.specs.WithPolicies.{IsFailureOfPolicyQuestion}
use Rattle.cli_steps.specs.declared.policy_verdict.PolicyVerdict.{PolicyVerdict}
use Rattle.cli_store.specs.Standing.{IsFound, IsIntact, Places, Seen, the_same}
use Rattle.cli.specs.Checked.{IsNotChecked}
use Rattle.cli.specs.Host.{HostState}
use Rattle.cli.specs.Streams.{FailsOrCuts}

-- The verdict with policies by what the store at the path held when it was opened. It was closed then, holds the same as long as its
-- connection is open, and what it held lasts.
pub record IsCheckedWithPoliciesBy (at : Places) (path : List ℕ) (accepts : Accepts) (q : QueryWithPolicies) (answer : VerdictWithPolicies) : Type 0 where
  pub old : Seen
  pub found : IsFound at path old
  pub new : Seen
  pub left : at.leaves path new
  pub is :
      IsIntact new → (held : Holdings) → IsStoreOf old.now held →
      IsVerdictWithPolicies accepts q held answer
      × (IsTrue new.is_open → IsStoreOf new.now held)
      × at.lasts path (the_same held)

-- the verdict that is asked for, and this is told of it
pub record IsCheckedWithPolicies (host : HostState) (store verdicts : List ℕ) (texts : QueryTexts) (policies : PolicyTexts) (told : PolicyVerdict) : Type 0 where
  pub accepts : Accepts
  pub believes : BelievesFile host.holds verdicts accepts
  pub q : QueryWithPolicies
  pub asks : AsksWithPolicies host.holds texts policies q
  pub answer : VerdictWithPolicies
  pub checked : IsCheckedWithPoliciesBy host.at store accepts q answer
  pub says : SaysVerdict answer told

-- What is wrong, the first of it: the words in their order, the store.
abbrev pub IsFailureOfPolicyCheck : HostState → List ℕ → List ℕ → QueryTexts → PolicyTexts → Failure → Type 0
IsFailureOfPolicyCheck host store verdicts texts policies =
    FailsFirst (IsFailureOfPolicyQuestion host.holds verdicts texts policies)
    (((accepts : Accepts) × BelievesFile host.holds verdicts accepts) × ((q : QueryWithPolicies) × AsksWithPolicies host.holds texts policies q))
    (IsNotChecked host.at store)

-- or there is a verdict, and standard output failed behind a front of its lines
abbrev pub FailsToCheckPolicies : HostState → List ℕ → List ℕ → QueryTexts → PolicyTexts → Option (List ℕ) → Option (List ℕ) → Failure → Type 0
FailsToCheckPolicies host store verdicts texts policies =
    FailsOrCuts (IsFailureOfPolicyCheck host store verdicts texts policies)
    (λ text. (told : PolicyVerdict) × IsCheckedWithPolicies host store verdicts texts policies told × (text ≡ told.lines.items))

-- Verdicts with policies, from what was done on their way.
use Rattle.std.proofs.Common.{◌≡◌, ℕ, List, Result, Ok, Err, IfErr, IfOk, inl, inr}
use Rattle.path.specs.Query.{Accepts}
use Rattle.path_with_policies.specs.WithPolicies.{QueryWithPolicies}
use Rattle.relying_agreement.specs.declared.verdict.Verdict.{Verdict}
use Rattle.relying_policies.specs.WithPolicies.{AddsPolicies}
use Rattle.relying_policies.specs.declared.verdict.VerdictWithPolicies.{VerdictWithPolicies}
use Rattle.cli_failures.specs.declared.failure.Failure.{Failure}
use Rattle.cli_failures.specs.declared.failure.Failure.TheVariants.{NoMemory}
use Rattle.cli_operands.proofs.Laws.{ask_with_policies}
use Rattle.cli_operands.specs.Asked.{NameTerms}
use Rattle.cli_operands.specs.Operands.{AreOperands}
use Rattle.cli_operands.specs.Policies.{ArePolicyTerms, AsksWithPolicies, NamePolicies}
use Rattle.cli_operands.specs.declared.operand_files.Operands.{Operands}
use Rattle.cli_operands.specs.declared.policies.PolicyTerms.{PolicyTerms}
use Rattle.cli_operands.specs.declared.terms.Terms.{Terms}
use Rattle.cli_failures.specs.Failures.{Holding}
use Rattle.cli_words.specs.PolicyTexts.{PolicyTexts}
use Rattle.cli_words.specs.QueryTexts.{QueryTexts}
use Rattle.cli_steps.specs.Passing.{AnsweringBy}
use Rattle.cli_steps.specs.PolicyText.{SaysVerdict}
use Rattle.cli_steps.specs.WithPolicies.{ChecksThen, IsPolicyQueryIn, TellsWithPolicies}
use Rattle.cli_steps.specs.declared.policy_verdict.PolicyVerdict.{PolicyVerdict}

-- the lines of an answer that adds policies to the verdict
pub told_with : (q : QueryWithPolicies) (verdict : Verdict) (answer : VerdictWithPolicies) (result : Result PolicyVerdict Failure) → AddsPolicies q verdict answer → IfOk result (SaysVerdict answer)
    → IfOk result (TellsWithPolicies q verdict)
told_with q verdict answer (Ok told) adds says = (answer, adds, says)
told_with q verdict answer (Err failure) adds says = tt

-- a receiver's verdict was told with policies, or memory ran out behind it
pub told_then : {R : Type 0} (Answers : AnsweringBy R Verdict) (old new : R) (accepts : Accepts) (q : QueryWithPolicies) (verdict : Verdict) (result : Result PolicyVerdict Failure)
    → Answers old new accepts q.path (Ok verdict) → IfOk result (TellsWithPolicies q verdict) → IfErr result (λ failure. failure ≡ NoMemory) → ChecksThen Answers old new accepts q result
told_then Answers old new accepts q verdict (Ok told) did tells fails = (verdict, did, tells)
told_then Answers old new accepts q verdict (Err failure) did tells fails = inr (verdict, did, fails)

-- what operands ask is what their texts ask
pub policies_asked : (holds : Holding) (texts : QueryTexts) (asked : PolicyTexts) (terms : Terms) (policies : PolicyTerms) (it : Operands) (q : QueryWithPolicies)
    → NameTerms texts terms → ArePolicyTerms asked policies → AreOperands holds texts it → IsPolicyQueryIn it terms policies q → AsksWithPolicies holds texts asked q
policies_asked holds texts asked terms policies it q named say are (inputs, of, is) = ask_with_policies holds texts asked terms policies inputs it q named say of are is

-- policies that the texts name are some
pub some_policies : (asked : PolicyTexts) (policies : PolicyTerms) → ArePolicyTerms asked policies → (contents : List (List ℕ)) × NamePolicies asked.policies contents
some_policies asked policies say = (_, say.policies)

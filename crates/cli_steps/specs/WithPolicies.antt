-- Verdicts on paths whose policies are processed: what is read and passed to a receiver, and what is told.
use Rattle.std.specs.Prelude.{◌≡◌, ◌⊎◌, ℕ, List, Result, Ok, Err}
use Rattle.path.specs.Query.{Accepts}
use Rattle.path_with_policies.specs.WithPolicies.{QueryWithPolicies}
use Rattle.path_with_policies.specs.declared.query.PolicyInputs.{PolicyInputs}
use Rattle.relying_agreement.specs.declared.verdict.Verdict.{Verdict}
use Rattle.relying_policies.specs.WithPolicies.{AddsPolicies}
use Rattle.relying_policies.specs.declared.verdict.VerdictWithPolicies.{VerdictWithPolicies}
use Rattle.cli_failures.specs.Failures.{Holding}
use Rattle.cli_failures.specs.declared.failure.Failure.{Failure}
use Rattle.cli_failures.specs.declared.failure.Failure.TheVariants.{NoMemory}
use Rattle.cli_operands.specs.Asked.{HaveTerms, HoldsFingerprints, IsFailureOfTerms, IsFailureOnFingerprints}
use Rattle.cli_operands.specs.InOrder.{FailsFirst}
use Rattle.cli_operands.specs.Policies.{AsksWithPolicies, HasTermsOf, IsBadPolicy, IsFailureOfPolicyPath, IsPolicyQueryOf, NamePolicies}
use Rattle.cli_operands.specs.declared.operand_files.Operands.{Operands}
use Rattle.cli_operands.specs.declared.policies.PolicyTerms.{PolicyTerms}
use Rattle.cli_operands.specs.declared.terms.Terms.{Terms}
use Rattle.cli_words.specs.PolicyTexts.{PolicyTexts}
use Rattle.cli_words.specs.QueryTexts.{QueryTexts}
use Rattle.cli_steps.specs.Commands.{BelievesFile}
use Rattle.cli_steps.specs.Passing.{AnsweringBy, PassesOn}
use Rattle.cli_steps.specs.PolicyText.{SaysVerdict}
use Rattle.cli_steps.specs.declared.policy_verdict.PolicyVerdict.{PolicyVerdict}

-- What is wrong with the texts, the first of it: the moment, the purpose, the policies in order; then this, if they are right.
abbrev pub FailsBehindPolicies : QueryTexts → PolicyTexts → (Failure → Type 0) → Failure → Type 0
FailsBehindPolicies texts policies next =
    FailsFirst (IsFailureOfTerms texts) (HaveTerms texts)
    (FailsFirst (IsBadPolicy policies.policies) ((contents : List (List ℕ)) × NamePolicies policies.policies contents) next)

-- In a line of a session the certificates come next.
abbrev pub IsFailureOfPolicyQuery : Holding → QueryTexts → PolicyTexts → Failure → Type 0
IsFailureOfPolicyQuery holds texts policies = FailsBehindPolicies texts policies (IsFailureOfPolicyPath holds texts)

-- On a command line the file of verdicts is read between.
abbrev pub IsFailureOfPolicyQuestion : Holding → List ℕ → QueryTexts → PolicyTexts → Failure → Type 0
IsFailureOfPolicyQuestion holds verdicts texts policies =
    FailsBehindPolicies texts policies
    (FailsFirst (IsFailureOnFingerprints holds verdicts)
    ((prints : List (List ℕ)) × HoldsFingerprints holds verdicts prints)
    (IsFailureOfPolicyPath holds texts))

-- ---- what is told

-- Of the party that gave this verdict on the path without its policies, this is told with them.
abbrev pub TellsWithPolicies : QueryWithPolicies → Verdict → PolicyVerdict → Type 0
TellsWithPolicies q verdict told =
    (answer : VerdictWithPolicies) × AddsPolicies q verdict answer × SaysVerdict answer told

-- a receiver gave a verdict on the path without its policies, and this is told with them; or it failed; or memory ran out behind it
abbrev pub ChecksThen : {R : Type 0} → AnsweringBy R Verdict → R → R → Accepts → QueryWithPolicies → Result PolicyVerdict Failure → Type 0
ChecksThen Answers old new accepts q (Ok told) =
    (verdict : Verdict) × Answers old new accepts q.path (Ok verdict) × TellsWithPolicies q verdict told
ChecksThen Answers old new accepts q (Err failure) =
    Answers old new accepts q.path (Err failure)
    ⊎ ((verdict : Verdict) × Answers old new accepts q.path (Ok verdict) × (failure ≡ NoMemory))

-- the query that the texts ask is passed to a receiver, with a verifier that accepts so
abbrev pub ChecksByTexts : {R : Type 0} → Holding → Accepts → QueryTexts → PolicyTexts → AnsweringBy R Verdict → R → R → Result PolicyVerdict Failure → Type 0
ChecksByTexts holds accepts texts policies Answers =
    PassesOn (AsksWithPolicies holds texts policies) (IsFailureOfPolicyQuery holds texts policies)
    (λ old new q. ChecksThen Answers old new accepts q)

-- with one that accepts just the signatures whose fingerprints the file of verdicts lists
abbrev pub ChecksBelieving : {R : Type 0} → Holding → List ℕ → QueryTexts → PolicyTexts → AnsweringBy R Verdict → R → R → Result PolicyVerdict Failure → Type 0
ChecksBelieving holds verdicts texts policies Answers =
    PassesOn (λ (asked : Accepts × QueryWithPolicies). BelievesFile holds verdicts asked.0 × AsksWithPolicies holds texts policies asked.1)
    (IsFailureOfPolicyQuestion holds verdicts texts policies)
    (λ old new asked. ChecksThen Answers old new asked.0 asked.1)

-- ---- on the way

-- the query on these terms about the certificates of the operands
abbrev pub IsPolicyQueryIn : Operands → Terms → PolicyTerms → QueryWithPolicies → Type 0
IsPolicyQueryIn it terms policies q =
    (inputs : PolicyInputs) × HasTermsOf policies inputs × IsPolicyQueryOf it terms inputs q

-- How the code comes to the verdict on a path whose policies are processed.
use Rattle.std.specs.Prelude.{◌≡◌, List, ℕ}
use Rattle.asn.specs.declared.oid.Oid.{Oid}
use Rattle.path.specs.Query.{Query, Accepts}
use Rattle.path_with_policies.specs.Asking.{HasInputs, IsOf}
use Rattle.path_with_policies.specs.WithPolicies.{QueryWithPolicies}
use Rattle.path_with_policies.specs.declared.query.PolicyInputs.{PolicyInputs}
use Rattle.statements.specs.Statement.{Statement}
use Rattle.relying_agreement.specs.declared.verdict.Verdict.{Verdict}
use Rattle.relying_policies.specs.WithPolicies.{AddsPolicies}
use Rattle.relying_policies.specs.declared.verdict.VerdictWithPolicies.{VerdictWithPolicies}
use Rattle.relying_questions.specs.Agreement.{AcceptsPrints}
use Rattle.relying_texts.specs.Reading.{AreStatementsReadUnder}
use Rattle.relying_texts.specs.Texts.{IsVerdictByStatements}
use Rattle.capi_values.specs.Policies.{IsPolicyCaseRead, is_asked}
use Rattle.capi_values.specs.Texts.{IsQueryRead, octets_of_texts, profile_of}
use Rattle.capi_values.specs.declared.policies.PolicyInputsOfTexts.{PolicyInputsOfTexts}
use Rattle.capi_values.specs.declared.texts.QueryOfTexts.{QueryOfTexts}
use Rattle.capi_values.specs.declared.texts.Text.{Text}

-- the inputs are these, with these policies
pub record AreInputs (inputs : PolicyInputsOfTexts) (policies : List Oid) (read : PolicyInputs) : Type 0 where
  pub initial_policies : read.initial_policies.now ≡ policies
  pub inhibit_policy_mapping : read.inhibit_policy_mapping ≡ is_asked inputs.inhibit_policy_mapping
  pub require_explicit_policy : read.require_explicit_policy ≡ is_asked inputs.require_explicit_policy
  pub inhibit_any_policy : read.inhibit_any_policy ≡ is_asked inputs.inhibit_any_policy

-- what was read is a question about this path, with these inputs, and these are the statements
pub record IsCaseOf (query : QueryOfTexts) (statements : List Text) (inputs : PolicyInputs) (read : QueryWithPolicies) (these : List Statement) : Type 0 where
  pub path : Query
  pub path_is : IsQueryRead query path
  pub is_of : IsOf path read
  pub inputs_are : HasInputs inputs read.policies
  pub statements_are : AreStatementsReadUnder (profile_of query.wide) (octets_of_texts statements) these

-- the verdict on the path of who accepts exactly the signatures that have these fingerprints, and its policies
pub record IsSaidBy (prints : List (List ℕ)) (read : QueryWithPolicies) (these : List Statement) (said : VerdictWithPolicies) : Type 0 where
  pub accepts : Accepts
  pub accepts_prints : AcceptsPrints accepts prints
  pub verdict : Verdict
  pub is_verdict : IsVerdictByStatements accepts read.path these verdict
  pub adds : AddsPolicies read verdict said

pub record IsSaidOn (query : QueryOfTexts) (inputs : PolicyInputsOfTexts) (statements : List Text) (prints : List (List ℕ)) (said : VerdictWithPolicies) : Type 0 where
  pub read : QueryWithPolicies
  pub these : List Statement
  pub is_read : IsPolicyCaseRead query inputs statements read these
  pub is_said : IsSaidBy prints read these said

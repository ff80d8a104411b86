-- How a verdict on a path whose policies are processed is written.
use Rattle.std.specs.Prelude.{◌≡◌, ℕ, List, [], ◌++◌, Option, None, Some, codes}
use Rattle.std.specs.List.{flat_map}
use Rattle.asn.specs.Oid.{oid_contents}
use Rattle.asn.specs.declared.oid.Oid.{Oid}
use Rattle.path_policies.specs.declared.reason.PolicySets.{PolicySets}
use Rattle.relying_policies.specs.declared.verdict.VerdictWithPolicies.{VerdictWithPolicies}
use Rattle.cli_answers.specs.AnswerText.{verdict_line}
use Rattle.cli_printing.specs.OidText.{oid_text}
use Rattle.cli_steps.specs.declared.policy_verdict.PolicyVerdict.{PolicyVerdict}

-- a word, and the policy
abbrev pub policy_line : List ℕ → Oid → List ℕ
policy_line word policy = word ++ oid_text (oid_contents policy) ++ codes "\n"

-- `policy OID` for each policy of the authorities, and `user-policy OID` for each that the user takes (RFC 5280, 6.1.6)
abbrev pub policies_text : Option PolicySets → List ℕ
policies_text None = []
policies_text (Some sets) =
    flat_map (policy_line (codes "policy ")) sets.authority_constrained.items
    ++ flat_map (policy_line (codes "user-policy ")) sets.user_constrained.items

-- the line of the verdict, and those of the policies at the end of the path, of which there are none where it is invalid
abbrev pub policy_verdict_lines : VerdictWithPolicies → List ℕ
policy_verdict_lines answer = verdict_line answer.verdict ++ policies_text answer.policies

-- this is told of it
pub record SaysVerdict (answer : VerdictWithPolicies) (told : PolicyVerdict) : Type 0 where
  pub verdict : told.verdict ≡ answer.verdict
  pub lines : told.lines.items ≡ policy_verdict_lines answer

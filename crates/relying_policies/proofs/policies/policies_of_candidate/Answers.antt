use Rattle.std.proofs.Common.{map, ap, ◌∙◌}
use Rattle.path_policies.specs.Seen.{seen_policy_certificate}
use Rattle.path_search.specs.Answer.{seen_candidate}
use Rattle.relying_policies.specs.SearchPolicies.{policies_down_to_target, seen_search_policies}
use Rattle.relying_policies.proofs.Downward.{about}
use Rattle.relying_policies.proofs.policies.policies_of_candidate.Goals as goal

pub returns : goal.returns
returns c =
    about (seen_search_policies c.args.policies.now) (seen_candidate c.args.candidate.now) (map seen_policy_certificate c.as_slice-2.result.now) c.process_policies.result
    (ap (map seen_policy_certificate) c.as_slice-2.ensures.value
    ∙ c.in_ok-certificates.ensures
    ∙ ap (policies_down_to_target (seen_search_policies c.args.policies.now)) c.as_slice.ensures.value)
    c.process_policies.ensures

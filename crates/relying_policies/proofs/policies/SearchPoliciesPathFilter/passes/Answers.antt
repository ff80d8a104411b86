use Rattle.path_issuers.specs.View.{seen_search}
use Rattle.path_search.specs.Answer.{seen_candidate}
use Rattle.relying_policies.specs.SearchPolicies.{seen_search_policies}
use Rattle.relying_policies.proofs.Found.{tells}
use Rattle.relying_policies.proofs.policies.SearchPoliciesPathFilter.passes.Goals as goal

pub returns : goal.returns
returns c =
    tells (seen_search_policies c.args.self.now) (seen_search c.args._search.now) (seen_candidate c.args.candidate.now) c.in_ok-policies_of_candidate.field-0
    c.is_good.result c.is_good.ensures c.in_ok-policies_of_candidate.ensures

use Rattle.path_policies.proofs.TreeCounting.{explicit_policy_is_exact, policy_mapping_is_exact, inhibit_any_policy_is_exact, explicit_policy_is_exact_at_end}
use Rattle.path_policies.proofs.TreeLasting.{branches_last}
use Rattle.path_policies.proofs.Success.{first_named_are_nodes, intersection_is_exact, success_is_exact}
use Rattle.path_policies.proofs.Trees.{branches_are_traces, null_is_no_policy, required_policy_is_exact}
use Rattle.path_policies.proofs.tree.tree_laws.Goals as goal

pub returns-clause-explicit_policy : goal.returns-clause-explicit_policy
returns-clause-explicit_policy c = explicit_policy_is_exact

pub returns-clause-policy_mapping : goal.returns-clause-policy_mapping
returns-clause-policy_mapping c = policy_mapping_is_exact

pub returns-clause-inhibit_any_policy : goal.returns-clause-inhibit_any_policy
returns-clause-inhibit_any_policy c = inhibit_any_policy_is_exact

pub returns-clause-explicit_policy_at_end : goal.returns-clause-explicit_policy_at_end
returns-clause-explicit_policy_at_end c = explicit_policy_is_exact_at_end

pub returns-clause-branches : goal.returns-clause-branches
returns-clause-branches c = branches_are_traces

pub returns-clause-null : goal.returns-clause-null
returns-clause-null c = null_is_no_policy

pub returns-clause-branches_last : goal.returns-clause-branches_last
returns-clause-branches_last c = branches_last

pub returns-clause-first_named : goal.returns-clause-first_named
returns-clause-first_named c = first_named_are_nodes

pub returns-clause-intersection : goal.returns-clause-intersection
returns-clause-intersection c = intersection_is_exact

pub returns-clause-success : goal.returns-clause-success
returns-clause-success c = success_is_exact

pub returns-clause-required : goal.returns-clause-required
returns-clause-required c = required_policy_is_exact

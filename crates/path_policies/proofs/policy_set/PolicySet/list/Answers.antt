use Rattle.std.proofs.Common.{◌≡◌, map, sym, subst, rules}
use Rattle.std.specs.List.Sorted.{IsStrictlySortedBy}
use Rattle.std.specs.Ordering.{nat_cmp}
use Rattle.std.specs.Cmp.Lexicographic.{slice_cmp}
use Rattle.std.specs.Map.Iter.{deref}
use Rattle.std.proofs.lemmas.Map.Iter.{iter_end}
use Rattle.path_policies.proofs.Members.{all_contents, is_member, ascending}
use Rattle.path_policies.proofs.policy_set.PolicySet.list.Goals as goal

pub returns-clause-members : goal.returns-clause-members
returns-clause-members c policy =
    let e : map deref c.loop-policy.yielded ≡ c.args.self.now.policies.keys = search (rules, iter_end) in
    is_member c.loop-policy.list.items c.args.self.now.policies.keys policy (all_contents c.loop-policy.list.items c.loop-policy.yielded c.args.self.now.policies.keys c.loop-policy.invariant.2 e)

pub returns-clause-ascending : goal.returns-clause-ascending
returns-clause-ascending c =
    let e : map deref c.loop-policy.yielded ≡ c.args.self.now.policies.keys = search (rules, iter_end) in
    subst (IsStrictlySortedBy (slice_cmp nat_cmp)) (sym (all_contents c.loop-policy.list.items c.loop-policy.yielded c.args.self.now.policies.keys c.loop-policy.invariant.2 e))
    (ascending c.args.self.now.policies.keys c.into_iter-policy-iterator.ensures.into_iter_gives.4)

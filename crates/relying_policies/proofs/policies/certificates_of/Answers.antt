use Rattle.std.proofs.Common.{arith, ◌+◌, ◌-◌, ◌∷◌, ◌++◌, [], length, map, ap, ◌∙◌}
use Rattle.std.proofs.lemmas.List.{map-append}
use Rattle.path_policies.specs.Seen.{seen_policy_certificate}
use Rattle.relying_policies.specs.SearchPolicies.{seen_search_policies}
use Rattle.relying_policies.proofs.Downward.{last_one, none_yet, one_more}
use Rattle.relying_policies.proofs.policies.certificates_of.Goals as goal

pub loop-index-init : goal.loop-index-init
loop-index-init c =
    none_yet (seen_search_policies c.args.policies.now) c.args.above.now (map seen_policy_certificate c.in_ok-path.path.items)
    (length c.args.above.now - 0) (ap (map seen_policy_certificate) c.in_ok-path.ensures.items) (omega arith)

pub loop-index-preserved : goal.loop-index-preserved
loop-index-preserved c =
    let i = c.loop-index.index in
    let count = length c.args.above.now in
    one_more (seen_search_policies c.args.policies.now) c.args.above.now (map seen_policy_certificate c.loop-index.path.items)
    (map seen_policy_certificate c.push.new.self.items) (count - i) (count - 1 - i) (count - (i + 1))
    (omega (arith, c.loop-index-test.true)) (omega (arith, c.loop-index-test.true)) (omega arith)
    (ap (map seen_policy_certificate) c.in_ok-push.ensures.items
    ∙ map-append seen_policy_certificate c.loop-index.path.items _
    ∙ ap (λ one. map seen_policy_certificate c.loop-index.path.items ++ one ∷ []) (c.in_ok-copy.ensures ∙ c.policies_at-certificate.ensures))
    c.loop-index.invariant

pub returns : goal.returns
returns c =
    last_one (seen_search_policies c.args.policies.now) c.args.above.now (map seen_policy_certificate c.loop-index.path.items)
    (map seen_policy_certificate c.push-2.new.self.items) (length c.args.above.now - c.loop-index.index) (omega (arith, c.loop-index-test.false))
    (ap (map seen_policy_certificate) c.in_ok-push-2.ensures.items
    ∙ map-append seen_policy_certificate c.loop-index.path.items _
    ∙ ap (λ one. map seen_policy_certificate c.loop-index.path.items ++ one ∷ []) c.in_ok-last.ensures)
    c.loop-index.invariant

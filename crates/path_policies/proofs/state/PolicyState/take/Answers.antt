use Rattle.std.proofs.Common.{◌≡◌, ◌<◌, ◌∙◌, ℕ, length, refl, sym, subst}
use Rattle.path_policies.specs.declared.walk.Step.TheVariants as step
use Rattle.path_policies.specs.Query.{count}
use Rattle.path_policies.specs.Seen.{seen_query}
use Rattle.path_policies.specs.Walk.{HasWalked}
use Rattle.path_policies.proofs.Stepping.{not_all, taken, refused_next, walked_next, represents_next, passed_next}
use Rattle.path_policies.proofs.state.PolicyState.take.Goals as goal

pub returns-in-Failed : goal.returns-in-Failed
returns-in-Failed c =
    let q = seen_query c.self.inside.query in
    let i = c.len-index.result in
    let passed : i ≡ length c.self.inside.firsts.items = c.len-index.ensures ∙ c.self.inside.firsts.ok.0 in
    let below : i < count q = not_all c.self.view_is c.requires i passed in
    refused_next c.self.view_is c.requires i passed c.self.inside.firsts.items c.self.inside.policies c.take_certificate.new.policies c.in-Failed.reason
    (subst (λ (n : ℕ). HasWalked q n c.self.inside.firsts.items c.self.inside.policies) (sym passed) c.self.invariant.walked)
    (taken c.self.inside.query c.self.inside.each.items c.self.inside.firsts.items c.self.inside.policies c.take_certificate.new.policies c.self.invariant i below
    c.index-query-index.result c.index.result.now c.index.ensures c.in_ok-reason.field-0 (step.Failed c.in-Failed.reason) c.in-Failed.is c.in_ok-reason.ensures)

pub invariant_of-result : goal.invariant_of-result
invariant_of-result c =
    let q = seen_query c.self.inside.query in
    let i = c.len-index.result in
    let passed : i ≡ length c.self.inside.firsts.items = c.len-index.ensures ∙ c.self.inside.firsts.ok.0 in
    let below : i < count q = not_all c.self.view_is c.requires i passed in
    represents_next q i c.self.inside.each.items c.self.inside.firsts.items c.push.new.self.items c.in-Passed.first c.self.inside.policies c.take_certificate.new.policies
    c.self.invariant passed below c.in_ok-push-in-Passed.ensures.items
    (walked_next q i c.self.inside.firsts.items c.push.new.self.items c.in-Passed.first c.self.inside.policies c.take_certificate.new.policies
    passed c.in_ok-push-in-Passed.ensures.items c.self.invariant.walked
    (taken c.self.inside.query c.self.inside.each.items c.self.inside.firsts.items c.self.inside.policies c.take_certificate.new.policies c.self.invariant i below
    c.index-query-index.result c.index.result.now c.index.ensures c.in_ok-reason.field-0 (step.Passed c.in-Passed.first) c.in-Passed.is c.in_ok-reason.ensures))

pub returns : goal.returns
returns c =
    let q = seen_query c.self.inside.query in
    let i = c.len-index.result in
    let passed : i ≡ length c.self.inside.firsts.items = c.len-index.ensures ∙ c.self.inside.firsts.ok.0 in
    let below : i < count q = not_all c.self.view_is c.requires i passed in
    passed_next c.self.view_is c.requires c.self.inside.firsts.items c.push.new.self.items c.take_certificate.new.policies c.in-Passed.first refl c.in_ok-push-in-Passed.ensures.items
    (walked_next q i c.self.inside.firsts.items c.push.new.self.items c.in-Passed.first c.self.inside.policies c.take_certificate.new.policies
    passed c.in_ok-push-in-Passed.ensures.items c.self.invariant.walked
    (taken c.self.inside.query c.self.inside.each.items c.self.inside.firsts.items c.self.inside.policies c.take_certificate.new.policies c.self.invariant i below
    c.index-query-index.result c.index.result.now c.index.ensures c.in_ok-reason.field-0 (step.Passed c.in-Passed.first) c.in-Passed.is c.in_ok-reason.ensures))

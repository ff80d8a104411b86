use Rattle.std.proofs.Common.{length, get_or, sym, ap, ◌∙◌}
use Rattle.std.proofs.lemmas.List.{length-map}
use Rattle.path_policies.specs.declared.walk.Step.TheVariants as step
use Rattle.path_policies.specs.Seen.{seen_query, seen_policy_certificate, seen_inhibitions, no_inhibitions}
use Rattle.path_policies.specs.Sets.{has}
use Rattle.path_policies.proofs.Counting.{numbered}
use Rattle.path_policies.proofs.Walking.{started, passed, failed, stepped}
use Rattle.path_policies.proofs.walk.walk_certificates.Goals as goal

pub loop-index-init : goal.loop-index-init
loop-index-init c = started (seen_query c.args.query.now) c.new-firsts.result.items c.new-policies.result c.insert.new.self c.new-firsts.ensures.items c.new-policies.ensures c.in_ok-insert.ensures

pub returns-in-Failed : goal.returns-in-Failed
returns-in-Failed c =
    let q = seen_query c.args.query.now in
    let i = c.loop-index.index in
    let certificates = c.args.query.now.certificates.now in
    let is = numbered certificates i c.index-certificates-index.result c.loop-index-test.true ∙ ap seen_policy_certificate (sym c.index-certificates-index.is) in
    failed q i c.loop-index.firsts.items c.loop-index.policies c.take_certificate.new.policies c.in-Failed.reason c.loop-index.invariant
    (rw (length-map certificates seen_policy_certificate) c.loop-index-test.true)
    (stepped q i (seen_policy_certificate c.index-certificates-index.result) (seen_inhibitions (get_or c.args.each.now i no_inhibitions)) (length certificates)
    (has c.loop-index.policies) (has c.take_certificate.new.policies) c.in_ok-reason.field-0 (step.Failed c.in-Failed.reason)
    is (c.requires.each i c.loop-index-test.true) (length-map certificates seen_policy_certificate) c.in-Failed.is c.in_ok-reason.ensures)

pub loop-index-preserved : goal.loop-index-preserved
loop-index-preserved c =
    let q = seen_query c.args.query.now in
    let i = c.loop-index.index in
    let certificates = c.args.query.now.certificates.now in
    let is = numbered certificates i c.index-certificates-index.result c.loop-index-test.true ∙ ap seen_policy_certificate (sym c.index-certificates-index.is) in
    rw c.in_ok-push-in-Passed.ensures.items
    (passed q i c.loop-index.firsts.items c.in-Passed.first c.loop-index.policies c.take_certificate.new.policies c.loop-index.invariant
    (stepped q i (seen_policy_certificate c.index-certificates-index.result) (seen_inhibitions (get_or c.args.each.now i no_inhibitions)) (length certificates)
    (has c.loop-index.policies) (has c.take_certificate.new.policies) c.in_ok-reason.field-0 (step.Passed c.in-Passed.first)
    is (c.requires.each i c.loop-index-test.true) (length-map certificates seen_policy_certificate) c.in-Passed.is c.in_ok-reason.ensures))

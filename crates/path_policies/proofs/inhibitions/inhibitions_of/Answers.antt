use Rattle.std.proofs.Common.{◌≡◌, ◌+◌, ◌∙◌, sym, ap, length, rules}
use Rattle.std.proofs.lemmas.List.{length-map}
use Rattle.path_policies.specs.Query.{certificate_numbered}
use Rattle.path_policies.specs.Seen.{seen_query, seen_policy_certificate, inhibitions_in}
use Rattle.path_policies.proofs.Counting.{numbered, left_more, each_more, at_behind}
use Rattle.path_policies.proofs.inhibitions.inhibitions_of.Goals as goal

pub loop-index-preserved : goal.loop-index-preserved
loop-index-preserved c =
    let q = seen_query c.args.query.now in
    let i = c.loop-index.index in
    let here = seen_policy_certificate c.index-certificates-index.result in
    let is : certificate_numbered q (i + 1) ≡ here =
    numbered c.args.query.now.certificates.now i c.index-certificates-index.result c.loop-index-test.true ∙ ap seen_policy_certificate (sym c.index-certificates-index.is) in
    let at = c.at.ensures ∙ at_behind q i here (length c.args.query.now.certificates.now) _ _ _ is (length-map c.args.query.now.certificates.now seen_policy_certificate) c.loop-index.invariant.2 c.loop-index.invariant.3 c.loop-index.invariant.4 in (
      search (rules, c.loop-index.invariant.0),
      (λ k below. ap (λ items. inhibitions_in items k) c.in_ok-push.ensures.items ∙ each_more q c.loop-index.each.items i c.at.result c.loop-index.invariant.0 c.loop-index.invariant.1 at k below),
      c.pass-counters.ensures.explicit ∙ left_more (λ e. e.require_explicit_policy) q i _ here c.loop-index.invariant.2 is,
      c.pass-counters.ensures.mapping ∙ left_more (λ e. e.inhibit_policy_mapping) q i _ here c.loop-index.invariant.3 is,
      c.pass-counters.ensures.any ∙ left_more (λ e. e.inhibit_any_policy) q i _ here c.loop-index.invariant.4 is,
    )

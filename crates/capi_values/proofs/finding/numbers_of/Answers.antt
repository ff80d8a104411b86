use Rattle.std.proofs.Common.{◌≡◌, ◌+◌, ◌-◌, ◌<◌, ◌^◌, ◌∙◌, ◌++◌, [], ◌∷◌, ap, arith, get_or, length}
use Rattle.capi_values.proofs.Gathering.{have_at, one_up}
use Rattle.capi_values.proofs.finding.numbers_of.Goals as goal

pub overflow_add-anchors : goal.overflow_add-anchors
overflow_add-anchors c =
    let places = c.args.path.now.above.items in
    let counted : c.len-count.result ≡ length places = c.len-count.ensures ∙ c.args.path.now.above.ok.0 in
    let fits = have_at (λ place. c.args.anchors + 1 + place < 2 ^ 64) places (c.len-count.result - 1 - c.loop-index.index) 0 c.requires (omega (arith, counted, c.loop-index-test.true)) in
    omega (arith, fits)

pub loop-index-preserved : goal.loop-index-preserved
loop-index-preserved c =
    let places = c.args.path.now.above.items in
    let i = c.loop-index.index in
    let counted : c.len-count.result ≡ length places = c.len-count.ensures ∙ c.args.path.now.above.ok.0 in
    let there : c.len-count.result - 1 - i ≡ length places - 1 - i = ap (λ n. n - 1 - i) counted in
    one_up (λ place. c.args.anchors + 1 + place) c.args.path.now.anchor places c.loop-index.numbers.items c.push-in-loop-index.new.self.items i c.index.result.now (omega (arith, counted, c.loop-index-test.true)) c.loop-index.invariant
    (c.in_ok-push-2.ensures.items ∙ ap (λ place. c.loop-index.numbers.items ++ (c.args.anchors + 1 + place) ∷ []) (c.index.ensures ∙ ap (λ k. get_or places k c.index.result.now) there))

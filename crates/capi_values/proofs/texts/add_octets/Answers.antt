use Rattle.capi_values.proofs.Fitting.{one_more, one_more_fits}
use Rattle.capi_values.proofs.texts.add_octets.Goals as goal

pub loop-text-preserved : goal.loop-text-preserved
loop-text-preserved c =
    let octets = c.loop-text.octets.items in
    let new = c.push.new.self.items in (
      one_more octets new c.octets.result c.args.texts.now _ c.loop-text.text-index _ c.loop-text-test.true c.in_ok-push.ensures.items c.octets.ensures.same c.loop-text.invariant.0,
      λ fit. one_more_fits octets new c.octets.result c.in_ok-push.ensures.items (c.loop-text.invariant.1 fit) c.octets.ensures.fit,
    )

use Rattle.std.proofs.Common.{sym, ◌∙◌}
use Rattle.path_conditions.proofs.Repeated.{one_more}
use Rattle.path_conditions.proofs.repetition.repeats.Goals as goal

pub loop-base-preserved : goal.loop-base-preserved
loop-base-preserved c =
    one_more c.args.list.now c.args.more.now c.loop-base.count c.loop-base.base-index c.base-item.result c.loop-base-test.true c.base-item.is _
    (sym c.is_same_at.ensures ∙ c.if-not-is_same_at.false) c.loop-base.invariant.1

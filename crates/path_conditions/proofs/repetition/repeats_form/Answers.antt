use Rattle.std.proofs.Common.{sym, ◌∙◌}
use Rattle.path_conditions.proofs.Repeated.{form_more, form_skipped}
use Rattle.path_conditions.proofs.repetition.repeats_form.Goals as goal
use Rattle.path_conditions.proofs.repetition.repeats_form.Goals.{then-is_about+else-not-is_same_at, else-is_about}

pub loop-base-preserved : goal.loop-base-preserved
loop-base-preserved c =
    let list = c.args.list.now in
    let carried = c.args.carried.now in
    let k = c.loop-base.count in
    let i = c.loop-base.base-index in
    let s = c.base-item.result in
    elim c.if-is_about.branch [
      | then-is_about+else-not-is_same_at w ↦ rw w.count-is (form_more list carried k i s c.loop-base-test.true c.base-item.is c.args.form _
          (sym c.is_about.ensures ∙ w.if-is_about.true) (sym w.is_same_at.ensures ∙ w.if-not-is_same_at.false) c.loop-base.invariant.1)
      | else-is_about w ↦ rw w.count-is (
        c.loop-base.invariant.0,
        form_skipped list carried k i s c.loop-base-test.true c.base-item.is c.args.form _
            (sym c.is_about.ensures ∙ w.if-is_about.false) c.loop-base.invariant.1,
      )
    ]

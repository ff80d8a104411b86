use Rattle.std.proofs.Common.{◌∙◌, ◌-◌, length, sym}
use Rattle.std.proofs.lemmas.Slice.Eq.{bytes_eq-Decides}
use Rattle.names_order.proofs.SameEnds.{before_same_end}
use Rattle.names_order.proofs.comparison.without_same_end.Goals as goal

pub loop-left_front-preserved : goal.loop-left_front-preserved
loop-left_front-preserved c =
    let one = c.loop-left_front.left_rest.now in
    let other = c.loop-left_front.right_rest.now in
    let left = c.in-Some.ensures.cases in
    let right = c.in-Some-split_last_chunk.ensures.cases in
    let same = (bytes_eq-Decides c.in-Some.left_end.now c.in-Some-split_last_chunk.right_end.now).0 (sym c.eq.ensures ∙ c.if-eq.true) in
    rw (left.0, right.0) (c.loop-left_front.invariant ∙ before_same_end (length one - 8) (length other - 8) one other (sym left.1 ∙ (same ∙ right.1)))

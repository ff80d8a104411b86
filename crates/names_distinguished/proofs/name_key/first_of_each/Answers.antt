use Rattle.std.proofs.Common.{◌∙◌, ap, arith}
use Rattle.names_distinguished.proofs.Ordered.{place_new, place_repeated, all_placed}
use Rattle.names_distinguished.proofs.name_key.first_of_each.Goals as goal
use Rattle.names_distinguished.proofs.name_key.first_of_each.Goals.{then-not-ends_in_kind+in_ok-push, else-not-ends_in_kind}

pub loop-i-preserved : goal.loop-i-preserved
loop-i-preserved c =
    let sorted = c.args.sorted.now in
    let i = c.loop-i.i in
    elim c.if-not-ends_in_kind.branch [
      | then-not-ends_in_kind+in_ok-push w ↦
          place_new sorted i _ c.loop-i.list.items c.if-not-ends_in_kind.list.items c.ends_in_kind.result c.requires c.loop-i-test.true c.loop-i.invariant
          c.ends_in_kind.ensures w.if-not-ends_in_kind.true (ap (λ v. v.items) w.list-is ∙ w.in_ok-push.ensures.items)
      | else-not-ends_in_kind w ↦
          place_repeated sorted i _ c.loop-i.list.items c.if-not-ends_in_kind.list.items c.ends_in_kind.result c.loop-i-test.true c.loop-i.invariant
          c.ends_in_kind.ensures w.if-not-ends_in_kind.false (ap (λ v. v.items) w.list-is)
    ]

pub returns : goal.returns
returns c = all_placed c.args.sorted.now c.loop-i.list.items c.loop-i.i (omega arith) c.loop-i.invariant

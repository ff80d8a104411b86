use Rattle.std.proofs.Common.{◌∙◌, ◌∷◌, List, length, arith, sym, ap}
use Rattle.names_distinguished.specs.Repetition.{Placed, kinds_of, pointed}
use Rattle.names_distinguished.proofs.Runs.{past_more, ascends_more, stops_here, stops_at_end}
use Rattle.names_distinguished.proofs.Pointers.{pointed_next, pointed_none}
use Rattle.names_distinguished.proofs.repetition.Pointer.past.Goals as goal

pub returns-then-next-limit : goal.returns-then-next-limit
returns-then-next-limit c = record {
  covers = c.loop-pointer.invariant.covers;
  ascends = c.loop-pointer.invariant.ascends;
  stops = stops_here c.args.limit c.args.kind.now (pointed c.loop-pointer.pointer) (kinds_of c.loop-pointer.pointer.others) (c.in-Some.next.at, c.in-Some.next.kind.now) (pointed_next c.loop-pointer.pointer c.in-Some.next c.in-Some.is) (λ below. absurd (omega arith));
}

pub returns-then-not-is_kind_before : goal.returns-then-not-is_kind_before
returns-then-not-is_kind_before c = record {
  covers = c.loop-pointer.invariant.covers;
  ascends = c.loop-pointer.invariant.ascends;
  stops = stops_here c.args.limit c.args.kind.now (pointed c.loop-pointer.pointer) (kinds_of c.loop-pointer.pointer.others) (c.in-Some.next.at, c.in-Some.next.kind.now) (pointed_next c.loop-pointer.pointer c.in-Some.next c.in-Some.is)
      (λ below. sym c.is_kind_before.ensures ∙ c.if-not-is_kind_before.true);
}

pub returns : goal.returns
returns c = record {
  covers = c.loop-pointer.invariant.covers;
  ascends = c.loop-pointer.invariant.ascends;
  stops = stops_at_end c.args.limit c.args.kind.now (pointed c.loop-pointer.pointer) (pointed_none c.loop-pointer.pointer c.in_default.is);
}

pub loop-pointer-smaller : goal.loop-pointer-smaller
loop-pointer-smaller c =
    let e = pointed_next c.loop-pointer.pointer c.in-Some.next c.in-Some.is in
    let f = c.first-pointer.ensures in
    omega (arith, ap length e, ap length f)

pub loop-pointer-preserved : goal.loop-pointer-preserved
loop-pointer-preserved c =
    let e = pointed_next c.loop-pointer.pointer c.in-Some.next c.in-Some.is ∙ ap (λ (xs : List Placed). (c.in-Some.next.at, c.in-Some.next.kind.now) ∷ xs) (sym c.first-pointer.ensures) in
    record {
      covers = past_more c.args.kind.now (pointed c.args.self) (pointed c.loop-pointer.pointer) (pointed c.first-pointer.result) (c.in-Some.next.at, c.in-Some.next.kind.now) c.loop-pointer.invariant.covers e (sym c.is_kind_before.ensures ∙ c.if-not-is_kind_before.false);
      ascends = ascends_more c.args.limit (pointed c.args.self) (pointed c.loop-pointer.pointer) (pointed c.first-pointer.result) (c.in-Some.next.at, c.in-Some.next.kind.now) c.loop-pointer.invariant.ascends e c.if-next-limit.false;
    }

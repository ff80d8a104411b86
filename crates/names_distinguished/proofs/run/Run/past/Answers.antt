use Rattle.std.proofs.Common.{List, ◌∷◌, length, refl, sym, ap, ◌∙◌, arith}
use Rattle.names_distinguished.specs.DistinguishedName.{ComparedAttribute}
use Rattle.names_distinguished.specs.NameView.{entry_of}
use Rattle.names_distinguished.specs.Agreement.{entries_in, rising, run_left}
use Rattle.names_distinguished.proofs.Agreement.{searches_back, found_past_more, stops_first, stops_none}
use Rattle.names_distinguished.proofs.RunParts.{run_left_next, run_left_none}
use Rattle.names_distinguished.proofs.run.Run.past.Goals as goal

pub loop-rest-init : goal.loop-rest-init
loop-rest-init c = searches_back c.args.kind.now (run_left c.args.self) (run_left c.args.self) refl

pub returns-then-not-is_kind_before : goal.returns-then-not-is_kind_before
returns-then-not-is_kind_before c = record {
  searches = c.loop-rest.invariant;
  stops = stops_first c.args.kind.now (run_left c.loop-rest.rest) (rising c.in-Some.next.kind.now (entries_in c.loop-rest.rest.others)) (entry_of c.in-Some.next)
      (run_left_next c.loop-rest.rest c.in-Some.next c.in-Some.is) (sym c.is_kind_before.ensures ∙ c.if-not-is_kind_before.true);
}

pub returns : goal.returns
returns c = record {
  searches = c.loop-rest.invariant;
  stops = stops_none c.args.kind.now (run_left c.loop-rest.rest) (run_left_none c.loop-rest.rest c.in_default.is);
}

pub loop-rest-smaller : goal.loop-rest-smaller
loop-rest-smaller c =
    let e = run_left_next c.loop-rest.rest c.in-Some.next c.in-Some.is in
    let f = c.behind-rest.ensures in
    omega (arith, ap length e, ap length f)

pub loop-rest-preserved : goal.loop-rest-preserved
loop-rest-preserved c =
    found_past_more c.args.kind.now (run_left c.args.self) (run_left c.loop-rest.rest) (run_left c.behind-rest.result) (entry_of c.in-Some.next) c.loop-rest.invariant
    (run_left_next c.loop-rest.rest c.in-Some.next c.in-Some.is ∙ ap (λ (es : List ComparedAttribute). entry_of c.in-Some.next ∷ es) (sym c.behind-rest.ensures))
    (sym c.is_kind_before.ensures ∙ c.if-not-is_kind_before.false)

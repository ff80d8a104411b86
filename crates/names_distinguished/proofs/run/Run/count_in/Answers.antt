use Rattle.std.proofs.Common.{[], refl, ◌∙◌, arith}
use Rattle.names_distinguished.specs.NameView.{entry_of, entries_of}
use Rattle.names_distinguished.specs.Agreement.{run_left}
use Rattle.names_distinguished.proofs.Agreement.{searches_back, searches_past, fits_left, fits_right, count_left, count_begins, count_more, count_fails, count_short, counted}
use Rattle.names_distinguished.proofs.RunParts.{entries_short}
use Rattle.names_distinguished.proofs.run.Run.count_in.Goals as goal

pub overflow_add-count : goal.overflow_add-count
overflow_add-count c =
    let run = run_left c.args.self.now in
    let kind = c.in-Some.attribute.kind.now in
    let e = entry_of c.in-Some.attribute in
    let searches = searches_past kind run (run_left c.going_on.result) (run_left c.past-left.result) c.going_on.ensures c.past-left.ensures.searches in
    let found = c.in-Some-finds.ensures.number ∙ count_left kind run (run_left c.past-left.result) e searches refl in
    let short = count_short run (entries_of c.args.set.now) (entries_of c.loop-attribute.rest) (entries_of c.in-Some.after) e c.loop-attribute.count c.in-Some-finds.found c.loop-attribute.invariant.counts c.in-Some.ensures found in
    let fits = entries_short c.args.set.now in
    omega arith

pub returns-in-None : goal.returns-in-None
returns-in-None c =
    let run = run_left c.args.self.now in
    let kind = c.in-Some.attribute.kind.now in
    let e = entry_of c.in-Some.attribute in
    let searches = searches_past kind run (run_left c.going_on.result) (run_left c.past-left.result) c.going_on.ensures c.past-left.ensures.searches in
    count_fails run (entries_of c.args.set.now) (entries_of c.loop-attribute.rest) (entries_of c.in-Some.after) e c.loop-attribute.count c.loop-attribute.invariant.counts c.in-Some.ensures
    (λ fits. c.in-None.ensures (fits_right kind run (run_left c.past-left.result) e searches refl fits))

pub loop-attribute-init : goal.loop-attribute-init
loop-attribute-init c = record {
  searches = searches_back [] (run_left c.args.self.now) (run_left c.args.self.now) refl;
  counts = count_begins (run_left c.args.self.now) (entries_of c.args.set.now);
}

pub loop-attribute-preserved : goal.loop-attribute-preserved
loop-attribute-preserved c =
    let run = run_left c.args.self.now in
    let kind = c.in-Some.attribute.kind.now in
    let e = entry_of c.in-Some.attribute in
    let searches = searches_past kind run (run_left c.going_on.result) (run_left c.past-left.result) c.going_on.ensures c.past-left.ensures.searches in
    record {
      searches = searches;
      counts = count_more run (entries_of c.args.set.now) (entries_of c.loop-attribute.rest) (entries_of c.in-Some.after) e c.loop-attribute.count c.in-Some-finds.found c.loop-attribute.invariant.counts c.in-Some.ensures
          (fits_left kind run (run_left c.past-left.result) e searches refl c.in-Some-finds.ensures.fits.0)
          (c.in-Some-finds.ensures.number ∙ count_left kind run (run_left c.past-left.result) e searches refl);
    }

pub returns : goal.returns
returns c = counted (run_left c.args.self.now) (entries_of c.args.set.now) (entries_of c.loop-attribute.rest) c.loop-attribute.count c.loop-attribute.invariant.counts c.in_default.ensures

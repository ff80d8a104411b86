use Rattle.std.proofs.Common.{◌∙◌, sym}
use Rattle.names_distinguished.specs.Agreement.{run_left}
use Rattle.names_distinguished.specs.BatchView.{batched}
use Rattle.names_distinguished.specs.Repetition.{kinds_of}
use Rattle.names_distinguished.proofs.Agreement.{searches_past}
use Rattle.names_distinguished.proofs.Batches.{passed_more, not_found}
use Rattle.names_distinguished.proofs.repetition.is_apart.Goals as goal

pub loop-one-preserved : goal.loop-one-preserved
loop-one-preserved c =
    let kind = c.in-Some.one.kind.now in
    let searches = searches_past kind (run_left c.run-run.result) (run_left c.going_on.result) (run_left c.past-left.result) c.going_on.ensures c.past-left.ensures.searches in
    record {
      searches = searches;
      passed = passed_more c.args.start (batched c.args.batch.now) (kinds_of c.args.all) (kinds_of c.loop-one.earlier) (kinds_of c.next.new.self) (c.in-Some.one.at, kind) c.loop-one.invariant.passed c.in-Some.ensures
          (not_found kind (batched c.args.batch.now) (run_left c.run-run.result) (run_left c.past-left.result) c.of_kind.result c.of_kind.ensures (sym c.is_some.ensures ∙ c.if-is_some.false) searches c.run-run.ensures);
    }

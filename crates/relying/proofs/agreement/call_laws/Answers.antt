use Rattle.relying.proofs.Calling.{calls_follow, comparisons_come_through, deliveries_are_runs, restarts_are_runs, runs_come_through, runs_follow, takings_are_runs, verdicts_come_through}
use Rattle.relying.proofs.agreement.call_laws.Goals as goal

pub returns : goal.returns
returns g c = record {
  deliveries = deliveries_are_runs;
  takings = takings_are_runs;
  restarts = restarts_are_runs;
  runs = runs_come_through;
  verdicts = verdicts_come_through;
  comparisons = comparisons_come_through;
  calls_follow = calls_follow;
  runs_follow = runs_follow;
}

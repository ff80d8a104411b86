use Rattle.relying.proofs.Happening.{runs_are_runs}
use Rattle.relying.proofs.running.run_laws.Goals as goal

pub returns : goal.returns
returns c = runs_are_runs

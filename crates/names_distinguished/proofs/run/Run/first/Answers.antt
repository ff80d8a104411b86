use Rattle.std.proofs.Common.{sym, ap}
use Rattle.names_distinguished.specs.Agreement.{run_of, run_left}
use Rattle.names_distinguished.proofs.run.Run.first.Goals as goal

pub returns-in-Some : goal.returns-in-Some
unfolding run_left
returns-in-Some c = ap run_of (sym c.in-Some.ensures)

pub returns-in-None : goal.returns-in-None
unfolding run_left
returns-in-None c = ap run_of (sym c.in-None.ensures)

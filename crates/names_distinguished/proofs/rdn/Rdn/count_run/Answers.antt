use Rattle.names_distinguished.specs.NameView.{entries_of}
use Rattle.names_distinguished.specs.Agreement.{entries_in, run_left}
use Rattle.names_distinguished.proofs.Fronts.{run_counted, run_differs}
use Rattle.names_distinguished.proofs.rdn.Rdn.count_run.Goals as goal

pub returns-in-Some : goal.returns-in-Some
unfolding entries_in
returns-in-Some c =
    run_counted (entries_of c.args.self.now) (entries_of c.args.other.now) (entries_of c.behind_run-behind.result) (run_left c.first.result) c.in-Some.count c.requires c.behind_run-behind.ensures c.first.ensures c.in-Some.ensures

pub returns-in-None : goal.returns-in-None
unfolding entries_in
returns-in-None c =
    run_differs (entries_of c.args.self.now) (entries_of c.args.other.now) (entries_of c.behind_run-behind.result) (run_left c.first.result) c.behind_run-behind.ensures c.first.ensures c.in-None.ensures

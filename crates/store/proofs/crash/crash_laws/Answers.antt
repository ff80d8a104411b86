use Rattle.store.proofs.Crashed.{holds_what_files_held, shows_what_crash_left, survives_crash, trees_are_adopted, trees_are_store}
use Rattle.store.proofs.crash.crash_laws.Goals as goal

pub returns-clause-trees : goal.returns-clause-trees
returns-clause-trees g c = trees_are_store

pub returns-clause-adopted : goal.returns-clause-adopted
returns-clause-adopted g c = trees_are_adopted

pub returns-clause-files : goal.returns-clause-files
returns-clause-files g c = holds_what_files_held

pub returns-clause-shown : goal.returns-clause-shown
returns-clause-shown g c = shows_what_crash_left

pub returns-clause-survives : goal.returns-clause-survives
returns-clause-survives g c = survives_crash

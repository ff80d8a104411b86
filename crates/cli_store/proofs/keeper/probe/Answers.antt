use Rattle.std.proofs.Common.{◌∙◌, ap, not, sym}
use Rattle.sqlite.specs.declared.error.Error.TheVariants.{SqliteFailure}
use Rattle.sqlite.specs.declared.error.ErrorCode.TheVariants.{Closed}
use Rattle.sqlite.specs.Files.{file_state}
use Rattle.cli_store.proofs.Storing.{probed, same_error, shut}
use Rattle.cli_store.proofs.keeper.probe.Goals.{in-Ok, in-Err}
use Rattle.cli_store.proofs.keeper.probe.Goals as goal

pub returns-clause-stays : goal.returns-clause-stays
returns-clause-stays g c =
    probed (file_state c.args.store.now.conn) (file_state c.prepare.new.self) _ _ c.prepare.result (c.is_autocommit-before.ensures.settled (c.is_autocommit-before.ensures.value ∙ ap not c.args.store.now.idle)) c.prepare.ensures.ok c.prepare.ensures.err

pub returns-clause-shut : goal.returns-clause-shut
returns-clause-shut g c = λ clean is. elim c.match-prepare.branch [
  | in-Ok w ↦ absurd cc
  | in-Err w ↦ shut (file_state c.args.store.now.conn) (file_state c.prepare.new.self) _ w.in-Err.error (same_error w.in-Err.error (SqliteFailure Closed) (sym w.result-is ∙ is))
      (c.is_autocommit-before.ensures.settled (c.is_autocommit-before.ensures.value ∙ ap not c.args.store.now.idle)) w.in-Err.ensures.err clean
]

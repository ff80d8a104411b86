use Rattle.sqlite.specs.Files.{file_state}
use Rattle.cli_store.proofs.Storing.{kept_same}
use Rattle.cli_store.proofs.keeper.StoreKeeperKeeper.may_answer.Goals as goal

pub returns-clause-keeps : goal.returns-clause-keeps
returns-clause-keeps g c =
    kept_same (file_state c.args.self.now.store.conn) (file_state c.is_open.new.store.conn) c.is_open.ensures.stays c.is_open.ensures.survives

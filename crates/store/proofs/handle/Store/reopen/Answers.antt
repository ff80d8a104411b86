use Rattle.std.proofs.Common.{arith, ◌∙◌}
use Rattle.sqlite.specs.Files.{file_state}
use Rattle.sqlite.specs.State.{HasCleanDisk}
use Rattle.store.proofs.Reopened.{restarts, still_holds}
use Rattle.store.proofs.handle.Store.reopen.Goals as goal

pub returns-in-Ok-adopt-clause-restarts : goal.returns-in-Ok-adopt-clause-restarts
returns-in-Ok-adopt-clause-restarts g c clean =
    restarts c.args.self.conn c.in-Ok-open_again.conn c.adopt.new.conn c.in-Ok.files c.in-Ok.ensures.copied c.in-Ok.ensures.reopens c.in-Ok-open_again.ensures.found
    c.in-Ok-open_again.ensures.opened c.adopt.ensures.survives _ clean (c.in-Ok-adopt.ensures.adopts clean)

pub returns-in-Err-adopt-clause-fails : goal.returns-in-Err-adopt-clause-fails
returns-in-Err-adopt-clause-fails g c =
    still_holds c.args.self.conn c.in-Ok-open_again.conn c.adopt.new.conn c.in-Ok.files c.in-Ok.ensures.copied c.in-Ok.ensures.reopens c.in-Ok-open_again.ensures.found
    c.in-Ok-open_again.ensures.opened c.adopt.ensures.survives c.in-Err-adopt.fault c.adopt.ensures.settled.0 c.adopt.ensures.settled.1 c.in-Err-adopt.ensures.adopts

pub returns-in-Err-adopt-clause-cause : goal.returns-in-Err-adopt-clause-cause
returns-in-Err-adopt-clause-cause g c clean =
    let before : HasCleanDisk (file_state c.in-Ok-open_again.conn) = let step = c.adopt.ensures.survives.clean in omega (arith, step, clean) in
    record {
      files = c.in-Ok.files;
      again = c.in-Ok-open_again.conn;
      copied = c.in-Ok.ensures.copied;
      found = c.in-Ok-open_again.ensures.found before;
      opened = c.in-Ok-open_again.ensures.opened before;
      unlimited = c.in-Ok-open_again.ensures.fresh.unlimited;
      caused = c.in-Err-adopt.ensures.caused clean;
    }

pub returns-in-Ok-adopt-clause-store : goal.returns-in-Ok-adopt-clause-store
returns-in-Ok-adopt-clause-store g c clean = let it = (c.in-Ok-adopt.ensures.adopts clean).1 in (it.0, it.1)

pub returns-in-Ok-adopt-clause-unlimited : goal.returns-in-Ok-adopt-clause-unlimited
returns-in-Ok-adopt-clause-unlimited g c = c.adopt.ensures.survives.limit ∙ c.in-Ok-open_again.ensures.fresh.unlimited

pub returns-in-Ok-adopt-clause-settled : goal.returns-in-Ok-adopt-clause-settled
returns-in-Ok-adopt-clause-settled g c = c.adopt.ensures.settled.1

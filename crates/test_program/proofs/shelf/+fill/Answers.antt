use Rattle.sqlite.specs.Files.{file_state}
use Rattle.test_program.proofs.Filling.{fails_later, filled_more}
use Rattle.test_program.proofs.shelf.+fill.Goals as goal

pub returns-in_ok-add-in-Some-clause-filled : goal.returns-in_ok-add-in-Some-clause-filled
returns-in_ok-add-in-Some-clause-filled t c =
    filled_more c.fill.result c.args.rows.now c.in-Some.others.now c.in-Some.first.now (file_state c.args.store.now.conn).now (file_state c.add.new.store.conn).now (file_state c.fill.new.store.conn).now
    c.in-Some.ensures.cases.0 c.in_ok-add-in-Some.ensures.added c.fill.ensures.filled

pub returns-in_ok-add-in-Some-clause-fails : goal.returns-in_ok-add-in-Some-clause-fails
returns-in_ok-add-in-Some-clause-fails t c =
    fails_later c.fill.result c.in-Some.first.now (file_state c.args.store.now.conn).now (file_state c.add.new.store.conn).now c.in_ok-add-in-Some.ensures.added c.fill.ensures.fails

use Rattle.std.proofs.Common.{arith}
use Rattle.relying_texts.proofs.StatementsRead.{all_read, no_room, pushed, read_more, refused_here}
use Rattle.relying_texts.proofs.reading.read_statements_under.Goals as goal

pub returns-in-Err-clause-refused : goal.returns-in-Err-clause-refused
returns-in-Err-clause-refused c =
    refused_here c.args.profile c.args.texts.now c.loop-index.index _ c.loop-index.statements.items c.in-Err.fault c.loop-index-test.true c.in-Err.ensures c.loop-index.invariant

pub returns-then-is_err-clause-refused : goal.returns-then-is_err-clause-refused
returns-then-is_err-clause-refused c =
    no_room c.args.profile c.args.texts.now c.loop-index.index c.loop-index.statements.items c.loop-index-test.true c.loop-index.invariant

pub returns-clause-reads : goal.returns-clause-reads
returns-clause-reads c =
    all_read c.args.profile c.args.texts.now c.loop-index.index c.loop-index.statements.items (omega (arith, c.loop-index-test.false)) c.loop-index.invariant

pub loop-index-preserved : goal.loop-index-preserved
loop-index-preserved c =
    read_more c.args.profile c.args.texts.now c.loop-index.index _ c.loop-index.statements.items c.push.new.self.items c.in-Ok.statement c.loop-index-test.true c.in-Ok.ensures
    (pushed _ _ _ _ c.if-is_err.ensures.negation c.push.ensures.items) c.loop-index.invariant

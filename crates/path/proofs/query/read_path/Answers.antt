use Rattle.path.proofs.Readings.{one_more, refused_at, no_room, pushed}
use Rattle.path.proofs.query.read_path.Goals as goal

pub returns-in-Err-clause-refused : goal.returns-in-Err-clause-refused
returns-in-Err-clause-refused c =
    refused_at c.args.profile c.args.path.now c.loop-index.index _ c.loop-index.certificates.items c.in-Err.fault c.loop-index-test.true c.in-Err.ensures c.loop-index.invariant

pub returns-then-is_err-clause-refused : goal.returns-then-is_err-clause-refused
returns-then-is_err-clause-refused c =
    no_room c.args.profile c.args.path.now c.loop-index.index c.loop-index.certificates.items c.loop-index-test.true c.loop-index.invariant

pub loop-index-preserved : goal.loop-index-preserved
loop-index-preserved c =
    one_more c.args.profile c.args.path.now c.loop-index.index _ c.loop-index.certificates.items c.push.new.self.items c.in-Ok.certificate c.loop-index-test.true c.in-Ok.ensures
    (pushed _ _ _ _ c.if-is_err.ensures.negation c.push.ensures.items) c.loop-index.invariant

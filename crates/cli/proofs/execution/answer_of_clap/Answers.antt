use Rattle.std.proofs.Common.{◌≡◌, OnOk, rules}
use Rattle.std.specs.Io.KnownBytes.{Appends}
use Rattle.clap.specs.Words.{kind_of}
use Rattle.cli.specs.Outcome.{IsHelp}
use Rattle.cli.proofs.Explaining.{full, late}
use Rattle.cli.proofs.execution.answer_of_clap.Goals as goal

pub returns-in-Err-clause-failed : goal.returns-in-Err-clause-failed
returns-in-Err-clause-failed g c = λ failing.
    let help : IsHelp (kind_of c.args.error.now) = search rules in
    late (kind_of c.args.error.now) c.finish-in-Err.result.status (c.write_text.new.writer ≡ c.args.out.now)
    (λ line. OnOk c.finish-in-Err.result.told (Appends (g.E.Write.contents c.args.err.now) (g.E.Write.contents c.finish-in-Err.new.err) line)) help c.finish-in-Err.ensures.failed

pub returns-in-OutOfMemory-clause-failed : goal.returns-in-OutOfMemory-clause-failed
returns-in-OutOfMemory-clause-failed g c = λ failing.
    full (kind_of c.args.error.now) c.finish-in-OutOfMemory.result.status (c.args.out.now ≡ c.args.out.now)
    (λ line. OnOk c.finish-in-OutOfMemory.result.told (Appends (g.E.Write.contents c.args.err.now) (g.E.Write.contents c.finish-in-OutOfMemory.new.err) line)) c.finish-in-OutOfMemory.ensures.failed

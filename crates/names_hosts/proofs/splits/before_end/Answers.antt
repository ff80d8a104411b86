use Rattle.names_hosts.proofs.LastSplits.{ended}
use Rattle.names_hosts.proofs.splits.before_end.Goals as goal

pub returns-in-Some : goal.returns-in-Some
returns-in-Some c =
    rw c.then_some.ensures (ended c.args.close c.in-Some.last.now c.args.text.now c.in-Some.front c.in-Some.ensures.cases.0)

use Rattle.std.proofs.Common.{rules}
use Rattle.std.proofs.lemmas.List.{take_rest}
use Rattle.names_hosts.proofs.LastSplits.{split_at, split_nowhere}
use Rattle.names_hosts.proofs.splits.last_split.Goals as goal

pub returns-in-Some : goal.returns-in-Some
returns-in-Some c =
    let found = split_at c.args.mark c.args.text.now c.in-Some.at (search rules) (search rules) (search rules) in
    rw (found, take_rest)

pub returns-in-None : goal.returns-in-None
returns-in-None c =
    let none = split_nowhere c.args.mark c.args.text.now (search rules) in
    rw none

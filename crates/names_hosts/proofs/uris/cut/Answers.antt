use Rattle.std.proofs.Common.{length, sym, arith}
use Rattle.std.proofs.lemmas.List.{take_all, drop_all}
use Rattle.names_hosts.proofs.UriTexts.{cut_at, cut_whole}
use Rattle.names_hosts.proofs.uris.cut.Goals as goal

pub returns-in-Some : goal.returns-in-Some
returns-in-Some c =
    let ends = c.args.ends.now in
    let text = c.args.text.now in
    let at = c.in-Some.at in
    rw (c.split_at.ensures.front, c.split_at.ensures.back) (cut_at ends text at (sym c.in-Some.ensures))

pub returns-in-None : goal.returns-in-None
returns-in-None c =
    let ends = c.args.ends.now in
    let text = c.args.text.now in
    rw (c.split_at-in-None.ensures.front, c.split_at-in-None.ensures.back, take_all (length text) text (omega arith), drop_all (length text) text (omega arith))
    (cut_whole ends text (sym c.in-None.ensures))

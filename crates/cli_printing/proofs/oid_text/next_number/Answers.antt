use Rattle.std.proofs.Common.{◌<◌, length, rules, arith}
use Rattle.cli_printing.proofs.Oids.{numbers_split, rest_is_shorter, size_fits}
use Rattle.cli_printing.proofs.oid_text.next_number.Goals as goal

pub split_at-requires : goal.split_at-requires
split_at-requires c = omega (arith, size_fits c.args.contents.now.now, c.number_len.ensures)

pub returns-clause-splits : goal.returns-clause-splits
returns-clause-splits c =
    let some : 0 < length c.args.contents.now.now = search rules in
    rw (c.split_at.ensures.front, c.split_at.ensures.back, c.number_len.ensures) (numbers_split c.args.contents.now.now some)

pub returns-clause-shorter : goal.returns-clause-shorter
returns-clause-shorter c =
    let some : 0 < length c.args.contents.now.now = search rules in
    rest_is_shorter c.args.contents.now.now c.split_at.result.1.now some (rw (← c.number_len.ensures) c.split_at.ensures.back)

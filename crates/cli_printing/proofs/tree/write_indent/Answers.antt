use Rattle.std.proofs.Common.{◌≡◌, ◌/◌, arith}
use Rattle.std.proofs.lemmas.Result.{on_ok_weaker}
use Rattle.cli_printing.proofs.Appending.{appends_both}
use Rattle.cli_printing.proofs.Pieces.{spaces_more, spaces_all}
use Rattle.cli_printing.proofs.tree.write_indent.Goals as goal

pub loop-preserved : goal.loop-preserved
loop-preserved g c =
    appends_both _ _ _ _ _ _ c.loop.invariant c.in_ok-write_all.ensures.bytes (spaces_more c.loop.counter)

pub returns : goal.returns
returns g c =
    let turns : c.loop.counter ≡ c.args.level / 32 = omega arith in
    on_ok_weaker c.write_all-2.result
    (λ said. appends_both _ _ _ _ _ _ c.loop.invariant said (spaces_all c.args.level c.loop.counter turns))
    c.write_all-2.ensures.bytes

use Rattle.std.proofs.Common.{refl}
use Rattle.std.proofs.lemmas.Result.{on_ok_weaker}
use Rattle.cli_failures.specs.Report.{refusal_line}
use Rattle.cli_printing.proofs.Laws.{appends_both}
use Rattle.cli_failures.proofs.Pieces.{refusal_pieces}
use Rattle.cli_failures.proofs.failure.write_refusal.Goals as goal

pub returns : goal.returns
returns g c =
    on_ok_weaker c.write_all.result
    (λ said. appends_both _ _ _ _ _ (refusal_line c.args.file.now c.args.number c.args.name.now c.args.place) c.in_ok-write.ensures.bytes
    (appends_both _ _ _ _ _ _ c.in_ok-write_place.ensures said refl)
    (refusal_pieces c.args.file.now c.args.number c.args.name.now c.args.place))
    c.write_all.ensures.bytes

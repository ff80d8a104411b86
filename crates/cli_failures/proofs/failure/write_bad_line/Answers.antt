use Rattle.std.proofs.Common.{refl}
use Rattle.std.proofs.lemmas.Result.{on_ok_weaker}
use Rattle.cli_failures.specs.Report.{bad_line}
use Rattle.cli_printing.proofs.Laws.{appends_both}
use Rattle.cli_failures.proofs.failure.write_bad_line.Goals as goal

pub returns : goal.returns
returns g c =
    on_ok_weaker c.write_line_number.result
    (λ said. appends_both _ _ _ _ _ (bad_line c.args.file.now c.args.line) c.in_ok-write.ensures.bytes said refl)
    c.write_line_number.ensures

use Rattle.std.proofs.Common.{refl}
use Rattle.std.proofs.lemmas.Result.{on_ok_weaker}
use Rattle.cli_failures.specs.Report.{report_line}
use Rattle.cli_printing.proofs.Laws.{appends_both}
use Rattle.cli_failures.proofs.failure.Failure.report.Goals as goal

pub returns : goal.returns
returns g c =
    on_ok_weaker c.tell.result
    (λ said. appends_both _ _ _ _ _ (report_line c.args.self.now) c.in_ok-write_text.ensures said refl)
    c.tell.ensures

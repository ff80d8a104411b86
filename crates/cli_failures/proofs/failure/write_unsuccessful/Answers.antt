use Rattle.std.proofs.Common.{refl}
use Rattle.std.proofs.lemmas.Result.{on_ok_weaker}
use Rattle.cli_failures.specs.Report.{unsuccessful_line}
use Rattle.cli_printing.proofs.Laws.{appends_both}
use Rattle.cli_failures.proofs.failure.write_unsuccessful.Goals as goal

pub returns : goal.returns
returns g c =
    on_ok_weaker c.write_unsuccessful_words.result
    (λ said. appends_both _ _ _ _ _ (unsuccessful_line c.args.file.now c.args.code) c.in_ok-write.ensures.bytes said refl)
    c.write_unsuccessful_words.ensures

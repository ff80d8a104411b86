use Rattle.std.proofs.Common.{refl}
use Rattle.std.proofs.lemmas.Result.{on_ok_weaker}
use Rattle.cli_printing.specs.Printed.{line, shown_contents}
use Rattle.cli_printing.proofs.Appending.{appends_both}
use Rattle.cli_printing.proofs.Pieces.{line_pieces}
use Rattle.cli_printing.proofs.tree.write_line.Goals as goal

pub returns : goal.returns
returns g c =
    on_ok_weaker c.write_all.result
    (λ said. appends_both _ _ _ _ _ (line c.args.level c.args.identifier c.args.size (shown_contents c.args.shown.now)) c.in_ok-write_indent.ensures
    (appends_both _ _ _ _ _ _ c.in_ok-write_digits.ensures
    (appends_both _ _ _ _ _ _ c.in_ok-write.ensures.bytes
    (appends_both _ _ _ _ _ _ c.in_ok-write_contents.ensures said refl) refl) refl) (line_pieces c.args.level c.args.identifier c.args.size (shown_contents c.args.shown.now)))
    c.write_all.ensures.bytes

use Rattle.std.proofs.Common.{◌++◌, refl}
use Rattle.statements_ocsp.specs.Single.{seen_single_response}
use Rattle.cli_printing.specs.ResponseText.{single_line}
use Rattle.cli_printing.proofs.Appending.{appends_both}
use Rattle.cli_printing.proofs.Joining.{joined_more}
use Rattle.cli_printing.proofs.response.write_singles.Goals as goal

pub loop-single-preserved : goal.loop-single-preserved
loop-single-preserved g c =
    let was = c.loop-single.invariant in
    let single = seen_single_response c.in-Some.single in
    record {
      text = was.text ++ single_line single;
      whole = joined_more single_line _ was.text single _ _ c.in-Some.ensures was.whole;
      written = appends_both _ _ _ _ _ _ was.written c.in_ok-write_single.ensures refl;
    }

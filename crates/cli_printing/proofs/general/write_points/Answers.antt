use Rattle.std.proofs.Common.{◌++◌, ap, refl}
use Rattle.asn.specs.Members.{Members, octets_of_each}
use Rattle.cli_printing.specs.GeneralText.{point_line}
use Rattle.cli_printing.proofs.Appending.{appends_both}
use Rattle.cli_printing.proofs.Joining.{joined_more}
use Rattle.cli_printing.proofs.general.write_points.Goals as goal

pub loop-name-preserved : goal.loop-name-preserved
loop-name-preserved g c =
    let was = c.loop-name.invariant in
    let octets = c.in-Some.name.whole.now in
    let step = ap (λ (m : Members). octets_of_each m.values) c.in-Some.ensures.step in
    record {
      text = was.text ++ point_line octets;
      whole = joined_more point_line _ was.text octets _ _ step was.whole;
      written = appends_both _ _ _ _ _ _ was.written c.in_ok-write_point.ensures refl;
    }

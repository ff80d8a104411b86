use Rattle.std.proofs.Common.{length}
use Rattle.asn.specs.Members.{left}
use Rattle.cli_details.proofs.response.write_singles.Given as goal

abbrev pub decreases-loop-single : goal.decreases-loop-single
decreases-loop-single l = length (left l.singles).values

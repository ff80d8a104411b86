use Rattle.std.proofs.Common.{◌≡◌, length}
use Rattle.cli_listing.specs.NumberText.{shortest}
use Rattle.cli_listing.proofs.number.shortest.Given as goal

abbrev pub invariant-loop-rest : goal.invariant-loop-rest
invariant-loop-rest l = shortest l.rest ≡ shortest l.octets

abbrev pub decreases-loop-rest : goal.decreases-loop-rest
decreases-loop-rest l = length l.rest

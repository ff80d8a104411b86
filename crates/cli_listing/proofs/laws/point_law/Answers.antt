use Rattle.cli_listing.proofs.Points.{points_are_found}
use Rattle.cli_listing.proofs.laws.point_law.Goals as goal

pub returns : goal.returns
returns c = points_are_found

use Rattle.std.proofs.Common.{◌≡◌}
use Rattle.cli_listing.specs.PointText.{behind_each, behind_set}
use Rattle.cli_listing.proofs.point.point_in.Given as goal

abbrev pub invariant-loop-left : goal.invariant-loop-left
invariant-loop-left l = behind_each behind_set l.left l.rest ≡ behind_each behind_set l.initial.left l.initial.rest

abbrev pub decreases-loop-left : goal.decreases-loop-left
decreases-loop-left l = l.left

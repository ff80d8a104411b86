use Rattle.std.proofs.Common.{◌≡◌}
use Rattle.cli_listing.specs.PointText.{behind_each, behind_attribute}
use Rattle.cli_listing.proofs.point.behind_set.Given as goal

abbrev pub invariant-loop-left : goal.invariant-loop-left
invariant-loop-left l = behind_each behind_attribute l.left l.rest ≡ behind_each behind_attribute l.initial.left l.initial.rest

abbrev pub decreases-loop-left : goal.decreases-loop-left
decreases-loop-left l = l.left

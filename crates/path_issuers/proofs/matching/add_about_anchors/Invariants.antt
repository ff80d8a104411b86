use Rattle.std.proofs.Common.{◌≡◌, ◌++◌}
use Rattle.path_issuers.specs.Asking.{about_anchors, joined_below}
use Rattle.path_issuers.proofs.matching.add_about_anchors.Given as goal

abbrev pub invariant-loop-below : goal.invariant-loop-below
invariant-loop-below l = l.questions.items ≡ l.initial.questions.items ++ joined_below (about_anchors l.naming) l.below

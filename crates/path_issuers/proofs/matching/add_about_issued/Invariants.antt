use Rattle.std.proofs.Common.{◌≡◌, ◌++◌}
use Rattle.path_issuers.specs.Asking.{about_issued, joined_below}
use Rattle.path_issuers.proofs.matching.add_about_issued.Given as goal

abbrev pub invariant-loop-place : goal.invariant-loop-place
invariant-loop-place l = l.questions.items ≡ l.initial.questions.items ++ joined_below (about_issued l.naming) l.place

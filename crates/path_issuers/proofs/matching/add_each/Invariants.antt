use Rattle.std.proofs.Common.{◌≡◌, ◌++◌, map, take}
use Rattle.path_issuers.specs.Asking.{question_about}
use Rattle.path_issuers.proofs.matching.add_each.Given as goal

abbrev pub invariant-loop-place : goal.invariant-loop-place
invariant-loop-place l = l.questions.items ≡ l.initial.questions.items ++ map (question_about l.sought) (take l.place-index l.places)

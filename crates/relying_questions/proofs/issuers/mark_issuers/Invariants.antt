use Rattle.std.proofs.Common.{take}
use Rattle.path_issuers.specs.View.{seen_search}
use Rattle.relying_questions.specs.Issuers.{AreMarks}
use Rattle.relying_questions.proofs.issuers.mark_issuers.Given as goal

abbrev pub invariant-loop-pair : goal.invariant-loop-pair
invariant-loop-pair l = AreMarks (seen_search l.search) (take l.pair-index l.pairs) l.marks.items

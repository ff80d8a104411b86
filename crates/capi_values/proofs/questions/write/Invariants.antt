use Rattle.std.proofs.Common.{map}
use Rattle.capi_values.specs.Questions.{question_of}
use Rattle.capi_values.proofs.Asking.{AreFirst}
use Rattle.capi_values.proofs.questions.write.Given as goal

abbrev pub invariant-loop-index : goal.invariant-loop-index
invariant-loop-index l = AreFirst l.index (map question_of l.asked) l.fn.questions l.questions

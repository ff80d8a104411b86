use Rattle.std.proofs.Common.{arith}
use Rattle.relying_questions.proofs.Encodings.{is_some}
use Rattle.relying_questions.proofs.part.TextPart.whole.Goals as goal

pub returns-clause-stands : goal.returns-clause-stands
returns-clause-stands c = λ texts is. record { is_part = is; is_there = omega (arith, is_some c.args.value) }

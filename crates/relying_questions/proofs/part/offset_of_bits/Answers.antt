use Rattle.std.proofs.Common.{arith}
use Rattle.relying_questions.proofs.Encodings.{is_some}
use Rattle.relying_questions.proofs.part.offset_of_bits.Goals as goal

pub returns-in-empty-clause-behind : goal.returns-in-empty-clause-behind
returns-in-empty-clause-behind c = omega (arith, is_some c.args.value, c.body_at.ensures.end, c.in-empty.len_below)

use Rattle.std.proofs.Common.{arith, subst, sym}
use Rattle.asn.specs.Part.{IsPartOf}
use Rattle.relying_questions.proofs.part.TextPart.bits.Goals as goal

pub returns-clause-stands : goal.returns-clause-stands
returns-clause-stands c = λ texts is. record {
  is_part = subst (λ at. IsPartOf (texts c.args.source) at c.octets.result.now) (sym c.offset_of_bits.ensures.place) (subst (IsPartOf (texts c.args.source) _) (sym c.octets.ensures) is);
  is_there = omega (arith, c.offset_of_bits.ensures.behind);
}

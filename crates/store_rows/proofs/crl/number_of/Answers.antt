use Rattle.std.proofs.Common.{arith, sym, ap, ◌∙◌, length}
use Rattle.asn.specs.Integer.{binary_value}
use Rattle.asn.specs.NumberLaws.{number_octets}
use Rattle.store_rows.proofs.Numbers.{length_octets, octets_of_value}
use Rattle.store_rows.proofs.crl.number_of.Goals as goal

pub returns-in-Ok-clause-some : goal.returns-in-Ok-clause-some
returns-in-Ok-clause-some c = (
  octets_of_value c.args.octets.now c.in-Ok.ensures.1.long (λ k. omega (arith, c.type_inv.octets k))
      ∙ ap (number_octets 20) (ap binary_value (sym c.in-Ok.ensures.1.same) ∙ sym c.from_octets.ensures.value),
  c.from_octets.ensures.bound,
)

pub returns-in-Err-clause-none : goal.returns-in-Err-clause-none
returns-in-Err-clause-none c number same = c.in-Err.ensures.1 (ap length same ∙ length_octets 20 number)

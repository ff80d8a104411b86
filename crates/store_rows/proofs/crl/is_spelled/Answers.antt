use Rattle.std.proofs.Common.{arith}
use Rattle.store_rows.proofs.Numbers.{octets_of_value}
use Rattle.store_rows.proofs.crl.is_spelled.Goals as goal

pub returns : goal.returns
returns c = octets_of_value c.args.octets.now c.requires (λ k. omega (arith, c.type_inv.octets k))

use Rattle.std.proofs.Common.{sym, arith}
use Rattle.asn.specs.NumberLaws.{number_octets-twenty}
use Rattle.cli_listing.proofs.number.is_spelled.Goals as goal

pub returns : goal.returns
returns c = sym (number_octets-twenty c.args.octets.now (record { count = c.requires; each = λ k. omega (arith, c.type_inv.octets k) }))

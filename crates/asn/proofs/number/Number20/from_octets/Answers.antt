use Rattle.std.proofs.Common.{rules}
use Rattle.asn.specs.NumberLaws.{AreTwentyOctets}
use Rattle.asn.proofs.IntegerLemmas.{binary_value_of_twenty}
use Rattle.asn.proofs.number.Number20.from_octets.Goals as goal

pub returns-clause-bound : goal.returns-clause-bound
returns-clause-bound c =
    let are : AreTwentyOctets c.args.octets = search rules in
    binary_value_of_twenty c.args.octets are

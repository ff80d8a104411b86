use Rattle.std.proofs.Common.{◌≡◌, ◌++◌, take}
use Rattle.std.specs.List.{flat_map}
use Rattle.cli_operands.specs.Purpose.{subidentifier_octets}
use Rattle.cli_operands.proofs.purpose.octets_of.Given as goal

abbrev pub invariant-loop-number : goal.invariant-loop-number
invariant-loop-number l =
    l.contents.items ≡ subidentifier_octets l.first ++ flat_map subidentifier_octets (take l.number-index l.others)

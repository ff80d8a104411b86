use Rattle.std.proofs.Common.{◌≡◌, length, map, take}
use Rattle.der_stream.specs.Sequence.{joined}
use Rattle.cli_operands.proofs.policy_query.front_len.Given as goal

abbrev pub invariant-loop-value : goal.invariant-loop-value
invariant-loop-value l = l.len ≡ length (joined (map (λ value. value.items) (take l.value-index l.front)))

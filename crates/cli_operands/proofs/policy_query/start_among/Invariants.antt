use Rattle.std.proofs.Common.{◌≡◌, ◌+◌, take}
use Rattle.cli_operands.specs.FilePlaces.{values_in}
use Rattle.cli_operands.proofs.policy_query.start_among.Given as goal

abbrev pub invariant-loop-it : goal.invariant-loop-it
invariant-loop-it l = l.index ≡ values_in (take l.it-index l.files) + l.left

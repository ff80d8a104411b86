use Rattle.std.proofs.Common.{◌≡◌, length}
use Rattle.cli_requests.specs.Operands.{name_in}
use Rattle.cli_requests.proofs.Names.{behind}
use Rattle.cli_requests.proofs.operand.name_in.Given as goal

abbrev pub invariant-loop-octet : goal.invariant-loop-octet
invariant-loop-octet l = behind l.name.items (name_in l.rest) ≡ name_in l.word

abbrev pub decreases-loop-octet : goal.decreases-loop-octet
decreases-loop-octet l = length l.rest

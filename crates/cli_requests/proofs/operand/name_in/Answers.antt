use Rattle.std.proofs.Common.{rules}
use Rattle.cli_requests.proofs.Names.{all_read}
use Rattle.cli_requests.proofs.operand.name_in.Goals as goal

pub returns-then-is_empty : goal.returns-then-is_empty
returns-then-is_empty c = all_read c.loop-octet.name.items c.loop-octet.rest.now _ (search rules) c.loop-octet.invariant

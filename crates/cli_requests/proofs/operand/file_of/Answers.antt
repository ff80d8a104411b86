use Rattle.std.proofs.Common.{arith, rules, sym}
use Rattle.cli_requests.proofs.Names.{name_is_text, no_name}
use Rattle.cli_requests.proofs.operand.file_of.Goals as goal

pub returns-then-is_empty : goal.returns-then-is_empty
returns-then-is_empty c = sym (no_name c.args.octets.now (search rules))

pub returns : goal.returns
returns c = rw (name_is_text c.args.octets.now (search (rules, arith))) c.text_of.ensures

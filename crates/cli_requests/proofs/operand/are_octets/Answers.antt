use Rattle.std.proofs.Common.{sym, rules, arith}
use Rattle.cli_requests.proofs.Digits.{even, odd}
use Rattle.cli_requests.proofs.operand.are_octets.Goals as goal

pub returns-then-digits-eq0 : goal.returns-then-digits-eq0
returns-then-digits-eq0 c = sym (even c.args.digits.now c.are_digits.result (search (rules, arith)) (sym c.are_digits.ensures))

pub returns-else-digits-eq0 : goal.returns-else-digits-eq0
returns-else-digits-eq0 c = odd c.args.digits.now c.if-digits-eq0.false

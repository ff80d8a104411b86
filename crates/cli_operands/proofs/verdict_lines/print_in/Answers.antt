use Rattle.std.proofs.Common.{sym}
use Rattle.cli_operands.proofs.Lines.{too_short}
use Rattle.cli_operands.proofs.verdict_lines.print_in.Goals as goal

pub returns-then-line-lt-DIGITS : goal.returns-then-line-lt-DIGITS
returns-then-line-lt-DIGITS c = sym (too_short c.args.line.now c.if-line-lt-DIGITS.true)

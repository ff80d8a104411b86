use Rattle.std.proofs.Common.{◌∙◌, ℕ, Option, drop, inr, ap, rules, arith}
use Rattle.cli_requests.specs.Operands.{with_octet, name_in}
use Rattle.cli_requests.proofs.Names.{escape_read, other_none, plain_read, short_none}
use Rattle.cli_requests.proofs.operand.first_octet.Goals as goal

pub returns-then-is_plain-clause-reads : goal.returns-then-is_plain-clause-reads
returns-then-is_plain-clause-reads c = rw c.split_at.ensures.back (plain_read c.args.word.now (search (rules, arith)) (search rules))

pub returns-then-word-lt-ESCAPE_LEN-clause-none : goal.returns-then-word-lt-ESCAPE_LEN-clause-none
returns-then-word-lt-ESCAPE_LEN-clause-none c = inr (short_none c.args.word.now (search (rules, arith)) (search rules) (search rules))

pub returns-then-word-ne-ESCAPE-clause-none : goal.returns-then-word-ne-ESCAPE-clause-none
returns-then-word-ne-ESCAPE-clause-none c = inr (other_none c.args.word.now (search (rules, arith)) (search rules) (search rules))

pub returns-in_err-octet-clause-none : goal.returns-in_err-octet-clause-none
returns-in_err-octet-clause-none c =
    let read = escape_read c.args.word.now c.escaped.result (search (rules, arith)) (search rules) (search rules) in
    rw c.from_residual.ensures (inr (read ∙ ap (λ (octet : Option ℕ). with_octet octet (name_in (drop 3 c.args.word.now))) c.in_err-octet.was))

pub returns-clause-reads : goal.returns-clause-reads
returns-clause-reads c =
    let read = escape_read c.args.word.now c.escaped.result (search (rules, arith)) (search rules) (search rules) in
    rw c.split_at-2.ensures.back (read ∙ ap (λ (octet : Option ℕ). with_octet octet (name_in (drop 3 c.args.word.now))) c.in_ok-octet.was)

use Rattle.std.proofs.Common.{◌≡◌, rules, sym, subst, ◌∙◌, arith}
use Rattle.cli_operands.specs.Purpose.{IsPlain}
use Rattle.cli_operands.proofs.Decimals.{decimal_is_plain, parsed_again, parsed_is}
use Rattle.cli_operands.proofs.purpose.arc_of.Goals as goal

pub returns-then-not-is_plain-clause-none : goal.returns-then-not-is_plain-clause-none
returns-then-not-is_plain-clause-none c = λ arc served is.
    let plain = subst IsPlain (sym (c.as_bytes.ensures.value ∙ is)) (decimal_is_plain arc served) in
    let found = c.is_plain.ensures.1 plain in
    search (rules, found, c.if-not-is_plain.true)

pub returns-in_default-clause-none : goal.returns-in_default-clause-none
returns-in_default-clause-none c = λ arc served is.
    c.in_default.not-Ok arc (parsed_again c.args.text.now c.parse.result arc c.parse.ensures.value.0 served is)

pub returns-then-arc-lt-LIMIT-clause-arc : goal.returns-then-arc-lt-LIMIT-clause-arc
returns-then-arc-lt-LIMIT-clause-arc c =
    let plain = subst IsPlain c.as_bytes.ensures.value (c.if-not-is_plain.ensures.0 (search rules)) in
    (c.if-arc-lt-LIMIT.true, parsed_is c.args.text.now c.parse.result c.in-Ok.arc plain c.parse.ensures.value.0 c.in-Ok.is)

pub returns-else-arc-lt-LIMIT-clause-none : goal.returns-else-arc-lt-LIMIT-clause-none
returns-else-arc-lt-LIMIT-clause-none c = λ arc served is.
    let read = parsed_again c.args.text.now c.parse.result arc c.parse.ensures.value.0 served is in
    let same : c.in-Ok.arc ≡ arc = cc in
    omega (arith, c.if-arc-lt-LIMIT.false, served, same)

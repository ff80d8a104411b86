use Rattle.std.proofs.Common.{rules, refl, ◌+◌, ◌%◌}
use Rattle.cli_operands.proofs.Subidentifiers.{leading_pushed}
use Rattle.cli_operands.proofs.purpose.+push_leading.Goals as goal

pub returns : goal.returns
returns t c =
    leading_pushed c.args.number _ c.push_leading.new.contents.items _ (128 + c.args.number % 128) (search rules) refl c.in_ok-push_leading.ensures c.in_ok-push.ensures.items

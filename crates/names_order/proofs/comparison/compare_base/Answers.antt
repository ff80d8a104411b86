use Rattle.std.proofs.Common.{sym, true, false}
use Rattle.names_order.specs.Order.{backwards}
use Rattle.names_order.proofs.TextKeys.{some_greater, bases_compare}
use Rattle.names_order.proofs.comparison.compare_base.Goals as goal

pub returns-in-Every : goal.returns-in-Every
returns-in-Every c = rw c.in-Every.is (sym (some_greater (backwards c.args.one.now) c.args.below))

pub returns-in-Within : goal.returns-in-Within
returns-in-Within c = rw (c.in-Within.is, c.then.ensures, c.compare_texts.ensures, c.cmp.ensures) (bases_compare c.args.one.now c.in-Within.other.now c.args.below false)

pub returns-in-Below : goal.returns-in-Below
returns-in-Below c = rw (c.in-Below.is, c.then-in-Below.ensures, c.compare_texts-in-Below.ensures, c.cmp-in-Below.ensures) (bases_compare c.args.one.now c.in-Below.other.now c.args.below true)

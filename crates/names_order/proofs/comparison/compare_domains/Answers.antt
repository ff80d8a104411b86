use Rattle.names_order.proofs.TextKeys.{every_first}
use Rattle.names_order.proofs.comparison.compare_domains.Goals as goal

pub returns-in_default : goal.returns-in_default
returns-in_default c = rw c.in-Every.is (every_first c.args.right.now c.in_default.not-Every)

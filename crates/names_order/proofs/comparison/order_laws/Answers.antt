use Rattle.names_order.proofs.BaseKeys.{inside_begins}
use Rattle.names_order.proofs.comparison.order_laws.Goals as goal

pub returns : goal.returns
returns c = record { inside = inside_begins }

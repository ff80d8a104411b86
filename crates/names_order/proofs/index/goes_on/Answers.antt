use Rattle.std.proofs.Common.{◌∙◌}
use Rattle.names_order.proofs.Directories.{begins_is}
use Rattle.names_order.proofs.index.goes_on.Goals as goal

pub returns : goal.returns
returns c = c.starts_with.ensures.value ∙ begins_is c.args.octets.now c.args.front.now

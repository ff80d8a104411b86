use Rattle.std.proofs.Common.{arith}
use Rattle.names_order.proofs.Directories.{keys_of_list}
use Rattle.names_order.proofs.index.select_keys.Goals as goal

pub returns-then-bases-le-SHORT : goal.returns-then-bases-le-SHORT
returns-then-bases-le-SHORT c = λ many. absurd (omega arith)

pub returns : goal.returns
returns c = λ many. keys_of_list c.args.bases.now c.in_ok-keys.keys.items c.keep_outermost.new.keys.items c.in_ok-keys.ensures c.in_ok-keep_outermost.ensures

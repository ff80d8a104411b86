use Rattle.names_order.proofs.Members.{gathered}
use Rattle.names_order.proofs.index.subtrees_of.Goals as goal

pub loop-index-preserved : goal.loop-index-preserved
loop-index-preserved c =
    gathered c.args.indexes.now c.loop-index.index-index c.index-item.result c.loop-index-test.true c.index-item.is
    c.loop-index.list.items c.subtrees.result.now c.extend_from_slice.new.self.items c.loop-index.invariant c.subtrees.ensures c.in_ok-extend_from_slice.ensures.items

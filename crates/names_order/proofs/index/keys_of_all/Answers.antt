use Rattle.std.proofs.Common.{◌+◌, ap, arith, take}
use Rattle.std.proofs.lemmas.List.{take_all}
use Rattle.names_order.specs.Index.{all_of}
use Rattle.names_order.proofs.Members.{all_upto}
use Rattle.names_order.proofs.Directories.{two_decide, decide_same}
use Rattle.names_order.proofs.index.keys_of_all.Goals as goal

pub loop-index-preserved : goal.loop-index-preserved
loop-index-preserved c =
    let indexes = c.args.indexes.now in
    let i = c.loop-index.index-index in
    two_decide c.loop-index.keys.items c.in_ok-more.more.items c.append.new.self.items (all_of (take i indexes)) c.index-item.result (all_of (take (i + 1) indexes))
    c.in_ok-append.ensures.items (all_upto indexes i c.index-item.result c.loop-index-test.true c.index-item.is) c.loop-index.invariant c.in_ok-more.ensures

pub returns : goal.returns
returns c =
    let indexes = c.args.indexes.now in
    let i = c.loop-index.index-index in
    decide_same c.loop-index.keys.items (all_of (take i indexes)) (all_of indexes) (ap all_of (take_all i indexes (omega (arith, c.loop-index-test.false)))) c.loop-index.invariant

use Rattle.names_order.proofs.Indexed.{indexed}
use Rattle.names_order.proofs.Members.{permuted}
use Rattle.names_order.proofs.index.Index.long.Goals as goal

pub invariant_of-result : goal.invariant_of-result
invariant_of-result c = λ many.
    indexed c.args.list.items c.sort.new.list.items c.in_ok-tops.tops.items c.args.rest.items c.args.keys.items c.longest_prefix-longest.result
    c.sort.ensures.same c.in_ok-sort.ensures.sorted (rw c.deref.ensures.value at c.in_ok-tops.ensures) c.requires.rest c.requires.keys
    (rw c.deref-2.ensures.value at c.longest_prefix-longest.ensures)

pub returns : goal.returns
returns c = permuted c.args.list.items c.sort.new.list.items c.sort.ensures.same

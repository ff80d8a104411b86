use Rattle.std.proofs.Common.{arith, ap, length}
use Rattle.std.proofs.lemmas.List.{length-append}
use Rattle.der_tree.proofs.TreeValues.{primitive_shown, built_more, nothing_left}
use Rattle.der_tree.proofs.tree.+build.Goals as goal

pub tree_of-returns-in_ok-from_slice-in-None : goal.tree_of-returns-in_ok-from_slice-in-None
tree_of-returns-in_ok-from_slice-in-None t c = λ depth value shows.
    primitive_shown depth value c.args.tlv c.in_ok-from_slice-in-None.field-0 shows (c.in-None.ensures.shows depth value shows) c.in_ok-from_slice-in-None.ensures.items

pub trees_of-loop-tlv-preserved : goal.trees_of-loop-tlv-preserved
trees_of-loop-tlv-preserved t c =
    let s = c.in-Some.ensures.splits in
    record {
      smaller = omega (arith, c.loop-tlv.invariant.smaller, ap length s.octets, length-append c.in-Some.tlv.whole.now c.next.new.self.octets.now);
      built = λ depth values are.
          let b = c.loop-tlv.invariant.built depth values are in
          rw (c.in_ok-push.ensures.items) (built_more depth values b.0 c.loop-tlv.trees.items c.in_ok-tree_of.field-0 c.in-Some.tlv c.next.new.self b.2 (c.in-Some.ensures.shows depth b.0 b.1) c.in_ok-tree_of.ensures);
    }

pub trees_of-returns : goal.trees_of-returns
trees_of-returns t c = λ depth values are.
    let b = c.loop-tlv.invariant.built depth values are in
    nothing_left depth values b.0 c.loop-tlv.trees.items c.next.new.self b.2 (c.in_default.ensures.shows depth b.0 b.1)

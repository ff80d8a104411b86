use Rattle.std.proofs.Common.{◌∙◌, ◌<◌, sym, ap, List, arith, length}
use Rattle.names.specs.GeneralView.{subtree_base}
use Rattle.names.specs.GeneralLayout.{SubtreeBase}
use Rattle.names.specs.GeneralCoverage.{is_base_inside}
use Rattle.names.specs.declared.subtree.Subtree.{Subtree}
use Rattle.names_order.specs.Index.{lies_in_one, is_in_one}
use Rattle.names_order.proofs.Members.{any_map}
use Rattle.names_order.proofs.index.Index.holds.Goals as goal

pub returns-then-len-le-SHORT : goal.returns-then-len-le-SHORT
returns-then-len-le-SHORT c =
    let base = subtree_base c.args.base.now in
    c.is_in_one.ensures
    ∙ (ap (λ (l : List Subtree). is_in_one l base) c.deref.ensures.value
    ∙ (sym (any_map (λ other. is_base_inside base other) c.self.inside.all.items)
    ∙ ap (λ (l : List SubtreeBase). lies_in_one l base) c.self.view_is))

pub returns-then-has_order : goal.returns-then-has_order
returns-then-has_order c =
    let base = subtree_base c.args.base.now in
    let many : 12 < length c.self.inside.all.items = omega arith in
    c.is_in_top.ensures
    ∙ (rw c.deref-then-has_order.ensures.value ((c.self.invariant many).in_tops base (sym c.has_order.ensures ∙ c.if-has_order.true))
    ∙ (sym (any_map (λ other. is_base_inside base other) c.self.inside.all.items)
    ∙ ap (λ (l : List SubtreeBase). lies_in_one l base) c.self.view_is))

pub returns-else-has_order : goal.returns-else-has_order
returns-else-has_order c =
    let base = subtree_base c.args.base.now in
    let many : 12 < length c.self.inside.all.items = omega arith in
    c.is_in_rest.ensures
    ∙ (rw c.deref-else-has_order.ensures.value ((c.self.invariant many).in_rest base (sym c.has_order.ensures ∙ c.if-has_order.false))
    ∙ (sym (any_map (λ other. is_base_inside base other) c.self.inside.all.items)
    ∙ ap (λ (l : List SubtreeBase). lies_in_one l base) c.self.view_is))

pub is_in_top-requires-clause-sorted : goal.is_in_top-requires-clause-sorted
is_in_top-requires-clause-sorted c =
    let many : 12 < length c.self.inside.all.items = omega arith in
    rw c.deref-then-has_order.ensures.value (c.self.invariant many).sorted

pub is_in_top-requires-clause-apart : goal.is_in_top-requires-clause-apart
is_in_top-requires-clause-apart c =
    let many : 12 < length c.self.inside.all.items = omega arith in
    rw c.deref-then-has_order.ensures.value (c.self.invariant many).apart

pub is_in_rest-requires : goal.is_in_rest-requires
is_in_rest-requires c =
    let many : 12 < length c.self.inside.all.items = omega arith in
    rw (c.deref-else-has_order.ensures.value, c.deref-else-has_order-2.ensures.value) (c.self.invariant many).in_keys

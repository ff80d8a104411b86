use Rattle.std.proofs.Common.{◌≡◌, ◌∙◌, ap, sym, ◌++◌, List, Some, length, arith}
use Rattle.names.specs.GeneralLayout.{SubtreeBase}
use Rattle.names.specs.declared.subtree.Subtree.{Subtree}
use Rattle.path_conditions.specs.Narrowing.{bases_of, kept}
use Rattle.path_conditions.proofs.Members.{kept_is, kept_indexed, order_made, of_items, narrowed_is, all_stay}
use Rattle.path_conditions.proofs.narrowing.narrow.Goals as goal

pub joined-requires : goal.joined-requires
joined-requires c =
    let carried = bases_of c.args.carried.now in
    let index = c.in_ok-carried_index.carried_index in
    let front = kept_is c.items.result.now c.in_ok-kept.kept.items index c.args.held.now carried c.items.ensures c.in_ok-carried_index.ensures c.in_ok-kept.ensures in
    let made = order_made c.in_ok-kept_index.kept_index c.index.result.now index c.subtrees-in_order.result.now c.in_ok-kept_in_order.kept_in_order.items c.subtrees-in_order.ensures c.in_ok-kept_in_order.ensures c.in_ok-kept_index.ensures in
    of_items c.in_ok-kept_index.kept_index (kept c.args.held.now carried) c.in_ok-kept.kept.items front
    (kept_indexed c.in_ok-kept_index.kept_index c.index.result.now c.args.held.now index carried made c.index.ensures c.in_ok-carried_index.ensures)

pub returns-then-len-in_order : goal.returns-then-len-in_order
returns-then-len-in_order c =
    let as_many : length c.in_ok-kept_in_order.kept_in_order.items ≡ length c.subtrees-in_order.result.now = omega arith in
    ap (λ (l : List SubtreeBase). Some l)
    (sym (all_stay c.args.form c.index.result.now c.in_ok-carried_index.carried_index c.args.held.now (bases_of c.args.carried.now) c.subtrees-in_order.result.now
    c.in_ok-kept_in_order.kept_in_order.items c.subtrees-in_order.ensures c.in_ok-kept_in_order.ensures as_many c.index.ensures c.in_ok-carried_index.ensures))

pub returns : goal.returns
returns c =
    let carried = bases_of c.args.carried.now in
    let index = c.in_ok-carried_index.carried_index in
    let front = kept_is c.items.result.now c.in_ok-kept.kept.items index c.args.held.now carried c.items.ensures c.in_ok-carried_index.ensures c.in_ok-kept.ensures in
    let made = order_made c.in_ok-kept_index.kept_index c.index.result.now index c.subtrees-in_order.result.now c.in_ok-kept_in_order.kept_in_order.items c.subtrees-in_order.ensures c.in_ok-kept_in_order.ensures c.in_ok-kept_index.ensures in
    ap (λ (l : List SubtreeBase). Some l)
    (c.in_ok-list.ensures
    ∙ (ap (λ (l : List Subtree). bases_of c.in_ok-kept.kept.items ++ bases_of l) c.deref.ensures.value
    ∙ narrowed_is c.args.form c.in_ok-kept.kept.items c.in_ok-entering.entering.items c.args.carried.now c.args.held.now c.index-2.result.now c.in_ok-kept_index.kept_index c.index-2.ensures
    (kept_indexed c.in_ok-kept_index.kept_index c.index.result.now c.args.held.now index carried made c.index.ensures c.in_ok-carried_index.ensures) front c.in_ok-entering.ensures))

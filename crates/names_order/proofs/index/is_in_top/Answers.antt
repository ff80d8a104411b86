use Rattle.std.proofs.Common.{arith, rules, tests, ◌∙◌, sym}
use Rattle.std.proofs.lemmas.List.Sorted.{IsPartitionPoint-from_clause}
use Rattle.names.specs.GeneralView.{subtree_base}
use Rattle.names_order.proofs.Halving.{upto_first, is_upto, none_at_all, last_decides}
use Rattle.names_order.proofs.index.is_in_top.Goals as goal

pub returns-then-place-eq0 : goal.returns-then-place-eq0
returns-then-place-eq0 c =
    let base = c.args.base.now in
    let tops = c.args.tops.now in
    let point = IsPartitionPoint-from_clause (is_upto (subtree_base base)) tops c.partition_point-place.result c.partition_point-place.ensures.partitioned (upto_first base tops c.requires.sorted) (λ a r q k. search (rules, tests)) in
    none_at_all (subtree_base base) tops c.requires.ordered c.requires.sorted c.requires.apart c.partition_point-place.result c.partition_point-place.ensures.bound point c.if-place-eq0.true

pub returns : goal.returns
returns c =
    let base = c.args.base.now in
    let tops = c.args.tops.now in
    let point = IsPartitionPoint-from_clause (is_upto (subtree_base base)) tops c.partition_point-place.result c.partition_point-place.ensures.partitioned (upto_first base tops c.requires.sorted) (λ a r q k. search (rules, tests)) in
    c.is_inside.ensures
    ∙ last_decides (subtree_base base) tops c.requires.ordered c.requires.sorted c.requires.apart c.partition_point-place.result c.partition_point-place.ensures.bound point
    c.index-tops-place.result (omega (arith, c.if-place-eq0.false)) (sym c.index-tops-place.is)

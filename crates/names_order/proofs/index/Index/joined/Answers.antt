use Rattle.std.proofs.Common.{◌++◌, ◌∙◌, ap, ap₂, map, List}
use Rattle.std.specs.List.{list_any}
use Rattle.std.proofs.lemmas.List.{map-append}
use Rattle.std.proofs.lemmas.Result.{IfOk-weaker}
use Rattle.names.specs.GeneralLayout.{SubtreeBase}
use Rattle.names.specs.GeneralView.{subtree_base}
use Rattle.names_order.specs.Index.{all_of}
use Rattle.names_order.proofs.Indexed.{unordered_of}
use Rattle.names_order.proofs.index.Index.joined.Goals as goal

pub joined_keys-requires : goal.joined_keys-requires
joined_keys-requires c =
    let both =
    ap (map subtree_base) c.in_ok-extend_from_slice.ensures.items
    ∙ (map-append subtree_base c.in_ok-list.list.items c.subtrees.result.now ∙ ap₂ ◌++◌ c.in_ok-list.ensures c.subtrees.ensures) in
    rw c.deref-2.ensures.value
    (unordered_of c.extend_from_slice.new.self.items c.in_ok-rest.rest.items (all_of c.args.indexes.now ++ c.args.more) (rw c.deref.ensures.value at c.in_ok-rest.ensures) both)

pub returns : goal.returns
returns c =
    let both =
    ap (map subtree_base) c.in_ok-extend_from_slice.ensures.items
    ∙ (map-append subtree_base c.in_ok-list.list.items c.subtrees.result.now ∙ ap₂ ◌++◌ c.in_ok-list.ensures c.subtrees.ensures) in
    IfOk-weaker c.long.result _ _ (λ index same test. same test ∙ ap (λ (l : List SubtreeBase). list_any test l) both) c.long.ensures

use Rattle.std.proofs.Common.{◌≡◌, ◌++◌, ◌∙◌, ◌||◌, ap, sym, map, append-nil, List, rules}
use Rattle.std.specs.List.{list_any}
use Rattle.std.proofs.lemmas.List.Folds.{list_any-append}
use Rattle.std.proofs.lemmas.Result.{IfOk-weaker}
use Rattle.names.specs.GeneralLayout.{SubtreeBase}
use Rattle.names.specs.GeneralView.{subtree_base}
use Rattle.names.specs.declared.subtree.Subtree.{Subtree}
use Rattle.names_order.specs.Index.{all_of}
use Rattle.names_order.proofs.index.Index.with.Goals as goal

pub returns : goal.returns
returns c =
    let these = c.args.self.now in
    let other = c.in_ok-other.other in
    let copied : c.extend_from_slice.new.self.items ≡ c.args.more.now = search rules in
    IfOk-weaker c.joined.result _ _
    (λ index same test.
    same test
    ∙ (ap (λ (l : List (List SubtreeBase)). list_any test (all_of l ++ other)) c.from_ref.ensures.value
    ∙ (ap (λ (l : List SubtreeBase). list_any test (l ++ other)) (append-nil these)
    ∙ (list_any-append test these other
    ∙ (ap (λ b. list_any test these || b) (c.in_ok-other.ensures test ∙ ap (λ (l : List Subtree). list_any test (map subtree_base l)) copied)
    ∙ sym (list_any-append test these (map subtree_base c.args.more.now)))))))
    c.joined.ensures

use Rattle.std.proofs.Common.{ap, sym, ◌∙◌, List}
use Rattle.std.specs.List.{list_any}
use Rattle.std.proofs.lemmas.List.{map-append}
use Rattle.names.specs.GeneralLayout.{SubtreeBase}
use Rattle.names.specs.GeneralView.{subtree_base}
use Rattle.path_conditions.specs.Narrowing.{bases_of}
use Rattle.path_conditions.proofs.Members.{same_append}
use Rattle.path_conditions.proofs.subtree_list.SubtreeList.joined.Goals as goal

pub invariant_of-result : goal.invariant_of-result
invariant_of-result c = λ test.
    c.in_ok-index.ensures test
    ∙ (same_append c.args.front_index.now (bases_of c.args.front.items) (bases_of c.args.back.now) c.requires test
    ∙ ap (λ (l : List SubtreeBase). list_any test l) (sym (ap bases_of c.in_ok-extend_from_slice.ensures.items ∙ map-append subtree_base c.args.front.items c.args.back.now)))

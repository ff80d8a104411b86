use Rattle.std.proofs.Common.{◌∙◌, sym, ap, List}
use Rattle.names.specs.GeneralView.{general_name}
use Rattle.names.specs.GeneralLayout.{SubtreeBase}
use Rattle.names.specs.GeneralCoverage.{is_covered}
use Rattle.names.specs.declared.subtree.Subtree.{Subtree}
use Rattle.names_order.specs.Index.{one_covers, holds_name}
use Rattle.names_order.proofs.Members.{any_map}
use Rattle.names_order.proofs.index.Index.covers.Goals as goal

pub returns-then-len-le-SHORT : goal.returns-then-len-le-SHORT
returns-then-len-le-SHORT c =
    let name = general_name c.args.name.now in
    c.one_covers.ensures
    ∙ (ap (λ (l : List Subtree). one_covers l name) c.deref.ensures.value
    ∙ (sym (any_map (λ b. is_covered name b) c.self.inside.all.items)
    ∙ ap (λ (l : List SubtreeBase). holds_name l name) c.self.view_is))

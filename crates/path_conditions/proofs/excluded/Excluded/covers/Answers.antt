use Rattle.std.proofs.Common.{sym, ap, ◌∙◌, List, rules, tests}
use Rattle.std.proofs.lemmas.Iterator.{YieldsList-from_slice}
use Rattle.std.proofs.lemmas.Iterator.Search.{any_from_yields_List}
use Rattle.names.specs.GeneralView.{general_name}
use Rattle.names.specs.GeneralLayout.{SubtreeBase}
use Rattle.names.specs.GeneralCoverage.{is_covered}
use Rattle.path_conditions.specs.Narrowing.{is_in_one_of}
use Rattle.path_conditions.proofs.Members.{any_members}
use Rattle.path_conditions.proofs.excluded.Excluded.covers.Goals as goal

pub returns : goal.returns
returns c =
    let name = general_name c.args.name.now in
    any_from_yields_List (λ list. is_in_one_of list name) _ _ _ c.any.ensures.ran (YieldsList-from_slice c.self.inside.indexes.items cc) (λ x b q k. search (rules, tests))
    ∙ (sym (any_members (λ base. is_covered name base) c.self.inside.indexes.items)
    ∙ (c.self.invariant name ∙ ap (λ (l : List SubtreeBase). is_in_one_of l name) c.self.view_is))

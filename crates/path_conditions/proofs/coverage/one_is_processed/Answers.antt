use Rattle.std.proofs.Common.{sym, ◌∙◌, rules, tests}
use Rattle.std.proofs.lemmas.Iterator.{YieldsList-from_slice}
use Rattle.std.proofs.lemmas.Iterator.Search.{any_from_yields_List}
use Rattle.names.specs.GeneralView.{subtree_base}
use Rattle.path_conditions.specs.Narrowing.{is_processed_base}
use Rattle.path_conditions.proofs.Selecting.{list_any-map}
use Rattle.path_conditions.proofs.coverage.one_is_processed.Goals as goal

pub returns : goal.returns
returns c =
    any_from_yields_List (λ s. is_processed_base (subtree_base s)) _ _ _ c.any.ensures.ran (YieldsList-from_slice c.args.bases.now cc) (λ x b q k. search (rules, tests))
    ∙ sym (list_any-map (λ s. is_processed_base s) subtree_base c.args.bases.now)

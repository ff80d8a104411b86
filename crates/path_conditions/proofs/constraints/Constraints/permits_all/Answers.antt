use Rattle.std.proofs.Common.{sym, ◌∙◌, rules, tests}
use Rattle.std.proofs.lemmas.Iterator.{YieldsList-from_slice}
use Rattle.std.proofs.lemmas.Iterator.Search.{all_from_yields_List}
use Rattle.std.proofs.lemmas.List.Folds.{list_all-map}
use Rattle.names.specs.GeneralView.{general_name}
use Rattle.path_conditions.specs.Constraints.{seen_constraints, permits_name}
use Rattle.path_conditions.proofs.constraints.Constraints.permits_all.Goals as goal

pub returns : goal.returns
returns c =
    all_from_yields_List (λ name. permits_name (seen_constraints c.args.self.now) (general_name name)) _ _ _ c.all.ensures.ran (YieldsList-from_slice c.args.names.now cc) (λ x b q k. search (rules, tests))
    ∙ sym (list_all-map (λ name. permits_name (seen_constraints c.args.self.now) name) general_name c.args.names.now)

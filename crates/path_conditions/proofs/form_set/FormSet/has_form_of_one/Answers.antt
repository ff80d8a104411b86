use Rattle.std.proofs.Common.{sym, ◌∙◌, rules, tests}
use Rattle.std.proofs.lemmas.Iterator.{YieldsList-from_slice}
use Rattle.std.proofs.lemmas.Iterator.Search.{any_from_yields_List}
use Rattle.names.specs.GeneralView.{general_name}
use Rattle.path_conditions.specs.Constraints.{has_form_of}
use Rattle.path_conditions.proofs.Selecting.{list_any-map}
use Rattle.path_conditions.proofs.form_set.FormSet.has_form_of_one.Goals as goal

pub returns : goal.returns
returns c =
    any_from_yields_List (λ name. has_form_of c.args.self.now (general_name name)) _ _ _ c.any.ensures.ran (YieldsList-from_slice c.args.names.now cc) (λ x b q k. search (rules, tests))
    ∙ sym (list_any-map (λ name. has_form_of c.args.self.now name) general_name c.args.names.now)

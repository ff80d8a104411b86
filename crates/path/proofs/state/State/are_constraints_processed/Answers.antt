use Rattle.path.proofs.Deciding.{met, unmet}
use Rattle.path.proofs.state.State.are_constraints_processed.Goals as goal

pub returns-then-is_no_other_form_constrained : goal.returns-then-is_no_other_form_constrained
returns-then-is_no_other_form_constrained g c =
    met c.is_no_other_form_constrained.result c.is_no_other_form_constrained.ensures c.if-is_no_other_form_constrained.true

pub returns-else-is_no_other_form_constrained : goal.returns-else-is_no_other_form_constrained
returns-else-is_no_other_form_constrained g c =
    unmet c.is_no_other_form_constrained.result c.are_names_checked.result c.is_no_other_form_constrained.ensures
    c.if-is_no_other_form_constrained.false c.are_names_checked.ensures

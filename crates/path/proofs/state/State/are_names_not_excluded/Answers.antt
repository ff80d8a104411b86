use Rattle.path.proofs.Deciding.{met, unmet, not_excluded_at}
use Rattle.path.proofs.state.State.are_names_not_excluded.Goals as goal

pub returns-then-excludes_no_name_of : goal.returns-then-excludes_no_name_of
returns-then-excludes_no_name_of g c =
    met c.excludes_no_name_of.result
    (not_excluded_at c.self.view_is _ _ _ _ c.self.invariant _ c.certificate.ensures c.excludes_no_name_of.result c.excludes_no_name_of.ensures)
    c.if-excludes_no_name_of.true

pub returns-else-excludes_no_name_of : goal.returns-else-excludes_no_name_of
returns-else-excludes_no_name_of g c =
    unmet c.excludes_no_name_of.result c.are_names_checked.result
    (not_excluded_at c.self.view_is _ _ _ _ c.self.invariant _ c.certificate.ensures c.excludes_no_name_of.result c.excludes_no_name_of.ensures)
    c.if-excludes_no_name_of.false c.are_names_checked.ensures

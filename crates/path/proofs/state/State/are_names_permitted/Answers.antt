use Rattle.path.proofs.Deciding.{met, unmet, permitted_at}
use Rattle.path.proofs.state.State.are_names_permitted.Goals as goal

pub returns-then-permits_names_of : goal.returns-then-permits_names_of
returns-then-permits_names_of g c =
    met c.permits_names_of.result
    (permitted_at c.self.view_is _ _ _ _ c.self.invariant _ c.certificate.ensures c.permits_names_of.result c.permits_names_of.ensures)
    c.if-permits_names_of.true

pub returns-else-permits_names_of : goal.returns-else-permits_names_of
returns-else-permits_names_of g c =
    unmet c.permits_names_of.result c.are_names_checked.result
    (permitted_at c.self.view_is _ _ _ _ c.self.invariant _ c.certificate.ensures c.permits_names_of.result c.permits_names_of.ensures)
    c.if-permits_names_of.false c.are_names_checked.ensures

use Rattle.std.proofs.Common.{sym, ◌∙◌}
use Rattle.std.proofs.lemmas.Bool.{false≢true}
use Rattle.path_conditions.proofs.constraints.Constraints.permits_names_of.Goals as goal

pub returns-then-permits_carried : goal.returns-then-permits_carried
returns-then-permits_carried c = (
  λ t. record { names = sym c.permits_carried.ensures ∙ c.if-permits_carried.true; hosts = c.permits.ensures.0 t },
  λ each. c.permits.ensures.1 each.hosts,
)

pub returns-else-permits_carried : goal.returns-else-permits_carried
returns-else-permits_carried c = (
  λ t. absurd (false≢true (sym c.if-permits_carried.false ∙ t)),
  λ each. absurd (false≢true (sym c.if-permits_carried.false ∙ (c.permits_carried.ensures ∙ each.names))),
)

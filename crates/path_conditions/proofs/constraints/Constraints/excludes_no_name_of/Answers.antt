use Rattle.std.proofs.Common.{sym, ◌∙◌}
use Rattle.std.proofs.lemmas.Bool.{false≢true, not_from_true}
use Rattle.path_conditions.proofs.constraints.Constraints.excludes_no_name_of.Goals as goal

pub returns-else-not-excludes_carried : goal.returns-else-not-excludes_carried
returns-else-not-excludes_carried c = (
  λ t. absurd (false≢true (sym (not_from_true _ c.if-not-excludes_carried.false) ∙ t)),
  λ none. absurd (false≢true (sym none.names ∙ (sym c.excludes_carried.ensures ∙ c.if-not-excludes_carried.false))),
)

pub returns-then-not-excludes_carried : goal.returns-then-not-excludes_carried
returns-then-not-excludes_carried c = (
  λ t. record { names = sym c.excludes_carried.ensures ∙ c.if-not-excludes_carried.true; hosts = c.excludes_none.ensures.0 t },
  λ none. c.excludes_none.ensures.1 none.hosts,
)

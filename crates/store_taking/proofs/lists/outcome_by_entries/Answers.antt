use Rattle.std.proofs.Common.{sym, true≢false, ◌∙◌}
use Rattle.store_taking.proofs.Chains.{found_as}
use Rattle.store_taking.proofs.lists.outcome_by_entries.Goals as goal

pub returns-then-branch-clause-finds : goal.returns-then-branch-clause-finds
returns-then-branch-clause-finds g c clean =
    found_as _ _ _ c.in_ok-has_entries.field-0 _ _ (c.in_ok-has_entries.ensures.finds clean) (λ it form is. is.0 c.if-branch.true)

pub returns-else-branch-clause-finds : goal.returns-else-branch-clause-finds
returns-else-branch-clause-finds g c clean =
    found_as _ _ _ c.in_ok-has_entries.field-0 _ _ (c.in_ok-has_entries.ensures.finds clean) (λ it form is same. true≢false (sym (is.1 same) ∙ c.if-branch.false))

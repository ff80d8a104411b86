use Rattle.std.proofs.Common.{sym, ◌∙◌}
use Rattle.path_conditions.specs.Narrowing.{bases_of}
use Rattle.path_conditions.proofs.Repeated.{held_again}
use Rattle.path_conditions.proofs.narrowing.narrowed_if_new.Goals as goal

pub returns-then-is_held_again-clause-value : goal.returns-then-is_held_again-clause-value
returns-then-is_held_again-clause-value c =
    held_again c.args.form c.args.held.now (bases_of c.args.carried.now) (sym c.is_held_again.ensures ∙ c.if-is_held_again.true)

pub returns-clause-value : goal.returns-clause-value
returns-clause-value c = c.narrowed_list.ensures.value

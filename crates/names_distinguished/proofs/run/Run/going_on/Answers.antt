use Rattle.std.proofs.Common.{refl, sym, ◌∙◌}
use Rattle.names_distinguished.specs.Agreement.{run_left}
use Rattle.names_distinguished.proofs.Agreement.{searches_back, searches_later}
use Rattle.names_distinguished.proofs.run.Run.going_on.Goals as goal

pub returns-then-is_kind_before : goal.returns-then-is_kind_before
returns-then-is_kind_before c = searches_back c.args.kind.now (run_left c.args.whole) (run_left c.args.whole) refl

pub returns-else-is_kind_before : goal.returns-else-is_kind_before
returns-else-is_kind_before c = searches_later c.args.last.now c.args.kind.now (run_left c.args.whole) (run_left c.args.self) c.requires (sym c.is_kind_before.ensures ∙ c.if-is_kind_before.false)

use Rattle.std.proofs.Common.{◌∙◌, sym}
use Rattle.names_distinguished.specs.Repetition.{kinds_of, pointed}
use Rattle.names_distinguished.proofs.Runs.{goes_back, goes_on}
use Rattle.names_distinguished.proofs.repetition.Pointer.going_on.Goals as goal

pub returns-then-is_kind_before : goal.returns-then-is_kind_before
returns-then-is_kind_before c = goes_back c.args.last.now c.args.kind.now (kinds_of c.args.run) (pointed c.args.self) (pointed c.first.result) c.first.ensures

pub returns-else-is_kind_before : goal.returns-else-is_kind_before
returns-else-is_kind_before c = goes_on c.args.last.now c.args.kind.now (kinds_of c.args.run) (pointed c.args.self) (sym c.is_kind_before.ensures ∙ c.if-is_kind_before.false)

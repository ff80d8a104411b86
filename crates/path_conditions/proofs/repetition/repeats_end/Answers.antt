use Rattle.std.proofs.Common.{◌∙◌}
use Rattle.path_conditions.proofs.Repeated.{end_is}
use Rattle.path_conditions.proofs.repetition.repeats_end.Goals as goal

pub returns : goal.returns
returns c = c.repeats.ensures ∙ end_is c.args.list.now c.args.more.now c.saturating_sub-start.result c.saturating_sub-start.ensures

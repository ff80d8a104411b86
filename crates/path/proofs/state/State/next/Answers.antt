use Rattle.path.specs.declared.reason.Reason.TheVariants.{PathLength}
use Rattle.path.proofs.state.State.next.Goals as goal

pub pass-requires-clause-length : goal.pass-requires-clause-length
pass-requires-clause-length g c = let h = c.in_default.ensures in h PathLength

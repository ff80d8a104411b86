use Rattle.std.proofs.Common.{◌+◌}
use Rattle.path.proofs.Deciding.{MeetsBelow}
use Rattle.path.proofs.state.State.broken.Given as goal

abbrev pub invariant-loop-reason : goal.invariant-loop-reason
invariant-loop-reason g l = MeetsBelow (g.V.Verifier.accepts l.self.verifier) l.self.query (l.self.done + 1) (l.reason-index + 1)

use Rattle.std.proofs.Common.{refl}
use Rattle.path.proofs.Passing.{held_few}
use Rattle.path.proofs.state.State.subtrees.Goals as goal

pub len-requires : goal.len-requires
len-requires g c = held_few _ _ _ _ _ _ _ c.self.invariant c.self.inside.path.now refl

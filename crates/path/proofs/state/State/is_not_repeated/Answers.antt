use Rattle.std.proofs.Common.{refl}
use Rattle.path.proofs.Deciding.{repeated_at}
use Rattle.path.proofs.state.State.is_not_repeated.Goals as goal

pub returns : goal.returns
returns g c = repeated_at c.self.view_is c.self.inside.path.now refl c.requires c.certificate.result.now c.certificate.ensures _ refl c.repeats.result c.repeats.ensures

use Rattle.std.proofs.Common.{refl}
use Rattle.path.proofs.Deciding.{certificate_at}
use Rattle.path.proofs.state.State.certificate.Goals as goal

pub returns : goal.returns
returns g c = certificate_at c.self.view_is c.self.inside.path.now refl c.requires c.index-path-self.result c.index-path-self.is

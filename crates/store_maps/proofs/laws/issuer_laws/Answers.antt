use Rattle.store_maps.proofs.Owning.{same_held}
use Rattle.store_maps.proofs.laws.issuer_laws.Goals as goal

pub returns : goal.returns
returns c it identity owned = same_held it owned identity

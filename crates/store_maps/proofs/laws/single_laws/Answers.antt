use Rattle.store_maps.proofs.Saying.{single_held}
use Rattle.store_maps.proofs.laws.single_laws.Goals as goal

pub returns : goal.returns
returns c it slot id fact rise known = single_held it slot id fact rise known

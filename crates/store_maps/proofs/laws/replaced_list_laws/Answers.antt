use Rattle.store_maps.proofs.Listing.{list_held}
use Rattle.store_maps.proofs.laws.replaced_list_laws.Goals as goal

pub returns : goal.returns
returns c it slot id head listed form rise room few up known = list_held it slot id head listed form rise room few up known

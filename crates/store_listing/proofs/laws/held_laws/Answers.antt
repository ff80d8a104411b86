use Rattle.store_listing.proofs.Shown.{listing_shows_held}
use Rattle.store_listing.proofs.laws.held_laws.Goals as goal

pub returns : goal.returns
returns c = listing_shows_held

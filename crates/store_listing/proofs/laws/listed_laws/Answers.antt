use Rattle.store_listing.proofs.Once.{lists_once}
use Rattle.store_listing.proofs.laws.listed_laws.Goals as goal

pub returns : goal.returns
returns c = lists_once

use Rattle.store_maps.proofs.Nothing.{holds_nothing}
use Rattle.store_maps.proofs.creation.make.Goals as goal

pub returns-clause-makes : goal.returns-clause-makes
returns-clause-makes g c clean = let made = c.in_ok-make_tables.ensures.makes clean in (made.0, λ empty. holds_nothing c.args.profile _ (made.1 empty))

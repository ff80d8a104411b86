-- Tables without rows are a store that holds nothing.
use Rattle.std.proofs.Common.{refl}
use Rattle.sqlite.specs.Effect.{Database}
use Rattle.store_sql.specs.declared.origin.Origin.TheVariants.{Made}
use Rattle.store_rows.specs.Holding.{HasContents, no_contents}
use Rattle.store_maps.specs.Held.{IsStoreOf}
use Rattle.statements_facts.specs.declared.profile.Profile.{Profile}
use Rattle.statements_facts.specs.Statement.{empty_under}

pub holds_nothing : (profile : Profile) (db : Database) → HasContents db Made (no_contents profile) → IsStoreOf db (empty_under profile)
holds_nothing profile db rows = record {
  origin = Made;
  contents = no_contents profile;
  rows = rows;
  form = record { ids = tt; numbers = tt; reasons = tt; statuses = tt; placed = record { rise = tt; inside = tt; stand = λ i s. tt; serials = λ i s. tt } };
  owned = record { crls = tt; singles = tt };
  held_is = refl;
}

-- A database without tables.
use Rattle.std.proofs.Common.{◌≡◌}
use Rattle.sqlite.specs.Effect.{Database}
use Rattle.store_sql.specs.Tables.{no_schema}
use Rattle.store_rows.specs.Making.{IsEmptyWith}

pub empty_with : (db : Database) → db.schema ≡ no_schema → IsEmptyWith db no_schema
empty_with db is = record { schema_is = is; empty = tt }

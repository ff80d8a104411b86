-- The order of the ids, under the schema that is known.
use Rattle.std.proofs.Common.{◌≡◌}
use Rattle.sqlite.specs.Effect.{Database}
use Rattle.store_sql.specs.declared.origin.Origin.{Origin}
use Rattle.store_sql.specs.Tables.{version_1_schema, store_schema}
use Rattle.store_adoption.specs.Inspects.{TablesAreInOrder, InOrder, InOrderOfVersion1}

pub in_order : (origin : Origin) (db : Database) → db.schema ≡ store_schema origin → TablesAreInOrder db → InOrder origin db
in_order origin db is h = h.version_2 origin is

pub in_order_before : (db : Database) → db.schema ≡ version_1_schema → TablesAreInOrder db → InOrderOfVersion1 db
in_order_before db is h = h.version_1 is

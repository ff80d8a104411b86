-- The trees of a store.
use Rattle.std.proofs.Common.{◌≡◌, sym, subst}
use Rattle.sqlite_trees.specs.Tree.{Trees}
use Rattle.sqlite.specs.Schema.{Schema}
use Rattle.sqlite.specs.Effect.{Database}
use Rattle.statements_facts.specs.Statement.{Holdings}
use Rattle.store_sql.specs.Tables.{store_schema}
use Rattle.store_maps.specs.Held.{IsStoreOf, AreTreesOf}

-- a store's schema follows from its trees
pub trees_of : (held : Holdings) (db : Database) (trees : Trees) → trees ≡ db.trees → IsStoreOf db held → AreTreesOf held trees
trees_of held db trees is it = (it.origin, subst (λ (t : Trees). IsStoreOf (record { schema = store_schema it.origin; trees = t }) held) (sym is) (subst (λ (s : Schema). IsStoreOf (record { schema = s; trees = db.trees }) held) it.rows.schema_is it))

-- The rows of each table of an open connection over files stand in the order of their ids.
use Rattle.std.proofs.Common.{◌≡◌, List, [], ◌∷◌, IsTrue, sym, ap, subst, inl, inr}
use Rattle.std.proofs.Math.Logic.{∥∥₁_elim}
use Rattle.std.proofs.lemmas.Bool.{cases_Bool}
use Rattle.std.specs.List.{AllByRecursion}
use Rattle.sqlite_disk.specs.declared.Disk.{Ghosts}
use Rattle.sqlite_wal.proofs.StateLemmas.{clean_of}
use Rattle.sqlite_trees.specs.Tree.{Trees}
use Rattle.sqlite_trees.specs.declared.store.Shape.TheVariants.{Table}
use Rattle.sqlite_trees.specs.View.{IsShaped, IsOrdered}
use Rattle.sqlite_trees.specs.Props.{IsOrdered-prop}
use Rattle.sqlite_trees.specs.Objects.{catalog_tree, IsListed}
use Rattle.sqlite_schema.specs.declared.schema.Table as schema
use Rattle.sqlite_catalog.proofs.LayoutLemmas.{laid_out}
use Rattle.sqlite_store.specs.declared.store.FileStore.{FileStore}
use Rattle.sqlite_store.specs.Saved.{kept_schema}
use Rattle.sqlite_store.specs.Listing.{all_shapes, all_reals}
use Rattle.sqlite_store.specs.Listed.{catalog_rows, is_listed}
use Rattle.sqlite_store.specs.FileStore.{state, view, schema_of}
use Rattle.sqlite_store.proofs.ListingLemmas.{all_ordered}
use Rattle.sqlite.specs.Effect.{Database, IsDatabase}
use Rattle.sqlite.specs.Held.{Held}
use Rattle.sqlite.specs.State.{State, IsLive}
use Rattle.store_sql.specs.declared.fault.StoreFault.{StoreFault}
use Rattle.store_adoption.specs.Creates.{IsSettled}
use Rattle.store.specs.Adopts.{AdoptIsCaused}
use Rattle.sqlite.specs.Files.{file_state}
use Rattle.sqlite.specs.Schema.{Schema}
use Rattle.store_sql.specs.declared.origin.Origin.{Origin}
use Rattle.store_sql.specs.declared.origin.Origin.TheVariants.{Made, Migrated}
use Rattle.store_sql.specs.Tables.{version_1_schema, store_schema}
use Rattle.store_adoption.specs.Inspects.{CheckIsCaused, TablesAreInOrder, InOrder, InOrderOfVersion1}

module _ {D : Type 0} {g : Ghosts D} (it : FileStore D g) (is_open : IsTrue (view it).is_open) where
  committed_ordered : IsOrdered (all_shapes (kept_schema it.saved (schema_of it))) (view it).committed
  committed_ordered = rw (clean_of (state it) is_open) (∥∥₁_elim (it.stored is_open) (IsOrdered-prop _ _) (λ stored. all_ordered stored.ours.file.db _))

  committed_listed : IsListed ((view it).committed catalog_tree) (all_shapes (kept_schema it.saved (schema_of it))) (all_reals (kept_schema it.saved (schema_of it)))
  committed_listed = rw (clean_of (state it) is_open, catalog_rows (state it).page_size (kept_schema it.saved (schema_of it)) _) (is_listed (kept_schema it.saved (schema_of it)))

all_in_order : {D : Type 0} {g : Ghosts D} (h : Held (FileStore D g)) → IsTrue (file_state h).is_open → (file_state h).now ≡ (file_state h).committed → IsDatabase (file_state h).now → AllByRecursion (λ t. IsShaped Table ((file_state h).now.trees t.tree)) (file_state h).now.schema.tables
all_in_order h is_open settled sound =
    let shapes = all_shapes (kept_schema h.store.saved (schema_of h.store)) in
    let same : (file_state h).committed.trees ≡ (file_state h).now.trees = ap (λ (d : Database). d.trees) (sym settled) in
    let ordered = subst (λ (t : Trees). IsOrdered shapes t) same (committed_ordered h.store is_open) in
    let listed = subst (λ (t : Trees). IsListed (t catalog_tree) shapes (all_reals (kept_schema h.store.saved (schema_of h.store)))) same (committed_listed h.store is_open) in
    let laid = laid_out listed (subst (λ s. IsShaped s ((file_state h).now.trees catalog_tree)) listed.itself.0 (ordered catalog_tree)) sound.lists.listed in
    each (file_state h).now.schema.tables laid.tables ordered
  where
    each : (ts : List schema.Table) → AllByRecursion (λ t. all_shapes (kept_schema h.store.saved (schema_of h.store)) t.tree ≡ Table) ts → IsOrdered (all_shapes (kept_schema h.store.saved (schema_of h.store))) (file_state h).now.trees
        → AllByRecursion (λ t. IsShaped Table ((file_state h).now.trees t.tree)) ts
    each [] are ordered = tt
    each (t ∷ ts) are ordered = (subst (λ s. IsShaped s ((file_state h).now.trees t.tree)) are.0 (ordered t.tree), each ts are.1 ordered)

of_tables : (origin : Origin) (db : Database) → db.schema ≡ store_schema origin → AllByRecursion (λ t. IsShaped Table (db.trees t.tree)) db.schema.tables → InOrder origin db
of_tables Made db is h = let all = subst (λ (s : Schema). AllByRecursion (λ t. IsShaped Table (db.trees t.tree)) s.tables) is h in
    record { versions = all.0; issuers = all.1.0; singles = all.1.1.0; crls = all.1.1.1.0; entries = all.1.1.1.1.0 }
of_tables Migrated db is h = let all = subst (λ (s : Schema). AllByRecursion (λ t. IsShaped Table (db.trees t.tree)) s.tables) is h in
    record { versions = all.0; issuers = all.1.0; singles = all.1.1.0; crls = all.1.1.1.1.1.0; entries = all.1.1.1.1.1.1.0 }

of_version_1 : (db : Database) → db.schema ≡ version_1_schema → AllByRecursion (λ t. IsShaped Table (db.trees t.tree)) db.schema.tables → InOrderOfVersion1 db
of_version_1 db is h = let all = subst (λ (s : Schema). AllByRecursion (λ t. IsShaped Table (db.trees t.tree)) s.tables) is h in
    record { versions = all.0; issuers = all.1.0; singles = all.1.1.0; crls = all.1.1.1.0; entries = all.1.1.1.1.0 }

pub open_in_order : {D : Type 0} {g : Ghosts D} (h : Held (FileStore D g)) → IsTrue (file_state h).is_open → (file_state h).now ≡ (file_state h).committed → IsDatabase (file_state h).now → TablesAreInOrder (file_state h).now
open_in_order h is_open settled sound = record {
  version_1 = λ has. of_version_1 (file_state h).now has (all_in_order h is_open settled sound);
  version_2 = λ origin has. of_tables origin (file_state h).now has (all_in_order h is_open settled sound);
}

-- the fault of a reading has a cause, also if the connection is shut
pub adoption_caused : {D : Type 0} {g : Ghosts D} (h : Held (FileStore D g)) (new : State) (fault : StoreFault) → IsSettled (file_state h) → IsLive (file_state h) → CheckIsCaused (file_state h) new fault
    → AdoptIsCaused (file_state h) new fault
adoption_caused h new fault settled live caused e = elim (cases_Bool (file_state h).is_open) [
  | inl up ↦ caused e (open_in_order h up (settled up) (live up).0)
  | inr shut ↦ inl (inl shut)
]

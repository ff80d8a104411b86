-- The row of the version goes, and another is put in its place, in any store.
use Rattle.std.proofs.Common.{◌≡◌, ◌≢◌, ℕ, ℤ, pos, List, [], ◌∷◌, Bool, true, false, cond, Some, Ok, slice_get, refl, ◌∙◌, arith}
use Rattle.std.specs.List.{AllByRecursion}
use Rattle.sqlite.specs.declared.types.Value.TheVariants.{Null, Int}
use Rattle.sqlite.specs.declared.types.Value.{Value}
use Rattle.sqlite.specs.Kind.TheVariants.{Integer}
use Rattle.sqlite.specs.Cast.{cast}
use Rattle.sqlite.specs.Ops.{unary}
use Rattle.sqlite.specs.Order.{Row}
use Rattle.sqlite.specs.State.{State, ExecutesInside}
use Rattle.sqlite_rules.specs.Action.{works}
use Rattle.sqlite_rules.specs.Cast.{as_integer}
use Rattle.sqlite_trees.specs.Tree.{Trees}
use Rattle.store_sql.specs.declared.origin.Origin.{Origin}
use Rattle.store_sql.specs.declared.origin.Origin.TheVariants.{Made, Migrated}
use Rattle.store_sql.specs.Texts.{delete_version, insert_version}
use Rattle.store_sql.specs.Queries.{is_param}
use Rattle.store_sql.specs.Tables.{store_schema, meta_table, crls_tree, entries_tree}
use Rattle.store_sql.proofs.Laws.{Leaves, deletes_version, inserts_version, deletes_by, inserts_at, passing, equal_ints}

abbrev pub row_of : ℕ → Row
row_of version = Int (pos 1) ∷ Null ∷ Int (pos version) ∷ []

stands : (origin : Origin) → slice_get (store_schema origin).tables 0 ≡ Some (meta_table 0)
stands Made = refl
stands Migrated = refl

alone : (origin : Origin) (keys : _) (gone news : List Row) → works (store_schema origin) keys 0 0 gone news ≡ []
alone Made keys gone news = refl
alone Migrated keys gone news = refl

same_branches : (b : Bool) (x : Value) → cond b x x ≡ x
same_branches true x = refl
same_branches false x = refl

cast_null : cast Integer Null ≡ Null
unfolding unary
cast_null = same_branches _ Null

cast_int : (n : ℤ) → cast Integer (Int n) ≡ Int n
unfolding unary
cast_int n = same_branches _ (Int n)

as_int : (n : ℤ) → as_integer (Int n) ≡ Int n
unfolding unary
as_int n = same_branches _ (Int n)

passes_1 : (version : ℕ) (x : Unit {0}) → passing (is_param 0 0 ∷ []) (Int (pos 1) ∷ []) (row_of version) ≡ true
passes_1 version x = rw (equal_ints (pos 1) (pos 1)) refl

module _ (origin : Origin) (version : ℕ) (old new : State) (count : ℕ) (has : old.now.schema ≡ store_schema origin) where
  pub row_goes : old.now.trees 0 ≡ row_of version ∷ [] → ExecutesInside 0 delete_version (Int (pos 1) ∷ []) old new (Ok count) → Leaves (store_schema origin) 0 old new []
  row_goes is run =
      let text = deletes_version origin in
      deletes_by (store_schema origin) 0 _ 0 _ _ _ _ _ (stands origin) (alone origin) (λ (x : Unit {0}). row_of version) (λ x. pos 1) (λ x. refl)
      delete_version (Int (pos 1) ∷ []) (is_param 0 0 ∷ []) (λ x. true) text.0 text.1 (passes_1 version) (λ x. refl) old new (tt ∷ []) count has is (tt, tt) run.0

  pub row_comes : old.now.trees 0 ≡ [] → ExecutesInside 0 insert_version (Int (pos 1) ∷ Int (pos version) ∷ []) old new (Ok count) → Leaves (store_schema origin) 0 old new (row_of version ∷ [])
  row_comes none run =
      let text = inserts_version origin in
      inserts_at (store_schema origin) 0 _ 0 _ _ _ _ _ (stands origin) (alone origin) (λ (n : ℤ). Int n ∷ Null ∷ Int (pos version) ∷ []) (λ n. n) (λ n. refl)
      insert_version (Int (pos 1) ∷ Int (pos version) ∷ []) _ 3 (pos 1) (Null ∷ Int (pos version) ∷ []) text.0 text.1
      (rw (as_int (pos 1), cast_null, cast_int (pos version)) refl) old new [] count has none run.0

-- ---- what the other tables of a store hold

pub record KeepsOthers (origin : Origin) (was now : Trees) : Type 0 where
  pub issuers : now 1 ≡ was 1
  pub singles : now 3 ≡ was 3
  pub crls : now (crls_tree origin) ≡ was (crls_tree origin)
  pub entries : now (entries_tree origin) ≡ was (entries_tree origin)

others_of : (origin : Origin) (was now : Trees) → AllByRecursion (λ t. t.tree ≢ 0 → now t.tree ≡ was t.tree) (store_schema origin).tables → KeepsOthers origin was now
others_of Made was now h = record {
  issuers = h.1.0 (λ e. omega (arith, e));
  singles = h.1.1.0 (λ e. omega (arith, e));
  crls = h.1.1.1.0 (λ e. omega (arith, e));
  entries = h.1.1.1.1.0 (λ e. omega (arith, e));
}
others_of Migrated was now h = record {
  issuers = h.1.0 (λ e. omega (arith, e));
  singles = h.1.1.0 (λ e. omega (arith, e));
  crls = h.1.1.1.1.1.0 (λ e. omega (arith, e));
  entries = h.1.1.1.1.1.1.0 (λ e. omega (arith, e));
}

-- after both statements
pub others_kept : (origin : Origin) (old mid new : State) (gone come : List Row) → Leaves (store_schema origin) 0 old mid gone → Leaves (store_schema origin) 0 mid new come → KeepsOthers origin old.now.trees new.now.trees
others_kept origin old mid new gone come first second =
    let a = others_of origin old.now.trees mid.now.trees first.others in
    let b = others_of origin mid.now.trees new.now.trees second.others in
    record { issuers = b.issuers ∙ a.issuers; singles = b.singles ∙ a.singles; crls = b.crls ∙ a.crls; entries = b.entries ∙ a.entries }

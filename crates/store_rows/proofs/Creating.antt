-- The tables of a new store are made one after the other.
use Rattle.std.proofs.Common.{◌≡◌, ℕ, ℤ, pos, List, [], ◌∷◌, ◌++◌, Ok, refl, subst, ◌∙◌, arith}
use Rattle.std.specs.List.{AllByRecursion}
use Rattle.sqlite.specs.declared.types.Value.TheVariants.{Null, Int}
use Rattle.sqlite.specs.Table.{Table}
use Rattle.sqlite.specs.Schema.{Schema}
use Rattle.sqlite.specs.Change.{created, next_tree, KeepsRows}
use Rattle.sqlite.specs.State.{State, ExecutesInside, Executes}
use Rattle.sqlite.specs.Tree.{Trees}
use Rattle.store_sql.specs.declared.origin.Origin.TheVariants.{Made}
use Rattle.store_sql.specs.Texts.{create_meta, create_issuers, create_ocsp, create_scoped_crls, create_scoped_entries, insert_version}
use Rattle.store_sql.specs.Tables.{no_schema, meta_alone, meta_and_issuers, start_schema, half_schema, store_schema, meta_table, issuers_table, ocsp_table, scoped_crls_table, scoped_entries_table}
use Rattle.store_sql.proofs.Laws.{MakesTable, makes, makes_meta, makes_issuers, makes_ocsp, makes_crls, makes_entries, inserts_version, inserts_at}
use Rattle.statements_facts.specs.declared.profile.Profile.{Profile}
use Rattle.store_rows.specs.Contents.{version_number}
use Rattle.store_rows.specs.Holding.{HasContents, no_contents}
use Rattle.store_rows.specs.Making.{IsEmptyWith, Advances}
use Rattle.store_rows.proofs.Terms.{cast_null, cast_int, as_int}

appended : {X : Type 0} (P : X → Type 0) (xs : List X) (y : X) → AllByRecursion P xs → P y → AllByRecursion P (xs ++ y ∷ [])
appended P [] y h p = (p, tt)
appended P (x ∷ xs) y h p = (h.0, appended P xs y h.1 p)

still_empty : (old new : Trees) (tables : List Table) → KeepsRows tables old new → AllByRecursion (λ t. old t.tree ≡ []) tables → AllByRecursion (λ t. new t.tree ≡ []) tables
still_empty old new [] same h = tt
still_empty old new (t ∷ tables) same h = (same.0 ∙ h.0, still_empty old new tables same.1 h.1)

pub one_more : (old new : State) (schema after : Schema) (table : Table) → MakesTable old new schema table → created schema table ≡ after → IsEmptyWith old.now schema → IsEmptyWith new.now after
one_more old new schema after table made is was = subst (IsEmptyWith new.now) is (record {
  schema_is = made.schema_is;
  empty = appended (λ t. new.now.trees t.tree ≡ []) schema.tables (record table { tree = next_tree schema }) (still_empty old.now.trees new.now.trees schema.tables made.others was.empty) made.empty;
})

pub advances_twice : (old mid new : State) (text more : List ℕ) (one two : ℕ) → ExecutesInside 0 text [] old mid (Ok one) → ExecutesInside 0 more [] mid new (Ok two) → Advances old new
advances_twice old mid new text more one two a b = record { was_open = a.1.was_open; is_open = b.1.is_open; committed_is = b.1.committed_is ∙ a.1.committed_is; mode = rw b.1.mode refl }

pub first_made : (old mid new : State) (one two : ℕ) → ExecutesInside 0 create_meta [] old mid (Ok one) → ExecutesInside 0 create_issuers [] mid new (Ok two) → Advances old new × (IsEmptyWith old.now no_schema → IsEmptyWith new.now meta_and_issuers)
first_made old mid new one two a b = (
  advances_twice old mid new create_meta create_issuers one two a b,
  λ was.
      let x = makes_meta in let y = makes_issuers in
      let half = one_more old mid no_schema meta_alone (meta_table 0) (makes old mid create_meta no_schema (meta_table 0) one was.schema_is x.0 x.1 x.2 x.4 refl a.0) x.3 was in
      one_more mid new meta_alone meta_and_issuers (issuers_table 0) (makes mid new create_issuers meta_alone (issuers_table 0) two half.schema_is y.0 y.1 y.2 y.4 refl b.0) y.3 half,
)

pub next_made : (old mid new : State) (one two : ℕ) → ExecutesInside 0 create_ocsp [] old mid (Ok one) → ExecutesInside 0 create_scoped_crls [] mid new (Ok two) → Advances old new × (IsEmptyWith old.now meta_and_issuers → IsEmptyWith new.now (half_schema Made))
next_made old mid new one two a b = (
  advances_twice old mid new create_ocsp create_scoped_crls one two a b,
  λ was.
      let x = makes_ocsp in let y = makes_crls Made in
      let half = one_more old mid meta_and_issuers (start_schema Made) (ocsp_table 0) (makes old mid create_ocsp meta_and_issuers (ocsp_table 0) one was.schema_is x.0 x.1 x.2 x.4 refl a.0) x.3 was in
      one_more mid new (start_schema Made) (half_schema Made) (scoped_crls_table 0) (makes mid new create_scoped_crls (start_schema Made) (scoped_crls_table 0) two half.schema_is y.0 y.1 y.2 y.4 refl b.0) y.3 half,
)

version_added : (profile : Profile) (old new : State) (count : ℕ) → IsEmptyWith old.now (store_schema Made)
    → Executes insert_version (Int (pos 1) ∷ Int (pos (version_number profile)) ∷ []) old new (Ok count) → HasContents new.now Made (no_contents profile)
version_added profile old new count was h =
    let version = pos (version_number profile) in
    let text = inserts_version Made in
    let left = inserts_at (store_schema Made) 0 _ 0 _ _ _ _ _ refl (λ keys gone news. refl) (λ (n : ℤ). Int n ∷ Null ∷ Int version ∷ []) (λ n. n) (λ n. refl) insert_version (Int (pos 1) ∷ Int version ∷ []) _ 3 (pos 1) (Null ∷ Int version ∷ []) text.0 text.1
    (rw (as_int (pos 1), cast_null, cast_int version) refl) old new [] count was.schema_is was.empty.0 h in
    record {
      schema_is = left.schema_is;
      sound = left.sound;
      version = left.rows_are;
      issuers = left.others.1.0 (λ e. omega (arith, e)) ∙ was.empty.1.0;
      singles = left.others.1.1.0 (λ e. omega (arith, e)) ∙ was.empty.1.1.0;
      crls = left.others.1.1.1.0 (λ e. omega (arith, e)) ∙ was.empty.1.1.1.0;
      entries = left.others.1.1.1.1.0 (λ e. omega (arith, e)) ∙ was.empty.1.1.1.1.0;
      issuers_rise = tt;
      singles_rise = tt;
      crls_rise = tt;
      entries_rise = tt;
    }

pub last_made : (profile : Profile) (old mid new : State) (one two : ℕ) → ExecutesInside 0 create_scoped_entries [] old mid (Ok one)
    → ExecutesInside 0 insert_version (Int (pos 1) ∷ Int (pos (version_number profile)) ∷ []) mid new (Ok two)
    → Advances old new × (IsEmptyWith old.now (half_schema Made) → HasContents new.now Made (no_contents profile))
last_made profile old mid new one two a b = (
  record { was_open = a.1.was_open; is_open = b.1.is_open; committed_is = b.1.committed_is ∙ a.1.committed_is; mode = rw b.1.mode refl },
  λ was. let x = makes_entries Made in
      version_added profile mid new two (one_more old mid (half_schema Made) (store_schema Made) (scoped_entries_table 0) (makes old mid create_scoped_entries (half_schema Made) (scoped_entries_table 0) one was.schema_is x.0 x.1 x.2 x.4 refl a.0) x.3 was) b.0,
)

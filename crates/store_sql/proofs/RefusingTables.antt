-- Why a table is not made: if its name is free and there is room for it, because the database may refuse.
use Rattle.std.proofs.Common.{◌≡◌, ◌<◌, ◌≤◌, ◌⊎◌, ◌+◌, ◌*◌, ◌^◌, ◌==◌, ℕ, Bool, true, false, List, [], ◌∷◌, length, codes, Option, Some, None, Result, Ok, Err, refl, sym, ap, subst, ◌∙◌, inl, inr, arith, true≢false, nat_lt, IsUtf8, IsAscii}
use Rattle.std.proofs.lemmas.Bool.{and_parts}
use Rattle.std.proofs.lemmas.Bool.Decides.{nat_tests}
use Rattle.std.proofs.lemmas.Str.{IsUtf8-from_ascii}
use Rattle.std.proofs.lemmas.Str.Ascii.{IsAscii-cons}
use Rattle.std.specs.List.{AllByRecursion, list_all}
use Rattle.sqlite_value.specs.declared.value.Value.TheVariants.{Text}
use Rattle.sqlite_schema.specs.declared.schema.Index.{Index}
use Rattle.sqlite_schema.specs.Rules.{table_reals, index_reals}
use Rattle.sqlite_rules.specs.Lists.{Has}
use Rattle.sqlite_rules.proofs.ListLemmas.{all_has}
use Rattle.sqlite_catalog.specs.declared.error.Refusal.{Refusal}
use Rattle.sqlite_catalog.specs.declared.error.Refusal.TheVariants.{Invalid, NameTaken, BadName, TooBig, BadKey, BadText, Violates}
use Rattle.sqlite_catalog.specs.Calls.{CreatesTable, IsBadName, RefusesTable}
use Rattle.sqlite_catalog.specs.Listing.{is_fit, is_formed}
use Rattle.sqlite.specs.Change.{automatics, created, is_reserved, is_used, next_tree}
use Rattle.sqlite.specs.Compile.{table_defined_by}
use Rattle.sqlite.specs.Command.TheVariants.{CreateTable}
use Rattle.sqlite.specs.Table.{Table}
use Rattle.sqlite.specs.Schema.{Schema}
use Rattle.sqlite.specs.declared.error.Error.{Error}
use Rattle.sqlite_resolve.specs.declared.error.CompileError.{CompileError}
use Rattle.sqlite.specs.Order.{Row}
use Rattle.sqlite.specs.declared.run.Mode.{Mode}
use Rattle.sqlite.specs.Does.{Does, MakesTable, lacks_sequence}
use Rattle.sqlite.specs.Effect.{Database}
use Rattle.sqlite.specs.Listing.{understood}
use Rattle.sqlite.specs.State.{State, ExecutesInside, mode_of}
use Rattle.sqlite.proofs.Callers.{IsPlain, command_of, statement_of}
use Rattle.store_sql.specs.declared.fault.StoreFault.TheVariants.{Store}
use Rattle.store_sql.specs.Fault.{fault_from}
use Rattle.store_sql.specs.Cause.{MayRefuse}
use Rattle.store_sql.proofs.Refusing.{IsWhole}
use Rattle.store_sql.proofs.RefusingWrites.{write_caused}

abbrev pub is_ascii : List ℕ → Bool
is_ascii = list_all (λ b. nat_lt b 128)

ascii_from : (bs : List ℕ) → is_ascii bs ≡ true → IsAscii bs
ascii_from [] e = λ i. omega arith
ascii_from (b ∷ bs) e = let parts = and_parts (nat_lt b 128) (is_ascii bs) e in IsAscii-cons b bs (let low = parts.0 in grind (arith, nat_tests)) (ascii_from bs parts.1)

utf8_from : (bs : List ℕ) → is_ascii bs ≡ true → IsUtf8 bs
utf8_from bs e = IsUtf8-from_ascii bs (ascii_from bs e)

-- the table has a free name, no more keys than there is room for, and a text that SQLite can keep
pub record IsNew (schema : Schema) (sql : List ℕ) (table : Table) : Type 0 where
  pub free : is_used schema table.name ≡ false
  pub keys_free : AllByRecursion (λ (i : Index). is_used schema i.name ≡ false) (automatics table 0 0 table.uniques)
  pub named : is_ascii table.name ≡ true
  pub own : is_reserved table.name ≡ false
  pub few : next_tree schema + length table.uniques < 65536
  pub reals : table_reals table < 2 ^ 64
  pub key_reals : AllByRecursion (λ key. index_reals (table_reals table) key < 2 ^ 64) table.uniques
  pub formed : is_formed table ≡ true
  pub fits : is_fit (Text (codes "table")) (Text table.name) (Text table.name) (Text sql) ≡ true
  pub text : is_ascii sql ≡ true
  pub short : 2 * length table.name + length sql + 200 < 10 ^ 9

module _ (schema : Schema) (sql : List ℕ) (table : Table) (defined : table_defined_by sql ≡ Ok table) (it : IsNew schema sql table) where
  same : (other : Table) → table_defined_by sql ≡ Ok other → other ≡ table
  same other is = let both : ◌≡◌ {A = Result Table CompileError} (Ok other) (Ok table) = sym is ∙ defined in cc

  ours : (P : Table → Type 0) (other : Table) → table_defined_by sql ≡ Ok other → P other → P table
  ours P other is h = subst P (same other is) h

  never_refused : (why : Refusal) → RefusesTable schema sql why → ⊥
  never_refused (Invalid e) h = let both : ◌≡◌ {A = Result Table CompileError} (Ok table) (Err e) = sym defined ∙ h in cc
  never_refused NameTaken h =
      elim (ours (λ (t : Table). (is_used schema t.name ≡ true) ⊎ ((index : Index) × Has (automatics t 0 0 t.uniques) index × (is_used schema index.name ≡ true))) h.0 h.1 h.2) [
        | inl taken ↦ true≢false (sym taken ∙ it.free)
        | inr key ↦ true≢false (sym key.2 ∙ all_has (λ (i : Index). is_used schema i.name ≡ false) (automatics table 0 0 table.uniques) key.0 it.keys_free key.1)
      ]
  never_refused BadName h = elim (ours (λ (t : Table). IsBadName t.name (length t.uniques == 0)) h.0 h.1 h.2) [
    | inl odd ↦ odd (utf8_from table.name it.named)
    | inr own ↦ true≢false (sym own.0 ∙ it.own)
  ]
  never_refused TooBig h =
      elim (ours (λ (t : Table). (65536 ≤ next_tree schema + length t.uniques) ⊎ ((2 ^ 64 ≤ table_reals t) ⊎ ((key : List ℕ) × Has t.uniques key × (2 ^ 64 ≤ index_reals (table_reals t) key)))) h.0 h.1 h.2) [
        | inl many ↦ absurd (let few = it.few in omega (arith, few, many))
        | inr big ↦ elim big [
          | inl reals ↦ absurd (let low = it.reals in omega (arith, low, reals))
          | inr key ↦ absurd (let low = all_has (λ key. index_reals (table_reals table) key < 2 ^ 64) table.uniques key.0 it.key_reals key.1 in let high = key.2 in omega (arith, low, high))
        ]
      ]
  never_refused BadKey h = true≢false (sym it.formed ∙ ours (λ (t : Table). is_formed t ≡ false) h.0 h.1 h.2)
  never_refused BadText h = true≢false (sym it.fits ∙ ours (λ (t : Table). is_fit (Text (codes "table")) (Text t.name) (Text t.name) (Text sql) ≡ false) h.0 h.1 h.2)
  never_refused (Violates rule) h = h

  never_stops : (db : Database) → db.schema ≡ schema → (stop : Option Error) → MakesTable sql db (Err stop) → ⊥
  never_stops db has None h = absurd (let short = it.short in let long = ours (λ (t : Table). 10 ^ 9 ≤ 2 * length t.name + length sql + 200) h.0 h.1 h.2 in omega (arith, short, long))
  never_stops db has (Some e) (inl odd) = odd.0 (utf8_from sql it.text)
  never_stops db has (Some e) (inr refused) = never_refused refused.0 (subst (λ s. RefusesTable s sql refused.0) has refused.1)

  module _ (uncounted : lacks_sequence (created schema table) ≡ false) where
    no_sequence : (db after : Database) → db.schema ≡ schema → CreatesTable db.schema sql db.trees after.schema after.trees → lacks_sequence after.schema ≡ false
    no_sequence db after has made = ap lacks_sequence (made.is ∙ ap (λ s. created s made.table) has ∙ ap (created schema) (same made.table made.defined)) ∙ uncounted

    never_fails : (limit : Option ℕ) (mode : Mode) (params : Row) (db : Database) (stop : Option Error) → db.schema ≡ schema → Does limit mode params db sql None CreateTable (Err stop) → ⊥
    never_fails limit mode params db stop has (inl h) = elim h.1 [
      | inl unmade ↦ never_stops db has unmade.0 unmade.1
      | inr made ↦ absurd (let e = rw (no_sequence db made.0 has made.1) at made.2 in cc)
    ]
    never_fails limit mode params db stop has (inr h) = absurd (let e = h.2 in cc)

    -- inside a transaction a new table is made, if the database does not refuse
    pub table_caused : IsPlain (understood schema sql) → IsWhole sql 0 (understood schema sql) → command_of (understood schema sql) ≡ CreateTable → statement_of sql (understood schema sql) ≡ sql
        → (old new : State) → old.now.schema ≡ schema → (error : Error) → ExecutesInside 0 sql [] old new (Err error) → fault_from error ≡ Store → MayRefuse old new
    table_caused plain whole command text old new has =
        write_caused schema sql [] CreateTable command plain whole
        (record { query = refl; pragma = refl; begin = λ e. cc; commit = λ e. cc; rollback = λ e. cc; release = λ n e. cc; back = λ n e. cc }) old new has
        (λ stop d. absurd (never_fails old.step_limit (mode_of old) [] old.now stop has (subst (λ t. Does old.step_limit (mode_of old) [] old.now t None CreateTable (Err stop)) text d)))

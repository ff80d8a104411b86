-- What the texts of the tables make.
use Rattle.std.proofs.Common.{◌≡◌, ℕ, false, List, [], Ok, None, sym, ap, subst, ◌∙◌}
use Rattle.sqlite.specs.Table.{Table}
use Rattle.sqlite.specs.Schema.{Schema}
use Rattle.sqlite.specs.Change.{created, next_tree, KeepsRows}
use Rattle.sqlite.specs.Command.TheVariants.{CreateTable}
use Rattle.sqlite.specs.Compile.{table_defined_by}
use Rattle.sqlite.specs.Does.{Tally, lacks_sequence}
use Rattle.sqlite.specs.Effect.{Database, IsDatabase}
use Rattle.sqlite.specs.Listing.{understood}
use Rattle.sqlite.specs.State.{State, Writes, Executes}
use Rattle.sqlite.proofs.Callers.{IsPlain, command_of, statement_of, runs_as}
use Rattle.store_sql.proofs.TableWrites.{went, same_value}

-- the schema has the table, which is empty, and the other tables keep their rows
pub record MakesTable (old new : State) (schema : Schema) (table : Table) : Type 0 where
  pub schema_is : new.now.schema ≡ created schema table
  pub sound : IsDatabase new.now
  pub empty : new.now.trees (next_tree schema) ≡ []
  pub others : KeepsRows schema.tables old.now.trees new.now.trees

pub makes : (old new : State) (sql : List ℕ) (schema : Schema) (table : Table) (count : ℕ) → old.now.schema ≡ schema
    → command_of (understood schema sql) ≡ CreateTable → statement_of sql (understood schema sql) ≡ sql → table_defined_by sql ≡ Ok table → IsPlain (understood schema sql)
    → lacks_sequence (created schema table) ≡ false → Executes sql [] old new (Ok count) → MakesTable old new schema table
makes old new sql schema table count has is text defined plain uncounted h =
    let w = subst (λ t. Writes old new None CreateTable t [] count) text (runs_as sql [] old new schema has CreateTable is plain count h) in
    let all = went w.changed in
    let first = went all.1 in
    let made = first.1 in
    let both : Ok made.table ≡ Ok table = sym made.defined ∙ defined in
    let same : made.table ≡ table = cc in
    let is_now : first.0.schema ≡ created schema table = made.is ∙ ap (λ s. created s made.table) has ∙ ap (created schema) same in
    let none : lacks_sequence first.0.schema ≡ false = ap lacks_sequence is_now ∙ uncounted in
    let now : new.now ≡ first.0 = ap (λ (p : Tally × Database). p.1) (same_value all.2) ∙ same_value (rw none at first.2) in
    record {
      schema_is = ap (λ (d : Database). d.schema) now ∙ is_now;
      sound = w.sound;
      empty = ap (λ (d : Database). d.trees (next_tree schema)) now ∙ subst (λ s. first.0.trees (next_tree s) ≡ []) has made.empty;
      others = subst (λ (d : Database). KeepsRows schema.tables old.now.trees d.trees) (sym now) (subst (λ (s : Schema). KeepsRows s.tables old.now.trees first.0.trees) has made.others);
    }

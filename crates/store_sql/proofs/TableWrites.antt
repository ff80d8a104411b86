-- What a DELETE and an INSERT do to one table with any keys, and no CHECK, reference or computed default.
use Rattle.std.proofs.Common.{◌≡◌, ◌⊎◌, ℕ, List, [], Some, None, Option, Ok, Err, Result, slice_get, sym, ap, subst, ◌∙◌, inl, inr, append-nil, length, ◌/◌}
use Rattle.sqlite.specs.Order.{Row}
use Rattle.sqlite.specs.Term.{Term}
use Rattle.sqlite.specs.Table.{Table}
use Rattle.sqlite.specs.Schema.{Schema}
use Rattle.sqlite_schema.specs.declared.schema.Column.{Column}
use Rattle.sqlite_schema.specs.declared.schema.Keys.{Keys}
use Rattle.sqlite_schema.specs.declared.program.Program.{Program}
use Rattle.sqlite.specs.Source.TheVariants.{Values}
use Rattle.sqlite.specs.Command.TheVariants.{Insert, Delete}
use Rattle.sqlite.specs.Tree.{Trees}
use Rattle.sqlite.specs.Edit.{edit_of, taken_by, Applies}
use Rattle.sqlite.specs.Rowids.TheVariants.{Chosen, Given}
use Rattle.sqlite_rules.specs.Calls.{ids_of}
use Rattle.sqlite_rules.specs.Action.{works}
use Rattle.sqlite.specs.declared.run.Mode.{Mode}
use Rattle.sqlite.specs.Effect.{Database, Answers, value_rows}
use Rattle.sqlite.specs.Rows.{Written, Task}
use Rattle.sqlite.specs.Does.{Tally, Does, OnRows}
use Rattle.sqlite.proofs.Callers.{one_step}
use Rattle.sqlite_value.specs.declared.keys.Order.{Order}
use Rattle.store_sql.specs.Tables.{shaped}

-- a part that gave a value did not stop on the way
pub went : {B E R : Type 0} {b : B} {Stops : E → Type 0} → ((stop : E) × Stops stop × (◌≡◌ {A = Result B E} (Ok b) (Err stop))) ⊎ R → R
went (inl stopped) = absurd (let e = stopped.2 in cc)
went (inr on) = on

pub same_value : {B E : Type 0} {a b : B} → ◌≡◌ {A = Result B E} (Ok a) (Ok b) → a ≡ b
same_value e = cc

module _ (schema : Schema) (at : ℕ) (name : List ℕ) (tree : ℕ) (columns : List Column) (key : Option ℕ) (primary : List ℕ) (uniques : List (List ℕ)) (orders : List Order)
    (is : slice_get schema.tables at ≡ Some (shaped name tree columns key primary uniques orders))
    (alone : (keys : Keys) (gone news : List Row) → works schema keys 0 tree gone news ≡ []) where
  abbrev table : Table
  table = shaped name tree columns key primary uniques orders

  pub record Deleted (db after : Database) (q : Program) (params : Row) : Type 0 where
    pub rows : List Row
    pub answer : Answers db q params rows
    pub keys : Keys
    pub applies : Applies schema keys db.trees (edit_of db.trees (shaped name tree columns key primary uniques orders) (ids_of rows) Given 0 []) after.trees
    pub schema_is : after.schema ≡ schema

  abbrev task_of : Option ℕ → Mode → Row → Task
  task_of limit mode params = record { limit = limit; keys = mode.keys; schema = schema; table = table; params = params }

  deletes_rows : (limit : Option ℕ) (mode : Mode) (params : Row) (trees : Trees) (q : Program) (tally : Tally) (after : Database)
      → OnRows (task_of limit mode params) mode None (Delete at q) trees (Ok (tally, after))
      → Deleted (record { schema = schema; trees = trees }) after q params
  deletes_rows limit mode params trees q tally after h =
      let done = went h in
      let now = ap (λ (p : Tally × Database). p.1) (same_value (went (went done.2).2).2) in
      let asked = went done.1 in
      let edit = edit_of trees table (ids_of asked.0) Given 0 [] in
      let made = went asked.2 in
      let step = one_step schema mode.keys trees made.0 edit (alone mode.keys (taken_by trees edit) edit.news) made.1 in
      let next : done.0.trees ≡ made.0 = ap (λ (it : Written). it.trees) (same_value made.2) in
      record {
        rows = asked.0;
        answer = asked.1;
        keys = mode.keys;
        applies = subst (Applies schema mode.keys trees edit) (sym (ap (λ (d : Database). d.trees) now ∙ next)) step;
        schema_is = ap (λ (d : Database). d.schema) now;
      }

  pub deletes : (limit : Option ℕ) (mode : Mode) (params : Row) (trees : Trees) (text : List ℕ) (q : Program) (tally : Tally) (after : Database)
      → Does limit mode params (record { schema = schema; trees = trees }) text None (Delete at q) (Ok (tally, after))
      → Deleted (record { schema = schema; trees = trees }) after q params
  deletes limit mode params trees text q tally after h = deletes_rows limit mode params trees q tally after (rw is at h)

  pub record Inserted (db after : Database) (rows : List Row) : Type 0 where
    pub keys : Keys
    pub applies : Applies schema keys db.trees (edit_of db.trees (shaped name tree columns key primary uniques orders) [] Chosen 0 rows) after.trees
    pub schema_is : after.schema ≡ schema

  inserts_rows : (limit : Option ℕ) (mode : Mode) (params : Row) (trees : Trees) (terms : List Term) (width : ℕ) (tally : Tally) (after : Database)
      → OnRows (task_of limit mode params) mode None (Insert at (Values terms width)) trees (Ok (tally, after))
      → Inserted (record { schema = schema; trees = trees }) after (value_rows params width (length terms / width) terms)
  inserts_rows limit mode params trees terms width tally after h =
      let done = went h in
      let now = ap (λ (p : Tally × Database). p.1) (same_value (went (went done.2).2).2) in
      let given = went done.1 in
      let written = went (went given.2).2 in
      let counted = went written.2 in
      let rows = value_rows params width (length terms / width) terms in
      let same : given.0 ≡ rows = given.1.1 ∙ ap (λ p. value_rows p width (length terms / width) terms) (append-nil params) in
      let edit = edit_of trees table [] Chosen 0 given.0 in
      let step = one_step schema mode.keys trees written.0 edit (alone mode.keys (taken_by trees edit) edit.news) written.1 in
      let next : done.0.trees ≡ written.0 = ap (λ (it : Written). it.trees) (same_value counted.2) ∙ same_value counted.1 in
      record {
        keys = mode.keys;
        applies = subst (λ all. Applies schema mode.keys trees (edit_of trees table [] Chosen 0 all) after.trees) same
            (subst (Applies schema mode.keys trees edit) (sym (ap (λ (d : Database). d.trees) now ∙ next)) step);
        schema_is = ap (λ (d : Database). d.schema) now;
      }

  pub inserts : (limit : Option ℕ) (mode : Mode) (params : Row) (trees : Trees) (text : List ℕ) (terms : List Term) (width : ℕ) (tally : Tally) (after : Database)
      → Does limit mode params (record { schema = schema; trees = trees }) text None (Insert at (Values terms width)) (Ok (tally, after))
      → Inserted (record { schema = schema; trees = trees }) after (value_rows params width (length terms / width) terms)
  inserts limit mode params trees text terms width tally after h = inserts_rows limit mode params trees terms width tally after (rw is at h)

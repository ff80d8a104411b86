-- Why a write to one table is refused: a table with any keys, and no CHECK, reference or computed default.
use Rattle.std.proofs.Common.{◌≡◌, ◌≢◌, ℕ, zero, suc, List, [], ◌∷◌, map, drop, Bool, true, false, not, ◌&&◌, ◌||◌, length, length-append, nat_lt, ◌/◌, Option, Some, None, Ok, Err, IsSome, slice_get, refl, sym, ap, ap₂, subst, subst₂, ◌∙◌, inl, inr, append-nil, arith, true≢false, ◌++◌}
use Rattle.std.proofs.lemmas.Bool.{or_right}
use Rattle.std.specs.List.{AllByRecursion, list_all}
use Rattle.sqlite_trees.specs.declared.error.StoreError.{StoreError}
use Rattle.sqlite_trees.specs.declared.error.StoreError.TheVariants.{OutOfMemory, Io, Corrupt, Full, Broken, Unstorable}
use Rattle.sqlite_trees.specs.Tree.{Trees, rowid, with_tree}
use Rattle.sqlite_sql.specs.Ops.{fits_i64}
use Rattle.sqlite_typing.specs.Types.{accepts_program, accepts_terms}
use Rattle.sqlite_resolve.specs.declared.compiled.Compiled.{Compiled}
use Rattle.sqlite_schema.specs.declared.schema.Among.{Among}
use Rattle.sqlite_schema.specs.declared.schema.Column.{Column}
use Rattle.sqlite_schema.specs.declared.schema.Constraint.TheVariants.{Datatype, NotNull, Check, PrimaryKey, Unique, ForeignKey}
use Rattle.sqlite_schema.specs.declared.schema.Keys.{Keys}
use Rattle.sqlite_schema.specs.Rules.{are_typed, are_present, has_parent, is_among, is_key_if_to, passes, references_fit, Keeps}
use Rattle.sqlite_rules.specs.declared.error.Refusal.{Refusal}
use Rattle.sqlite_rules.specs.declared.error.Refusal.TheVariants.{Violates, Mismatch, NoRowid, BadReference, TooDeep}
use Rattle.sqlite_rules.specs.Action.{works, Leads, Writes}
use Rattle.sqlite_rules.specs.Calls.{ids_of}
use Rattle.sqlite_rules.specs.Cast.{cast_row}
use Rattle.sqlite_rules.specs.Edit.{Edit, are_fresh, have_rowids, id_in, is_off, IsOversized, IsRefused, numbered, put_all, taken_by, without_all}
use Rattle.sqlite_rules.specs.Lists.{Has}
use Rattle.sqlite_rules.proofs.ListLemmas.{all_from, has_filtered}
use Rattle.sqlite_value.specs.declared.keys.Order.{Order}
use Rattle.sqlite.specs.Order.{Row}
use Rattle.sqlite.specs.Term.{Term, col}
use Rattle.sqlite.specs.Table.{Table}
use Rattle.sqlite.specs.Schema.{Schema}
use Rattle.sqlite.specs.Command.{Command}
use Rattle.sqlite.specs.Command.TheVariants.{Insert, Delete, Begin, Commit, Rollback, Release, RollbackTo}
use Rattle.sqlite.specs.Source.TheVariants.{Values}
use Rattle.sqlite.specs.Rowids.TheVariants.{Chosen}
use Rattle.sqlite.specs.declared.error.Error.{Error}
use Rattle.sqlite.specs.declared.run.Mode.{Mode}
use Rattle.sqlite.specs.Clock.{timed}
use Rattle.sqlite.specs.Effect.{Database, RefusesQuery, is_query, value_rows}
use Rattle.sqlite.specs.Does.{Does, OnRows}
use Rattle.sqlite.specs.Rows.{Sourced, Queried, Task}
use Rattle.sqlite.specs.Listing.{understood}
use Rattle.sqlite.specs.State.{State, HasCause, Fails, IsMisplaced, IsStatement, RunsAlone, RunsCommand, Escapes, EndsScope, ExecutesIn, ExecutesInside, is_pragma, mode_of, shows_rows, store_error, text_of}
use Rattle.sqlite.proofs.Callers.{IsPlain, command_of, statement_of}
use Rattle.sqlite_sql.specs.Program.{ProgramOverflows}
use Rattle.store_sql.specs.declared.fault.StoreFault.TheVariants.{Store}
use Rattle.store_sql.specs.Fault.{fault_from}
use Rattle.store_sql.specs.Cause.{MayRefuse}
use Rattle.store_sql.specs.Queries.{rows_of}
use Rattle.store_sql.specs.Tables.{shaped}
use Rattle.store_sql.proofs.Refusing.{IsWhole, not_run_caused}
use Rattle.store_sql.proofs.Rowids.{dropped}
use Rattle.store_sql.proofs.Uniques.{keeps_less}

failure_from : (old new : State) (TooBig : Type 0) (error : Error) → (TooBig → MayRefuse old new) → Fails old new TooBig error → fault_from error ≡ Store → MayRefuse old new
failure_from old new TooBig error big h is = from h.0 (sym (ap fault_from h.1) ∙ is) h.2
  where
    from : (cause : StoreError) → fault_from (store_error cause) ≡ Store → HasCause old new TooBig cause → MayRefuse old new
    from OutOfMemory e c = cc
    from Io e c = inr (inl c)
    from Corrupt e c = inr (inl c)
    from Full e c = inr (inl c)
    from Broken e c = inl c
    from Unstorable e c = big c

-- a command that is no query, and none on transactions and savepoints
pub record IsWrite (command : Command) : Type 0 where
  pub query : is_query command ≡ false
  pub pragma : is_pragma command ≡ false
  pub begin : command ≢ Begin
  pub commit : command ≢ Commit
  pub rollback : command ≢ Rollback
  pub release : (name : List ℕ) → command ≢ Release name
  pub back : (name : List ℕ) → command ≢ RollbackTo name

not_misplaced : (s : State) (command : Command) (error : Error) → IsWrite command → IsMisplaced s command error → ⊥
not_misplaced s command error it (inl h) = elim h.1 [
  | inl begins ↦ it.begin begins.0
  | inr ends ↦ elim ends.0 [ inl commits ↦ it.commit commits | inr rolls ↦ it.rollback rolls ]
]
not_misplaced s command error it (inr h) = elim h.2 [ inl releases ↦ it.release h.1 releases | inr back ↦ it.back h.1 back ]

no_escape : (s : State) (command : Command) → IsWrite command → Escapes 0 s command → ⊥
no_escape s command it (inl ends) = elim ends [ inl commits ↦ it.commit commits | inr rolls ↦ it.rollback rolls ]
no_escape s command it (inr named) = elim named.1 [ inl releases ↦ it.release named.0 releases | inr back ↦ it.back named.0 back ]

no_rows : (c : Compiled) → is_query c.command ≡ false → is_pragma c.command ≡ false → c.returning ≡ None → shows_rows false c ≡ false
no_rows c query pragma none = rw (query, pragma, none) refl

-- inside a transaction a write is refused for what the command is refused for, or because it may be
module _ (schema : Schema) (sql : List ℕ) (params : Row) (command : Command) (is : command_of (understood schema sql) ≡ command) (plain : IsPlain (understood schema sql))
    (whole : IsWhole sql (length params) (understood schema sql)) (write : IsWrite command) (old new : State) (has : old.now.schema ≡ schema)
    (done : (stop : Option Error) → Does old.step_limit (mode_of old) params old.now (statement_of sql (understood schema sql)) None command (Err stop) → MayRefuse old new) where
  ran_caused : (error : Error) (c : Compiled) (it : IsStatement old sql params c) → RunsAlone false old new sql c (timed params c.formats it.now) (Err error) → fault_from error ≡ Store → MayRefuse old new
  ran_caused error c it h e =
      let known : understood schema sql ≡ Ok c = ap (λ s. understood s sql) (sym has) ∙ it.is in
      let bare = subst IsPlain known plain in
      let commanded : c.command ≡ command = sym (ap command_of known) ∙ is in
      let text : text_of sql c ≡ statement_of sql (understood schema sql) = sym (ap (statement_of sql) known) in
      let hidden : shows_rows false c ≡ false = no_rows c (ap is_query commanded ∙ write.query) (ap is_pragma commanded ∙ write.pragma) bare.0 in
      let ran : RunsCommand old new sql c params (Err error) = rw (bare.1, append-nil params) at (rw hidden at h) in
      let stops : (stop : Option Error) → Does old.step_limit (mode_of old) params old.now (text_of sql c) c.returning c.command (Err stop) → MayRefuse old new =
      λ stop d. done stop (subst₂ (λ k t. Does old.step_limit (mode_of old) params old.now t None k (Err stop)) commanded text
      (subst (λ r. Does old.step_limit (mode_of old) params old.now (text_of sql c) r c.command (Err stop)) bare.0 d)) in
      elim ran [
        | inl refused ↦ elim refused.0 [
          | inl misplaced ↦ absurd (not_misplaced old c.command error (subst IsWrite (sym commanded) write) misplaced)
          | inr does ↦ stops (Some error) does.1
        ]
        | inr failed ↦ failure_from old new _ error (stops None) failed e
      ]

  pub write_caused : (error : Error) → ExecutesInside 0 sql params old new (Err error) → fault_from error ≡ Store → MayRefuse old new
  unfolding ExecutesIn EndsScope
  write_caused error (inl failed) e = elim failed.0 [
    | inl refused ↦ not_run_caused old new schema sql params error has plain whole refused e
    | inr ran ↦ ran_caused error ran.0 ran.1 ran.2 e
  ]
  write_caused error (inr ends) e =
      let known : understood schema sql ≡ Ok ends.0.0 = ap (λ s. understood s sql) (sym has) ∙ ends.0.1.is in
      absurd (no_escape old ends.0.0.command (subst IsWrite (sym (sym (ap command_of known) ∙ is)) write) ends.0.2)

-- ---- references

no_targets : (schema : Schema) (parent : Table) (tables : List Table) → AllByRecursion (λ (t : Table). t.references ≡ []) tables → list_all (λ (t : Table). list_all (is_key_if_to schema parent) t.references) tables ≡ true
no_targets schema parent [] h = refl
no_targets schema parent (t ∷ tables) h = rw h.0 (no_targets schema parent tables h.1)

linked : (schema : Schema) (table : Table) → table.references ≡ [] → AllByRecursion (λ (t : Table). t.references ≡ []) schema.tables → (adds removes : Bool) → references_fit schema table adds removes ≡ true
linked schema table none bare true true = rw (none, no_targets schema table schema.tables bare) refl
linked schema table none bare true false = rw none refl
linked schema table none bare false true = rw (no_targets schema table schema.tables bare) refl
linked schema table none bare false false = refl

no_parents : (tables : List Table) (db : Trees) (among : Among) (ts : List Table) → AllByRecursion (λ (t : Table). t.references ≡ []) ts
    → AllByRecursion (λ (t : Table). AllByRecursion (λ row. list_all (λ ref. not (is_among among ref) || has_parent tables db row ref) t.references ≡ true) (db t.tree)) ts
no_parents tables db among [] h = tt
no_parents tables db among (t ∷ ts) h = (all_from _ (db t.tree) (λ row there. rw h.0 refl), no_parents tables db among ts h.1)

never_writes : (schema : Schema) (keys : Keys) (db : Trees) (edit : Edit) (why : Option Refusal) → works schema keys 0 edit.table.tree (taken_by db edit) edit.news ≡ []
    → ((w : Refusal) → IsRefused schema keys db edit w → ⊥) → ((row : Row) → Has edit.news row → ¬ IsOversized schema edit.table row) → Writes schema keys db edit (Err why) → ⊥
never_writes schema keys db edit why none refused big (inl h) = refused h.0 h.1
never_writes schema keys db edit why none refused big (inr (inl h)) = big h.0 h.1 h.2
never_writes schema keys db edit why none refused big (inr (inr h)) = settled h.2.0 (rw none at h.2.1)
  where
    settled : (n : ℕ) → Leads schema keys n h.0 [] (Err why) → ⊥
    settled zero l = let e = l.1 in cc
    settled (suc n) l = omega (arith, ap length l.2, length-append l.0 (l.1 ∷ []))

all_pass : (p : Row → Bool) → ((row : Row) → p row ≡ true) → (rows : List Row) → list_all p rows ≡ true
all_pass p each [] = refl
all_pass p each (row ∷ rows) = rw (each row) (all_pass p each rows)

and_true : (b : Bool) → b ≡ (b && true)
and_true true = refl
and_true false = refl

same_tests : (p q : Row → Bool) → ((row : Row) → p row ≡ q row) → (rows : List Row) → list_all p rows ≡ list_all q rows
same_tests p q each [] = refl
same_tests p q each (row ∷ rows) = ap₂ (λ a b. a && b) (each row) (same_tests p q each rows)

refused_limited : (limit : Option ℕ) (db : Database) (tree : ℕ) (terms project : List Term) (params : Row) (error : Error)
    → accepts_program db.schema [] (rows_of tree terms project) params ≡ true → RefusesQuery limit db (record { lets = []; body = rows_of tree terms project }) params error → IsSome limit
refused_limited limit db tree terms project params error typed (inl wrong) = absurd (true≢false (sym typed ∙ wrong.1))
refused_limited limit db tree terms project params error typed (inr (inl over)) = absurd (never over.1)
  where
    never : ProgramOverflows db.trees params [] [] (rows_of tree terms project) → ⊥
    never (inl none) = none
    never (inr none) = none.4
refused_limited limit db tree terms project params error typed (inr (inr limited)) = limited.1

module _ (schema : Schema) (at : ℕ) (name : List ℕ) (tree : ℕ) (columns : List Column) (key : Option ℕ) (primary : List ℕ) (uniques : List (List ℕ)) (orders : List Order)
    (is : slice_get schema.tables at ≡ Some (shaped name tree columns key primary uniques orders))
    (alone : (keys : Keys) (gone news : List Row) → works schema keys 0 tree gone news ≡ [])
    (bare : AllByRecursion (λ (t : Table). t.references ≡ []) schema.tables) where
  abbrev table : Table
  table = shaped name tree columns key primary uniques orders

  -- the table may have these rows beside those that it has
  pub record MayPut (db : Trees) (news : List Row) : Type 0 where
    pub typed : list_all (λ row. are_typed key 0 columns (drop 1 row)) news ≡ true
    pub present : list_all (are_present key 0 columns) news ≡ true
    pub integer : have_rowids news ≡ true
    pub fits : list_all (λ row. fits_i64 (id_in (rowid row))) news ≡ true
    pub free : are_fresh (db tree) news ≡ true
    pub unique : Keeps Unique schema (with_tree db tree (put_all (db tree) news))
    pub small : (row : Row) → Has news row → ¬ IsOversized schema (shaped name tree columns key primary uniques orders) row

  referred : (keys : Keys) (adds removes : Bool) → (is_off keys || references_fit schema table adds removes) ≡ true
  referred keys adds removes = or_right (is_off keys) (references_fit schema table adds removes) (linked schema table refl bare adds removes)

  never_refused : (keys : Keys) (db : Trees) (news : List Row) → MayPut db news → (why : Refusal) → IsRefused schema keys db (record { table = table; gone = []; news = news }) why → ⊥
  never_refused keys db news it (Violates Datatype) h = true≢false (sym it.typed ∙ same_tests (λ row. are_typed key 0 columns (drop 1 row)) (passes Datatype schema db table) (λ row. and_true (are_typed key 0 columns (drop 1 row))) news ∙ h)
  never_refused keys db news it (Violates NotNull) h = true≢false (sym it.present ∙ same_tests (are_present key 0 columns) (passes NotNull schema db table) (λ row. refl) news ∙ h)
  never_refused keys db news it (Violates Check) h = true≢false (sym (all_pass (passes Check schema db table) (λ row. refl) news) ∙ h)
  never_refused keys db news it (Violates PrimaryKey) h = true≢false (sym it.free ∙ h)
  never_refused keys db news it (Violates Unique) h = h it.unique
  never_refused keys db news it (Violates ForeignKey) h = h
  never_refused keys db news it Mismatch h = true≢false (sym it.integer ∙ h)
  never_refused keys db news it NoRowid h = true≢false (sym it.fits ∙ h)
  never_refused keys db news it BadReference h = true≢false (sym (referred keys (nat_lt 0 (length news)) false) ∙ h)
  never_refused keys db news it TooDeep h = h

  never_kept : (keys : Keys) (db : Trees) (ids : List _) → Keeps Unique schema db → (why : Refusal) → IsRefused schema keys db (record { table = table; gone = ids; news = [] }) why → ⊥
  never_kept keys db ids keeps (Violates Datatype) h = true≢false h
  never_kept keys db ids keeps (Violates NotNull) h = true≢false h
  never_kept keys db ids keeps (Violates Check) h = true≢false h
  never_kept keys db ids keeps (Violates PrimaryKey) h = true≢false h
  never_kept keys db ids keeps (Violates Unique) h = h (keeps_less schema db tree (without_all (db tree) ids) (λ r there. (has_filtered _ (db tree) r (subst (λ rows. Has rows r) (dropped ids (db tree)) there)).0) keeps)
  never_kept keys db ids keeps (Violates ForeignKey) h = h
  never_kept keys db ids keeps Mismatch h = true≢false h
  never_kept keys db ids keeps NoRowid h = true≢false h
  never_kept keys db ids keeps BadReference h = true≢false (sym (referred keys false _) ∙ h)
  never_kept keys db ids keeps TooDeep h = h

  abbrev task_of : Option ℕ → Mode → Row → Task
  task_of limit mode params = record { limit = limit; keys = mode.keys; schema = schema; table = table; params = params }

  rows_deleted : (limit : Option ℕ) (mode : Mode) (params : Row) (trees : Trees) (terms : List Term) (stop : Option Error)
      → accepts_program schema [] (rows_of tree terms (col 1 0 ∷ [])) params ≡ true → Keeps Unique schema trees
      → OnRows (task_of limit mode params) mode None (Delete at (record { lets = []; body = rows_of tree terms (col 1 0 ∷ []) })) trees (Err stop) → IsSome limit
  rows_deleted limit mode params trees terms stop typed keeps (inl h) = elim h.1 [
    | inl unfound ↦ queried unfound.0 unfound.1
    | inr found ↦ elim found.2 [
      | inl unedited ↦ absurd (never_writes schema mode.keys trees (record { table = table; gone = ids_of found.0; news = [] }) unedited.1.0 (alone mode.keys _ []) (never_kept mode.keys trees (ids_of found.0) keeps) (λ row none. absurd none) unedited.1.1)
      | inr edited ↦ absurd (let e = edited.2 in cc)
    ]
  ]
    where
      queried : (stop : Option Error) → Queried limit (record { schema = schema; trees = trees }) (record { lets = []; body = rows_of tree terms (col 1 0 ∷ []) }) params (Err stop) → IsSome limit
      queried None none = absurd none
      queried (Some error) refused = refused_limited limit (record { schema = schema; trees = trees }) tree terms (col 1 0 ∷ []) params error typed refused
  rows_deleted limit mode params trees terms stop typed keeps (inr h) = elim h.2 [
    | inl untested ↦ absurd (untested.1.0 (no_parents schema.tables h.0.trees _ schema.tables bare))
    | inr tested ↦ elim tested.2 [ inl unshown ↦ absurd (let e = unshown.1 in cc) | inr shown ↦ absurd (let e = shown.2 in cc) ]
  ]

  rows_inserted : (limit : Option ℕ) (mode : Mode) (params : Row) (trees : Trees) (terms : List Term) (width : ℕ) (news : List Row) (stop : Option Error)
      → accepts_terms terms params ≡ true → numbered Chosen (trees tree) (map (λ s. cast_row table (drop 0 s)) (value_rows params width (length terms / width) terms)) ≡ news → MayPut trees news
      → OnRows (task_of limit mode params) mode None (Insert at (Values terms width)) trees (Err stop) → IsSome limit
  rows_inserted limit mode params trees terms width news stop typed are_news may (inl h) = elim h.1 [
    | inl unsourced ↦ sourced unsourced.0 unsourced.1
    | inr given ↦ elim given.2 [
      | inl uncounted ↦ absurd (let e = uncounted.1 in cc)
      | inr counted ↦ elim counted.2 [
        | inl unedited ↦ absurd (unwritten given.0 (given.1.1 ∙ ap (λ p. value_rows p width (length terms / width) terms) (append-nil params)) unedited.1.0 unedited.1.1)
        | inr edited ↦ elim edited.2 [ inl more ↦ absurd (let e = more.1 in cc) | inr last ↦ absurd (let e = last.2 in cc) ]
      ]
    ]
  ]
    where
      sourced : (stop : Option Error) → Sourced limit (record { schema = schema; trees = trees }) (params ++ []) (Values terms width) (Err stop) → IsSome limit
      sourced None none = absurd none
      sourced (Some error) (inl wrong) = absurd (true≢false (sym typed ∙ ap (accepts_terms terms) (sym (append-nil params)) ∙ wrong.1))
      sourced (Some error) (inr limited) = limited.1

      unwritten : (rows : List Row) → rows ≡ value_rows params width (length terms / width) terms → (why : Option Refusal)
          → Writes schema mode.keys trees (record { table = table; gone = []; news = numbered Chosen (trees tree) (map (λ s. cast_row table (drop 0 s)) rows) }) (Err why) → ⊥
      unwritten rows are why w =
          let put : Writes schema mode.keys trees (record { table = table; gone = []; news = news }) (Err why) =
          subst (λ all. Writes schema mode.keys trees (record { table = table; gone = []; news = all }) (Err why)) (ap (λ r. numbered Chosen (trees tree) (map (λ s. cast_row table (drop 0 s)) r)) are ∙ are_news) w in
          never_writes schema mode.keys trees (record { table = table; gone = []; news = news }) why (alone mode.keys [] news) (never_refused mode.keys trees news may) may.small put
  rows_inserted limit mode params trees terms width news stop typed are_news may (inr h) = elim h.2 [
    | inl untested ↦ absurd (untested.1.0 (no_parents schema.tables h.0.trees _ schema.tables bare))
    | inr tested ↦ elim tested.2 [ inl unshown ↦ absurd (let e = unshown.1 in cc) | inr shown ↦ absurd (let e = shown.2 in cc) ]
  ]

  module _ (sql : List ℕ) (params : Row) (plain : IsPlain (understood schema sql)) (whole : IsWhole sql (length params) (understood schema sql)) (old new : State) (has : old.now.schema ≡ schema) where
    -- a DELETE by terms that the types of its parameters fit
    pub delete_caused : (terms : List Term) → command_of (understood schema sql) ≡ Delete at (record { lets = []; body = rows_of tree terms (col 1 0 ∷ []) })
        → accepts_program schema [] (rows_of tree terms (col 1 0 ∷ [])) params ≡ true → Keeps Unique schema old.now.trees
        → (error : Error) → ExecutesInside 0 sql params old new (Err error) → fault_from error ≡ Store → MayRefuse old new
    delete_caused terms command typed keeps =
        write_caused schema sql params _ command plain whole
        (record { query = refl; pragma = refl; begin = λ e. cc; commit = λ e. cc; rollback = λ e. cc; release = λ n e. cc; back = λ n e. cc }) old new has
        (λ stop d. inr (inr (rows_deleted old.step_limit (mode_of old) params old.now.trees terms stop typed keeps (rw is at (subst (λ s. Does old.step_limit (mode_of old) params (record old.now { schema = s }) (statement_of sql (understood schema sql)) None (Delete at (record { lets = []; body = rows_of tree terms (col 1 0 ∷ []) })) (Err stop)) has d)))))

    -- an INSERT of rows that the table may have
    pub insert_caused : (terms : List Term) (width : ℕ) (news : List Row) → command_of (understood schema sql) ≡ Insert at (Values terms width) → accepts_terms terms params ≡ true
        → numbered Chosen (old.now.trees tree) (map (λ s. cast_row (shaped name tree columns key primary uniques orders) (drop 0 s)) (value_rows params width (length terms / width) terms)) ≡ news → MayPut old.now.trees news
        → (error : Error) → ExecutesInside 0 sql params old new (Err error) → fault_from error ≡ Store → MayRefuse old new
    insert_caused terms width news command typed are_news may =
        write_caused schema sql params _ command plain whole
        (record { query = refl; pragma = refl; begin = λ e. cc; commit = λ e. cc; rollback = λ e. cc; release = λ n e. cc; back = λ n e. cc }) old new has
        (λ stop d. inr (inr (rows_inserted old.step_limit (mode_of old) params old.now.trees terms width news stop typed are_news may (rw is at (subst (λ s. Does old.step_limit (mode_of old) params (record old.now { schema = s }) (statement_of sql (understood schema sql)) None (Insert at (Values terms width)) (Err stop)) has d)))))

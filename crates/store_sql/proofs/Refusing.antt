-- Why a query is refused.
use Rattle.std.proofs.Common.{◌≡◌, ◌⊎◌, ℕ, List, [], ◌∷◌, true, false, length, None, Result, Ok, Err, IsSome, IfErr, refl, sym, ap, subst, ◌∙◌, inl, inr, append-nil, arith, true≢false, ℤ}
use Rattle.sqlite_trees.specs.declared.error.StoreError.{StoreError}
use Rattle.sqlite_trees.specs.declared.error.StoreError.TheVariants.{OutOfMemory, Io, Corrupt, Full, Broken, Unstorable}
use Rattle.std.proofs.lemmas.Bool.{cases_Bool}
use Rattle.sqlite_trees.specs.Tree.{Trees}
use Rattle.sqlite_typing.specs.Types.{accepts_program}
use Rattle.sqlite_resolve.specs.declared.compiled.Compiled.{Compiled}
use Rattle.sqlite_resolve.specs.declared.error.CompileError.{CompileError}
use Rattle.sqlite.specs.Order.{Row}
use Rattle.sqlite.specs.Term.{Term, col}
use Rattle.sqlite.specs.Schema.{Schema}
use Rattle.sqlite.specs.Command.{Command}
use Rattle.sqlite.specs.Command.TheVariants.{Select}
use Rattle.sqlite.specs.Listing.{understood, reads_listing, IsSourceOf}
use Rattle.sqlite.specs.declared.error.Error.{Error}
use Rattle.sqlite.specs.Effect.{Database, RefusesQuery, RefusesToRead}
use Rattle.sqlite_sql.specs.Program.{ProgramOverflows}
use Rattle.sqlite_tied.specs.Compute.{everything}
use Rattle.sqlite.specs.declared.types.Value.TheVariants.{Int, Blob}
use Rattle.sqlite.specs.State.{State, HasCause, Fails, IsNoStatement, IsNotRun, Survives, HasCleanDisk, FailsToQuery, FailsToShow, IsTooLate}
use Rattle.sqlite.proofs.Callers.{IsPlain, command_of}
use Rattle.store_sql.specs.declared.fault.StoreFault.TheVariants.{Store}
use Rattle.store_sql.specs.Fault.{fault_from}
use Rattle.store_sql.specs.Cause.{MayRefuse}
use Rattle.store_sql.specs.declared.origin.Origin.{Origin}
use Rattle.store_sql.specs.declared.origin.Origin.TheVariants.{Made, Migrated}
use Rattle.store_sql.specs.Queries.{rows_of, is_param, from_param, below_param}
use Rattle.store_sql.specs.Tables.{store_schema, crls_tree, entries_tree}
use Rattle.store_sql.specs.Texts.{select_versions, select_issuer, select_crl, select_entry, select_entries, select_single}
use Rattle.store_sql.proofs.Meaning.{selects_versions, selects_issuer, selects_crl, selects_entry, selects_entries, selects_single}

-- the text is one statement, with so many parameters
abbrev pub IsWhole : List ℕ → ℕ → Result Compiled CompileError → Type 0
IsWhole sql count (Ok c) = (c.tail ≡ length sql) × (count ≡ length c.names)
IsWhole sql count (Err e) = ⊥

pub failure_caused : (old new : State) (error : Error) → Fails old new ⊥ error → fault_from error ≡ Store → MayRefuse old new
failure_caused old new error h is = from h.0 (sym (ap fault_from h.1) ∙ is) h.2
  where
    from : (cause : StoreError) → fault_from (Rattle.sqlite.specs.State.store_error cause) ≡ Store → HasCause old new ⊥ cause → MayRefuse old new
    from OutOfMemory e c = cc
    from Io e c = inr (inl c)
    from Corrupt e c = inr (inl c)
    from Full e c = inr (inl c)
    from Broken e c = inl c
    from Unstorable e c = absurd c

no_statement : (old : State) (schema : Schema) (sql : List ℕ) (params : Row) (error : Error) → old.now.schema ≡ schema
    → IsPlain (understood schema sql) → IsWhole sql (length params) (understood schema sql) → IsNoStatement old sql params error → ⊥
no_statement old schema sql params error has plain whole (inl none) =
    subst IsPlain (ap (λ s. understood s sql) (sym has) ∙ none.1) plain
no_statement old schema sql params error has plain whole (inr some) =
    let known = ap (λ s. understood s sql) (sym has) ∙ some.1 in
    let bare = subst IsPlain known plain in
    let all = subst (IsWhole sql (length params)) known whole in
    elim some.2 [
      | inl short ↦ short.0 (omega (arith, all.0))
      | inr more ↦ elim more [ inl counts ↦ counts.0 all.1 | inr clock ↦ clock.0 bare.1 ]
    ]

pub not_run_caused : (old new : State) (schema : Schema) (sql : List ℕ) (params : Row) (error : Error) → old.now.schema ≡ schema
    → IsPlain (understood schema sql) → IsWhole sql (length params) (understood schema sql) → IsNotRun old new sql params error → fault_from error ≡ Store → MayRefuse old new
unfolding IsNotRun
not_run_caused old new schema sql params error has plain whole (inl none) is = absurd (no_statement old schema sql params error has plain whole none.0)
not_run_caused old new schema sql params error has plain whole (inr failed) is = failure_caused old new error failed is

refused_caused : (old new : State) (db : Database) (tree : ℕ) (terms project : List Term) (params : Row) (error : Error)
    → accepts_program db.schema [] (rows_of tree terms project) params ≡ true → RefusesQuery old.step_limit db (record { lets = []; body = rows_of tree terms project }) params error → MayRefuse old new
refused_caused old new db tree terms project params error typed (inl wrong) = absurd (true≢false (sym typed ∙ wrong.1))
refused_caused old new db tree terms project params error typed (inr (inl over)) = absurd (never over.1)
  where
    never : ProgramOverflows db.trees params [] [] (rows_of tree terms project) → ⊥
    never (inl none) = none
    never (inr none) = none.4
refused_caused old new db tree terms project params error typed (inr (inr limited)) = inr (inr limited.1)

-- a query over one table, which the types of its parameters fit
pub query_caused : (schema : Schema) (sql : List ℕ) (params : Row) (tree : ℕ) (terms project : List Term) (names : List (List ℕ))
    → command_of (understood schema sql) ≡ Select (record { lets = []; body = rows_of tree terms project }) names → reads_listing schema sql ≡ false → IsPlain (understood schema sql)
    → IsWhole sql (length params) (understood schema sql) → accepts_program schema [] (rows_of tree terms project) params ≡ true
    → (old new : State) (error : Error) → old.now.schema ≡ schema → FailsToQuery sql params old new error ⊎ IsTooLate sql params old new error → fault_from error ≡ Store → MayRefuse old new
unfolding FailsToQuery
query_caused schema sql params tree terms project names command listing plain whole typed old new error has (inl (inl refused)) is = not_run_caused old new schema sql params error has plain whole refused is
query_caused schema sql params tree terms project names command listing plain whole typed old new error has (inl (inr ran)) is =
    let known = ap (λ s. understood s sql) (sym has) ∙ ran.1.is in
    let bare = subst IsPlain known plain in
    let it : FailsToShow old new sql ran.0 params error None = rw (bare.0, bare.1, append-nil params) at ran.2 in
    let db : it.0 ≡ old.now = subst (λ b. IsSourceOf b old.now it.0) (ap (λ s. reads_listing s sql) has ∙ listing) it.1 in
    let commanded : ran.0.command ≡ Select (record { lets = []; body = rows_of tree terms project }) names = sym (ap command_of known) ∙ command in
    refused_caused old new it.0 tree terms project params error (ap (λ (d : Database). accepts_program d.schema [] (rows_of tree terms project) params) db ∙ ap (λ s. accepts_program s [] (rows_of tree terms project) params) has ∙ typed)
    (subst (λ k. RefusesToRead old.step_limit k it.0 params error) commanded it.2)
query_caused schema sql params tree terms project names command listing plain whole typed old new error has (inr late) is =
    let known = ap (λ s. understood s sql) (sym has) ∙ late.1.is in
    absurd (let some = rw (subst IsPlain known plain).0 at late.2 in cc)

-- ---- each query of a store

pub versions_caused : (old new : State) (origin : Origin) → old.now.schema ≡ store_schema origin → (error : Error)
    → FailsToQuery select_versions [] old new error ⊎ IsTooLate select_versions [] old new error → fault_from error ≡ Store → MayRefuse old new
unfolding understood everything
versions_caused old new origin has error failed is =
    let text = selects_versions origin in
    query_caused (store_schema origin) select_versions [] 0 [] _ _ text.0 text.1 text.2 (whole origin) (typed origin) old new error has failed is
  where
    whole : (origin : Origin) → IsWhole select_versions 0 (understood (store_schema origin) select_versions)
    whole Made = (refl, refl)
    whole Migrated = (refl, refl)

    typed : (origin : Origin) → accepts_program (store_schema origin) [] (rows_of 0 [] (col 1 0 ∷ col 1 2 ∷ [])) [] ≡ true
    typed Made = refl
    typed Migrated = refl

pub issuer_caused : (old new : State) (origin : Origin) → old.now.schema ≡ store_schema origin → (name key_info : List ℕ) (error : Error)
    → FailsToQuery select_issuer (Blob name ∷ Blob key_info ∷ []) old new error ⊎ IsTooLate select_issuer (Blob name ∷ Blob key_info ∷ []) old new error → fault_from error ≡ Store → MayRefuse old new
unfolding understood everything
issuer_caused old new origin has name key_info error failed is =
    let text = selects_issuer origin in
    query_caused (store_schema origin) select_issuer (Blob name ∷ Blob key_info ∷ []) 1 _ _ _ text.0 text.1 text.2 (whole origin) (typed origin) old new error has failed is
  where
    whole : (origin : Origin) → IsWhole select_issuer 2 (understood (store_schema origin) select_issuer)
    whole Made = (refl, refl)
    whole Migrated = (refl, refl)

    typed : (origin : Origin) → accepts_program (store_schema origin) [] (rows_of 1 (is_param 2 0 ∷ is_param 3 1 ∷ []) (col 1 0 ∷ [])) (Blob name ∷ Blob key_info ∷ []) ≡ true
    typed Made = refl
    typed Migrated = refl

pub crl_caused : (old new : State) (origin : Origin) → old.now.schema ≡ store_schema origin → (a b : ℤ) (error : Error)
    → FailsToQuery select_crl (Int a ∷ Int b ∷ []) old new error ⊎ IsTooLate select_crl (Int a ∷ Int b ∷ []) old new error → fault_from error ≡ Store → MayRefuse old new
unfolding understood everything
crl_caused old new origin has a b error failed is =
    let text = selects_crl origin in
    query_caused (store_schema origin) select_crl (Int a ∷ Int b ∷ []) (crls_tree origin) _ _ _ text.0 text.1 text.2 (whole origin) (typed origin) old new error has failed is
  where
    whole : (origin : Origin) → IsWhole select_crl 2 (understood (store_schema origin) select_crl)
    whole Made = (refl, refl)
    whole Migrated = (refl, refl)

    typed : (origin : Origin) → accepts_program (store_schema origin) [] (rows_of (crls_tree origin) (is_param 1 0 ∷ is_param 2 1 ∷ []) (col 1 3 ∷ col 1 4 ∷ col 1 5 ∷ [])) (Int a ∷ Int b ∷ []) ≡ true
    typed Made = refl
    typed Migrated = refl

pub entry_caused : (old new : State) (origin : Origin) → old.now.schema ≡ store_schema origin → (a : ℤ) (error : Error)
    → FailsToQuery select_entry (Int a ∷ []) old new error ⊎ IsTooLate select_entry (Int a ∷ []) old new error → fault_from error ≡ Store → MayRefuse old new
unfolding understood everything
entry_caused old new origin has a error failed is =
    let text = selects_entry origin in
    query_caused (store_schema origin) select_entry (Int a ∷ []) (entries_tree origin) _ _ _ text.0 text.1 text.2 (whole origin) (typed origin) old new error has failed is
  where
    whole : (origin : Origin) → IsWhole select_entry 1 (understood (store_schema origin) select_entry)
    whole Made = (refl, refl)
    whole Migrated = (refl, refl)

    typed : (origin : Origin) → accepts_program (store_schema origin) [] (rows_of (entries_tree origin) (is_param 0 0 ∷ []) (col 1 4 ∷ col 1 5 ∷ [])) (Int a ∷ []) ≡ true
    typed Made = refl
    typed Migrated = refl

pub entries_caused : (old new : State) (origin : Origin) → old.now.schema ≡ store_schema origin → (a b : ℤ) (error : Error)
    → FailsToQuery select_entries (Int a ∷ Int b ∷ []) old new error ⊎ IsTooLate select_entries (Int a ∷ Int b ∷ []) old new error → fault_from error ≡ Store → MayRefuse old new
unfolding understood everything
entries_caused old new origin has a b error failed is =
    let text = selects_entries origin in
    query_caused (store_schema origin) select_entries (Int a ∷ Int b ∷ []) (entries_tree origin) _ _ _ text.0 text.1 text.2 (whole origin) (typed origin) old new error has failed is
  where
    whole : (origin : Origin) → IsWhole select_entries 2 (understood (store_schema origin) select_entries)
    whole Made = (refl, refl)
    whole Migrated = (refl, refl)

    typed : (origin : Origin) → accepts_program (store_schema origin) [] (rows_of (entries_tree origin) (from_param 0 0 ∷ below_param 0 1 ∷ []) (col 1 0 ∷ col 1 4 ∷ col 1 5 ∷ [])) (Int a ∷ Int b ∷ []) ≡ true
    typed Made = refl
    typed Migrated = refl

pub single_caused : (old new : State) (origin : Origin) → old.now.schema ≡ store_schema origin → (a : ℤ) (name_hash serial : List ℕ) (error : Error)
    → FailsToQuery select_single (Int a ∷ Blob name_hash ∷ Blob serial ∷ []) old new error ⊎ IsTooLate select_single (Int a ∷ Blob name_hash ∷ Blob serial ∷ []) old new error → fault_from error ≡ Store → MayRefuse old new
unfolding understood everything
single_caused old new origin has a name_hash serial error failed is =
    let text = selects_single origin in
    query_caused (store_schema origin) select_single (Int a ∷ Blob name_hash ∷ Blob serial ∷ []) 3 _ _ _ text.0 text.1 text.2 (whole origin) (typed origin) old new error has failed is
  where
    whole : (origin : Origin) → IsWhole select_single 3 (understood (store_schema origin) select_single)
    whole Made = (refl, refl)
    whole Migrated = (refl, refl)

    typed : (origin : Origin) → accepts_program (store_schema origin) [] (rows_of 3 (is_param 1 0 ∷ is_param 2 1 ∷ is_param 3 2 ∷ []) (col 1 4 ∷ col 1 5 ∷ col 1 6 ∷ col 1 7 ∷ col 1 8 ∷ col 1 9 ∷ [])) (Int a ∷ Blob name_hash ∷ Blob serial ∷ []) ≡ true
    typed Made = refl
    typed Migrated = refl

pub if_err_then : {A E : Type 0} (result : Result A E) (P Q : E → Type 0) → IfErr result P → ((error : E) → P error → Q error) → IfErr result Q
if_err_then (Ok answer) P Q h then = tt
if_err_then (Err error) P Q h then = then error h

-- a cause that comes later is one of both calls together
pub later_refuses : (old mid new : State) (P Q : Trees → Type 0) → Survives old mid P → Survives mid new Q → HasCleanDisk mid → MayRefuse mid new → MayRefuse old new
later_refuses old mid new P Q first second clean (inl shut) = elim (cases_Bool old.is_open) [
  | inl was ↦ elim (first.closes clean was) [
    | inl still ↦ absurd (true≢false (sym still ∙ shut))
    | inr failed ↦ inr (inl (omega (arith, failed, second.counts)))
  ]
  | inr before ↦ inl before
]
later_refuses old mid new P Q first second clean (inr (inl failed)) = inr (inl (omega (arith, failed, first.counts)))
later_refuses old mid new P Q first second clean (inr (inr limited)) = inr (inr (subst IsSome first.limit limited))

-- and so is one that came before
pub sooner_refuses : (old mid new : State) (Q : Trees → Type 0) → Survives mid new Q → MayRefuse old mid → MayRefuse old new
sooner_refuses old mid new Q second (inl shut) = inl shut
sooner_refuses old mid new Q second (inr (inl failed)) = inr (inl (omega (arith, failed, second.counts)))
sooner_refuses old mid new Q second (inr (inr limited)) = inr (inr limited)

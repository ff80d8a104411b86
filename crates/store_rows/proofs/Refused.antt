-- Why rows are not written: over rows in form, if there is room for more, because the database may refuse.
use Rattle.std.proofs.Common.{◌≡◌, ◌≢◌, ◌<◌, ◌+◌, ℕ, ℤ, pos, negsuc, ◌<ℤ◌, ◌≤ℤ◌, List, [], ◌∷◌, map, filter, length, true, false, not, Result, Ok, Err, IfErr, IsErrAnd, refl, sym, subst, arith}
use Rattle.std.proofs.lemmas.Int.{ints}
use Rattle.std.specs.List.{AllByRecursion}
use Rattle.asn.specs.NumberLaws.{number_octets}
use Rattle.sqlite_schema.specs.declared.schema.Constraint.TheVariants.{Unique}
use Rattle.sqlite_schema.specs.Rules.{Keeps}
use Rattle.sqlite_rules.specs.Lists.{Has}
use Rattle.sqlite_rules.proofs.ListLemmas.{all_from, all_has, has_filtered}
use Rattle.sqlite_sql.specs.Ops.{fits_i64}
use Rattle.sqlite_trees.specs.Tree.{Trees}
use Rattle.sqlite.specs.declared.types.Value.TheVariants.{Null, Int, Blob}
use Rattle.sqlite.specs.declared.error.Error.{Error}
use Rattle.sqlite.specs.Edit.{next_rowid}
use Rattle.sqlite.specs.State.{State, ExecutesInside, HasCleanDisk, Survives}
use Rattle.statements_facts.specs.declared.scope.Scope.{Scope}
use Rattle.statements_facts.specs.Statement.{IssuerIdentity, Window, OcspFact}
use Rattle.store_sql.specs.declared.fault.StoreFault.{StoreFault}
use Rattle.store_sql.specs.declared.fault.StoreFault.TheVariants.{Store}
use Rattle.store_sql.specs.declared.origin.Origin.{Origin}
use Rattle.store_sql.specs.Cause.{MayRefuse}
use Rattle.store_sql.specs.Fault.{fault_from}
use Rattle.store_sql.specs.Tables.{store_schema, crls_position, crls_tree, entries_position, entries_tree}
use Rattle.store_sql.specs.Texts.{insert_issuer, delete_crl, insert_crl, delete_entries, insert_entry, delete_single, insert_single}
use Rattle.store_sql.proofs.Laws.{IsNewKey, delete_caused, chosen_caused, given_caused, below_next, fits_between, next_fits, apart_below, later_refuses, inserts_issuer, deletes_crl, inserts_crl, deletes_entries, inserts_entry, deletes_single, inserts_single, insert_issuer_whole, delete_crl_whole, insert_crl_whole, delete_entries_whole, insert_entry_whole, delete_single_whole, insert_single_whole, crl_deletion_typed, entries_deletion_typed, single_deletion_typed, issuer_insertion_typed, crl_insertion_typed, entry_insertion_typed, single_insertion_typed}
use Rattle.store_rows.specs.Contents.{IssuerRow, CrlRow, EntryRow, SingleRow, Contents, issuer_row, crl_row, entry_row, single_row, crl_cells, listed_cells, said_cells, status_number, reason_number, scope_number, is_crl_of, is_single_of}
use Rattle.store_rows.specs.Holding.{HasContents, AreInForm, HasRoom, next_id}
use Rattle.store_rows.specs.Places.{list_base}
use Rattle.store_rows.specs.Room.{FitRow, LeavesIds, CrlsLeaveAnId, SinglesLeaveIds, CanAddIssuer}
use Rattle.store_rows.proofs.EntrySteps.{entries_stand, entries_alone, entry_cells}
use Rattle.store_rows.proofs.Naturals.{rise_pos}
use Rattle.store_rows.proofs.NewRows.{no_references, issuer_small, crl_small, entry_small, single_small, new_issuer_key, new_crl_key, new_single_key, no_entries_key, no_issuer, not_kept}
use Rattle.store_rows.proofs.Steps.{issuers_stand, issuers_alone, singles_stand, singles_alone, crls_stand, crls_alone, next_is, crl_deleted, single_deleted}
use Rattle.store_rows.proofs.Terms.{cast_null, cast_int, as_int}

pub all_as : {X : Type 0} (P Q : X → Type 0) (xs : List X) → ((x : X) → P x → Q x) → AllByRecursion P xs → AllByRecursion Q xs
all_as P Q [] f h = tt
all_as P Q (x ∷ xs) f h = (f x h.0, all_as P Q xs f h.1)

pub all_kept : {X : Type 0} (P : X → Type 0) (p : X → _) (xs : List X) → AllByRecursion P xs → AllByRecursion P (filter p xs)
all_kept P p xs h = all_from P (filter p xs) (λ x there. all_has P xs x h (has_filtered p xs x there).0)

leaves_one : (id : ℤ) → LeavesIds 1 id → (negsuc 9223372036854775807 ≤ℤ id) × (id <ℤ pos 9223372036854775807)
leaves_one id it = (it.low, (let h = it.high in grind (arith, ints)))

room_below : (id : ℕ) → HasRoom id → (negsuc 9223372036854775807 ≤ℤ pos id) × (pos id <ℤ pos 9223372036854775807)
room_below id low = (grind (arith, ints), grind (arith, ints))

pub place_fits : (place : ℕ) → place < 9223372036854775808 → fits_i64 (pos place) ≡ true
place_fits place low = fits_between (pos place) (grind (arith, ints)) (grind (arith, ints))

pub other_place : (a b : ℕ) → a ≢ b → ¬ (pos a ≡ pos b)
other_place a b far e = far (let same : pos a ≡ pos b = e in grind (arith, ints))

module _ (origin : Origin) (old new : State) (it : Contents) (held : HasContents old.now origin it) where
  pub keeps : Keeps Unique (store_schema origin) old.now.trees
  keeps = subst (λ s. Keeps Unique s old.now.trees) held.schema_is (held.sound.obeys.rules Unique)

  pub issuer_not_added : (identity : IssuerIdentity) → AreInForm it → CanAddIssuer identity it
      → (error : Error) → ExecutesInside 0 insert_issuer (Blob identity.name ∷ Blob identity.key_info ∷ []) old new (Err error) → fault_from error ≡ Store → MayRefuse old new
  issuer_not_added identity form room =
      let added : IssuerRow = record { id = next_id it.issuers; identity = identity } in
      let text = inserts_issuer origin in
      let next : next_rowid (map issuer_row it.issuers) ≡ pos (next_id it.issuers) = next_is origin old new it held 1 it.issuers in
      chosen_caused (store_schema origin) 1 _ 1 _ _ _ _ _ (issuers_stand origin) (issuers_alone origin) (no_references origin) issuer_row (λ x. pos x.id) (λ x. refl)
      insert_issuer (Blob identity.name ∷ Blob identity.key_info ∷ []) _ 4 (Null ∷ Blob identity.name ∷ Blob identity.key_info ∷ []) text.0 text.1 (insert_issuer_whole origin) (issuer_insertion_typed identity.name identity.key_info)
      old new it.issuers held.schema_is held.issuers keeps (rw cast_null refl)
      (record {
        typed = refl;
        present = refl;
        fits = next_fits issuer_row (λ x. pos x.id) (λ x. refl) it.issuers (all_as _ _ it.issuers (λ row low. room_below row.id low) form.ids);
        apart = apart_below issuer_row (λ x. pos x.id) (λ x. refl) _ it.issuers (below_next issuer_row (λ x. pos x.id) (λ x. refl) it.issuers (rise_pos (λ (x : IssuerRow). x.id) it.issuers held.issuers_rise));
        new_key = λ i listed at. subst (λ n. IsNewKey i.order i.columns (map issuer_row it.issuers) (Int n ∷ Null ∷ Blob identity.name ∷ Blob identity.key_info ∷ [])) (sym next)
            (new_issuer_key origin it.issuers added (no_issuer it.issuers identity room.0) i listed at);
        small = issuer_small origin _ identity.name identity.key_info room.1;
      })

  pub crl_not_deleted : (issuer : ℕ) (scope : Scope) (error : Error) → ExecutesInside 0 delete_crl (Int (pos issuer) ∷ Int (pos (scope_number scope)) ∷ []) old new (Err error) → fault_from error ≡ Store → MayRefuse old new
  crl_not_deleted issuer scope =
      let text = deletes_crl origin in
      delete_caused (store_schema origin) (crls_position origin) _ (crls_tree origin) _ _ _ _ _ (crls_stand origin) (crls_alone origin) (no_references origin)
      delete_crl (Int (pos issuer) ∷ Int (pos (scope_number scope)) ∷ []) text.1 (delete_crl_whole origin) old new held.schema_is _ text.0 (crl_deletion_typed origin (pos issuer) (pos (scope_number scope))) keeps

  pub crl_not_added : (issuer : ℕ) (scope : Scope) (number : ℕ) (window : Window) → ((x : CrlRow) → Has it.crls x → is_crl_of issuer scope x ≡ false) → CrlsLeaveAnId it
      → (error : Error) → ExecutesInside 0 insert_crl (Int (pos issuer) ∷ Int (pos (scope_number scope)) ∷ crl_cells number window) old new (Err error) → fault_from error ≡ Store → MayRefuse old new
  crl_not_added issuer scope number window none room =
      let added : CrlRow = record { id = next_rowid (map crl_row it.crls); issuer = issuer; scope = scope; number = number; window = window } in
      let text = inserts_crl origin in
      chosen_caused (store_schema origin) (crls_position origin) _ (crls_tree origin) _ _ _ _ _ (crls_stand origin) (crls_alone origin) (no_references origin) crl_row (λ x. x.id) (λ x. refl)
      insert_crl (Int (pos issuer) ∷ Int (pos (scope_number scope)) ∷ crl_cells number window) _ 6 (Int (pos issuer) ∷ Int (pos (scope_number scope)) ∷ crl_cells number window) text.0 text.1 (insert_crl_whole origin) (crl_insertion_typed (pos issuer) (pos (scope_number scope)) window.from window.until (number_octets 20 number))
      old new it.crls held.schema_is held.crls keeps (rw (cast_null, cast_int (pos issuer), cast_int (pos (scope_number scope)), cast_int window.from, cast_int window.until) refl)
      (record {
        typed = refl;
        present = refl;
        fits = next_fits crl_row (λ x. x.id) (λ x. refl) it.crls (all_as _ _ it.crls (λ row low. leaves_one row.id low) room);
        apart = apart_below crl_row (λ x. x.id) (λ x. refl) _ it.crls (below_next crl_row (λ x. x.id) (λ x. refl) it.crls held.crls_rise);
        new_key = new_crl_key origin it.crls added none;
        small = crl_small origin added;
      })

  pub single_not_deleted : (issuer : ℕ) (name_hash serial : List ℕ) (error : Error) → ExecutesInside 0 delete_single (Int (pos issuer) ∷ Blob name_hash ∷ Blob serial ∷ []) old new (Err error) → fault_from error ≡ Store → MayRefuse old new
  single_not_deleted issuer name_hash serial =
      let text = deletes_single origin in
      delete_caused (store_schema origin) 2 _ 3 _ _ _ _ _ (singles_stand origin) (singles_alone origin) (no_references origin)
      delete_single (Int (pos issuer) ∷ Blob name_hash ∷ Blob serial ∷ []) text.1 (delete_single_whole origin) old new held.schema_is _ text.0 (single_deletion_typed origin (pos issuer) name_hash serial) keeps

  pub single_not_added : (issuer : ℕ) (name_hash serial : List ℕ) (fact : OcspFact) → ((x : SingleRow) → Has it.singles x → is_single_of issuer name_hash serial x ≡ false) → SinglesLeaveIds 1 it → FitRow (length name_hash + length serial)
      → (error : Error) → ExecutesInside 0 insert_single (Int (pos issuer) ∷ Blob name_hash ∷ Blob serial ∷ said_cells fact) old new (Err error) → fault_from error ≡ Store → MayRefuse old new
  single_not_added issuer name_hash serial fact none room short =
      let added : SingleRow = record { id = next_rowid (map single_row it.singles); issuer = issuer; name_hash = name_hash; serial = serial; fact = fact } in
      let text = inserts_single origin in
      chosen_caused (store_schema origin) 2 _ 3 _ _ _ _ _ (singles_stand origin) (singles_alone origin) (no_references origin) single_row (λ x. x.id) (λ x. refl)
      insert_single (Int (pos issuer) ∷ Blob name_hash ∷ Blob serial ∷ said_cells fact) _ 10 (Int (pos issuer) ∷ Blob name_hash ∷ Blob serial ∷ said_cells fact) text.0 text.1 (insert_single_whole origin) (single_insertion_typed (pos issuer) fact.times.this_update fact.times.produced_at fact.window.from fact.window.until (pos (status_number fact.status)) (pos (reason_number fact.status)) name_hash serial)
      old new it.singles held.schema_is held.singles keeps
      (rw (cast_null, cast_int (pos issuer), cast_int fact.times.this_update, cast_int fact.times.produced_at, cast_int fact.window.from, cast_int fact.window.until, cast_int (pos (status_number fact.status)), cast_int (pos (reason_number fact.status))) refl)
      (record {
        typed = refl;
        present = refl;
        fits = next_fits single_row (λ x. x.id) (λ x. refl) it.singles (all_as _ _ it.singles (λ row low. leaves_one row.id low) room);
        apart = apart_below single_row (λ x. x.id) (λ x. refl) _ it.singles (below_next single_row (λ x. x.id) (λ x. refl) it.singles held.singles_rise);
        new_key = new_single_key origin it.singles added none;
        small = single_small origin added short;
      })

  pub entries_not_deleted : (issuer scope : ℕ) (error : Error) → ExecutesInside 0 delete_entries (Int (pos (list_base issuer scope)) ∷ Int (pos (list_base issuer scope + 4294967296)) ∷ []) old new (Err error) → fault_from error ≡ Store → MayRefuse old new
  entries_not_deleted issuer scope =
      let text = deletes_entries origin in
      delete_caused (store_schema origin) (entries_position origin) _ (entries_tree origin) _ _ _ _ _ (entries_stand origin) (entries_alone origin) (no_references origin)
      delete_entries (Int (pos (list_base issuer scope)) ∷ Int (pos (list_base issuer scope + 4294967296)) ∷ []) text.1 (delete_entries_whole origin) old new held.schema_is _ text.0 (entries_deletion_typed origin (pos (list_base issuer scope)) (pos (list_base issuer scope + 4294967296))) keeps

  pub entry_not_added : (e : EntryRow) → AllByRecursion (λ x. x.place ≢ e.place) it.entries → e.place < 9223372036854775808 → FitRow (length e.listed.serial)
      → (error : Error) → ExecutesInside 0 insert_entry (entry_cells e) old new (Err error) → fault_from error ≡ Store → MayRefuse old new
  entry_not_added e apart low short =
      let text = inserts_entry origin in
      given_caused (store_schema origin) (entries_position origin) _ (entries_tree origin) _ _ _ _ _ (entries_stand origin) (entries_alone origin) (no_references origin) entry_row (λ x. pos x.place) (λ x. refl)
      insert_entry (entry_cells e) _ 6 (Null ∷ Int (pos e.issuer) ∷ Int (pos e.scope) ∷ listed_cells e.listed) text.0 text.1 (insert_entry_whole origin) (entry_insertion_typed (pos e.place) (pos e.issuer) (pos e.scope) (pos e.listed.reason) e.listed.serial)
      old new it.entries held.schema_is held.entries keeps (pos e.place)
      (rw (as_int (pos e.place), cast_null, cast_int (pos e.issuer), cast_int (pos e.scope), cast_int (pos e.listed.reason)) refl)
      (record {
        typed = refl;
        present = refl;
        fits = place_fits e.place low;
        apart = all_as _ _ it.entries (λ x far. other_place x.place e.place far) apart;
        new_key = λ i listed at. absurd (no_entries_key origin i listed at);
        small = entry_small origin e short;
      })

-- ---- two statements, one after the other

module _ (old mid new : State) (P Q : Trees → Type 0) (first : Survives old mid P) (second : Survives mid new Q) (clean : HasCleanDisk mid) where
  pub crl_not_replaced : (issuer : ℕ) (scope : Scope) (number : ℕ) (window : Window) (gone : ℕ) → ExecutesInside 0 delete_crl (Int (pos issuer) ∷ Int (pos (scope_number scope)) ∷ []) old mid (Ok gone)
      → (error : Error) → ExecutesInside 0 insert_crl (Int (pos issuer) ∷ Int (pos (scope_number scope)) ∷ crl_cells number window) mid new (Err error) → fault_from error ≡ Store
      → (origin : Origin) (it : Contents) → HasContents old.now origin it → CrlsLeaveAnId it → MayRefuse old new
  crl_not_replaced issuer scope number window gone one error two is origin it held room =
      later_refuses old mid new P Q first second clean
      (crl_not_added origin mid new (record it { crls = filter (λ row. not (is_crl_of issuer scope row)) it.crls }) (crl_deleted origin old mid it held issuer scope gone one.0) issuer scope number window
      (λ x there. not_kept (is_crl_of issuer scope) it.crls x there) (all_kept _ (λ row. not (is_crl_of issuer scope row)) it.crls room) error two is)

  pub single_not_replaced : (issuer : ℕ) (name_hash serial : List ℕ) (fact : OcspFact) (gone : ℕ) → ExecutesInside 0 delete_single (Int (pos issuer) ∷ Blob name_hash ∷ Blob serial ∷ []) old mid (Ok gone)
      → (error : Error) → ExecutesInside 0 insert_single (Int (pos issuer) ∷ Blob name_hash ∷ Blob serial ∷ said_cells fact) mid new (Err error) → fault_from error ≡ Store
      → (origin : Origin) (it : Contents) → HasContents old.now origin it → SinglesLeaveIds 1 it → FitRow (length name_hash + length serial) → MayRefuse old new
  single_not_replaced issuer name_hash serial fact gone one error two is origin it held room short =
      later_refuses old mid new P Q first second clean
      (single_not_added origin mid new (record it { singles = filter (λ row. not (is_single_of issuer name_hash serial row)) it.singles }) (single_deleted origin old mid it held issuer name_hash serial gone one.0) issuer name_hash serial fact
      (λ x there. not_kept (is_single_of issuer name_hash serial) it.singles x there) (all_kept _ (λ row. not (is_single_of issuer name_hash serial row)) it.singles room) short error two is)

-- what `?` makes of a refusal
pub as_refused : {A : Type 0} (result : Result A StoreFault) (error : Error) (P : StoreFault → Type 0) → IsErrAnd result (λ fault. fault ≡ fault_from error) → P (fault_from error) → IfErr result P
as_refused (Ok answer) error P is h = tt
as_refused (Err fault) error P is h = subst P (sym is) h

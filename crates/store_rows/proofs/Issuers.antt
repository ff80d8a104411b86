-- Look-ups of issuers, and one more.
use Rattle.std.proofs.Common.{◌≡◌, ℕ, List, [], ◌∷◌, find, Bool, Option, Some, None, option_map, Result, Ok, Err, IfOk, IfSome, IsTrue, ◌∙◌, inl, inr}
use Rattle.std.proofs.lemmas.Bool.{cases_Bool}
use Rattle.std.specs.List.{AllByRecursion}
use Rattle.sqlite.specs.declared.types.Value.TheVariants.{Blob}
use Rattle.sqlite.specs.Order.{Row}
use Rattle.sqlite.specs.State.{State, Shown, ExecutesInside}
use Rattle.statements_facts.specs.Statement.{IssuerIdentity}
use Rattle.store_sql.specs.declared.fault.StoreFault.{StoreFault}
use Rattle.store_sql.specs.Texts.{select_issuer, insert_issuer}
use Rattle.store_sql.proofs.Laws.{selects_issuer}
use Rattle.store_rows.specs.Contents.{IssuerRow, id_cells, id_of, is_issuer, shown}
use Rattle.store_rows.specs.Holding.{HasRoom, with_issuer}
use Rattle.store_rows.specs.Steps.{Finds, IsKnown, Moves}
use Rattle.store_sql.specs.Tables.{store_schema}
use Rattle.store_rows.proofs.Finding.{finds_shown, shown_open, shown_stays, moves, shown_map}
use Rattle.store_rows.proofs.Steps.{issuer_shown, issuer_added}

-- what is found in a list has what all of it have
pub found_has : {X : Type 0} (P : X → Type 0) (p : X → Bool) (xs : List X) → AllByRecursion P xs → IfSome (find p xs) P
found_has P p [] h = tt
found_has P p (x ∷ xs) h = elim (cases_Bool (p x)) [ inl here ↦ rw here h.0 | inr gone ↦ rw gone (found_has P p xs h.1) ]

pub mapped_has : {X Y : Type 0} (f : X → Y) (P : Y → Type 0) (o : Option X) → IfSome o (λ x. P (f x)) → IfSome (option_map f o) P
mapped_has f P None h = tt
mapped_has f P (Some x) h = h

with_room : (rows : List Row) (result : Result (Option ℕ) StoreFault) → IfOk result (λ found. (id : Option ℕ) → rows ≡ shown id_cells id → found ≡ id)
    → IfOk result (λ found. (id : Option ℕ) → IfSome id HasRoom → rows ≡ shown id_cells id → found ≡ id)
with_room rows (Ok found) ok = λ id fits e. ok id e
with_room rows (Err fault) ok = tt

-- the id is found, also where another row of the table is not in form
pub issuer_known : (old new : State) (identity : IssuerIdentity) (rows : List Row) (result : Result (Option ℕ) StoreFault)
    → IfOk result (λ found. (id : Option ℕ) → rows ≡ shown id_cells id → found ≡ id)
    → Shown select_issuer (Blob identity.name ∷ Blob identity.key_info ∷ []) old new rows → IfOk result (IsKnown old new identity)
issuer_known old new identity rows (Err fault) ok h = tt
issuer_known old new identity rows (Ok found) ok h = record {
  was_open = shown_open old new select_issuer (Blob identity.name ∷ Blob identity.key_info ∷ []) rows h;
  rows = λ origin it held. (
    shown_stays old new select_issuer (Blob identity.name ∷ Blob identity.key_info ∷ []) rows (store_schema origin) held.schema_is ((selects_issuer origin).2) h,
    ok (id_of it.issuers identity) (issuer_shown origin old new it held identity rows h ∙ shown_map id_cells (λ (row : IssuerRow). row.id) (find (is_issuer identity) it.issuers)),
  );
}

pub issuer_found : (old new : State) (identity : IssuerIdentity) (rows : List Row) (result : Result (Option ℕ) StoreFault)
    → IfOk result (λ found. (id : Option ℕ) → rows ≡ shown id_cells id → found ≡ id)
    → (result ≡ Err StoreFault.Schema → (id : Option ℕ) → IfSome id HasRoom → rows ≡ shown id_cells id → ⊥)
    → IsTrue old.in_transaction → Shown select_issuer (Blob identity.name ∷ Blob identity.key_info ∷ []) old new rows
    → Finds old new (λ it id. id ≡ id_of it.issuers identity) result
issuer_found old new identity rows result ok schema inside h =
    finds_shown old new select_issuer (Blob identity.name ∷ Blob identity.key_info ∷ []) rows result id_cells (λ found id. found ≡ id) HasRoom (λ it. id_of it.issuers identity) (λ it id. id ≡ id_of it.issuers identity)
    (with_room rows result ok) schema inside h (λ origin. (selects_issuer origin).2)
    (λ origin it held form. (
      issuer_shown origin old new it held identity rows h ∙ shown_map id_cells (λ (row : IssuerRow). row.id) (find (is_issuer identity) it.issuers),
      mapped_has (λ (row : IssuerRow). row.id) HasRoom (find (is_issuer identity) it.issuers) (found_has (λ (row : IssuerRow). HasRoom row.id) (is_issuer identity) it.issuers form.ids),
    ))
    (λ it found is. is)

pub issuer_moves : (old new : State) (identity : IssuerIdentity) (count : ℕ) → ExecutesInside 0 insert_issuer (Blob identity.name ∷ Blob identity.key_info ∷ []) old new (Ok count) → Moves old new (with_issuer identity)
issuer_moves old new identity count h = moves old new insert_issuer (Blob identity.name ∷ Blob identity.key_info ∷ []) count (with_issuer identity) h (λ origin it held form. issuer_added origin old new it held identity count h.0)

-- What a query that is answered says, and what a statement that has run has done.
use Rattle.std.proofs.Common.{◌≡◌, ℕ, List, Option, Some, None, option_map, Result, Ok, Err, IfOk, IfSome, IsTrue, refl, sym, ap, subst, ◌∙◌, cond, inl, arith}
use Rattle.sqlite_schema.specs.declared.command.Returning.{Returning}
use Rattle.sqlite.specs.Clock.{timed}
use Rattle.sqlite.specs.Listing.{understood}
use Rattle.sqlite.specs.Order.{Row}
use Rattle.sqlite.specs.Schema.{Schema}
use Rattle.sqlite.specs.State.{State, KeepsCommit, Shown, ShowsRows, ExecutesInside, Survives}
use Rattle.sqlite.proofs.Callers.{IsPlain}
use Rattle.sqlite.proofs.InsideLemmas.{unchanged_keeps}
use Rattle.store_sql.specs.declared.origin.Origin.{Origin}
use Rattle.store_sql.specs.declared.fault.StoreFault.{StoreFault}
use Rattle.store_sql.specs.Tables.{store_schema}
use Rattle.store_rows.specs.Contents.{Contents, shown}
use Rattle.store_rows.specs.Holding.{HasContents, AreInForm}
use Rattle.store_rows.specs.Steps.{Stays, Finds, Moves}

-- a query inside a transaction leaves the last commit
pub shown_keeps : (old new : State) (text : List ℕ) (params : Row) (rows : List Row) → IsTrue old.in_transaction → Shown text params old new rows → KeepsCommit old new
unfolding Shown
shown_keeps old new text params rows inside h = cases h.0.returning h.2
  where
    cases : (returning : Option Returning) → ShowsRows old new text h.0 (timed params h.0.formats h.1.now) rows returning → KeepsCommit old new
    cases None it = unchanged_keeps old new (inl it.3)
    cases (Some what) it = record { was_open = λ _. it.1.shown.was_open; committed = λ _. it.1.shown.committed_is ∙ ap (λ b. cond b old.committed new.now) inside }

pub shown_inside : (old new : State) (text : List ℕ) (params : Row) (rows : List Row) → IsTrue old.in_transaction → Shown text params old new rows → IsTrue new.in_transaction
unfolding Shown
shown_inside old new text params rows inside h = cases h.0.returning h.2
  where
    cases : (returning : Option Returning) → ShowsRows old new text h.0 (timed params h.0.formats h.1.now) rows returning → IsTrue new.in_transaction
    cases None it = it.3.0.mode ∙ inside
    cases (Some what) it = it.1.shown.mode ∙ inside

-- it is answered by an open connection alone
pub shown_open : (old new : State) (text : List ℕ) (params : Row) (rows : List Row) → Shown text params old new rows → IsTrue old.is_open
unfolding Shown
shown_open old new text params rows h = cases h.0.returning h.2
  where
    cases : (returning : Option Returning) → ShowsRows old new text h.0 (timed params h.0.formats h.1.now) rows returning → IsTrue old.is_open
    cases None it = it.3.0.was_open
    cases (Some what) it = it.1.shown.was_open

-- and one of the store's leaves all as it was
pub shown_stays : (old new : State) (text : List ℕ) (params : Row) (rows : List Row) (schema : Schema) → old.now.schema ≡ schema → IsPlain (understood schema text) → Shown text params old new rows → Stays old new
unfolding Shown
shown_stays old new text params rows schema has plain h =
    let known : understood schema text ≡ Ok h.0 = ap (λ s. understood s text) (sym has) ∙ h.1.is in
    let none = (subst IsPlain known plain).0 in
    let it = subst (ShowsRows old new text h.0 (timed params h.0.formats h.1.now) rows) none h.2 in
    record { open_is = it.3.0.is_open ∙ sym it.3.0.was_open; now_is = it.3.0.now_is; committed_is = it.3.0.committed_is; mode = it.3.0.mode }

pub shown_map : {X Y : Type 0} (cells : Y → Row) (f : X → Y) (found : Option X) → shown (λ x. cells (f x)) found ≡ shown cells (option_map f found)
shown_map cells f None = refl
shown_map cells f (Some x) = refl

-- rows that show what was looked for are read as it
pub finds_shown : {A B : Type 0} (old new : State) (text : List ℕ) (params : Row) (rows : List Row) (result : Result A StoreFault) (cells : B → Row) (Told : A → Option B → Type 0) (Fits : B → Type 0)
    (want : Contents → Option B) (IsFound : Contents → A → Type 0)
    → IfOk result (λ found. (o : Option B) → IfSome o Fits → rows ≡ shown cells o → Told found o)
    → (result ≡ Err StoreFault.Schema → (o : Option B) → IfSome o Fits → rows ≡ shown cells o → ⊥)
    → IsTrue old.in_transaction → Shown text params old new rows
    → ((origin : Origin) → IsPlain (understood (store_schema origin) text))
    → ((origin : Origin) (it : Contents) → HasContents old.now origin it → AreInForm it → (rows ≡ shown cells (want it)) × IfSome (want it) Fits)
    → ((it : Contents) (found : A) → Told found (want it) → IsFound it found)
    → Finds old new IsFound result
finds_shown old new text params rows (Ok found) cells Told Fits want IsFound ok schema inside h plain shows is =
    record {
      keeps = shown_keeps old new text params rows inside h;
      mode = shown_inside old new text params rows inside h;
      rows = λ origin it held form. let there = shows origin it held form in (shown_stays old new text params rows (store_schema origin) held.schema_is (plain origin) h, is it found (ok (want it) there.1 there.0));
    }
finds_shown old new text params rows (Err fault) cells Told Fits want IsFound ok schema inside h plain shows is =
    record { keeps = shown_keeps old new text params rows inside h; formed = λ e origin it held form. let there = shows origin it held form in schema (ap Err e) (want it) there.1 there.0 }

-- a statement that has run inside a transaction
pub moves : (old new : State) (text : List ℕ) (params : Row) (count : ℕ) (changed : Contents → Contents) → ExecutesInside 0 text params old new (Ok count)
    → ((origin : Origin) (it : Contents) → HasContents old.now origin it → AreInForm it → HasContents new.now origin (changed it)) → Moves old new changed
moves old new text params count changed h rows = record { was_open = h.1.was_open; is_open = h.1.is_open; committed_is = h.1.committed_is; mode = rw h.1.mode refl; rows = rows }

pub survives_itself : (s : State) → Survives s s (λ _. ⊥)
survives_itself s = record { clean = omega arith; shield = λ h. h; counts = omega arith; limit = refl; closes = λ clean is. inl is; crash = λ clean db may. inl may }

-- A look-up that finds or fails, and the transaction that is dropped.
use Rattle.std.proofs.Common.{◌≡◌, Result, Ok, Err, OnOk, IsTrue, true, subst, inr}
use Rattle.sqlite.specs.Store.{Ghosts}
use Rattle.sqlite.specs.Held.{Held, state}
use Rattle.sqlite.specs.State.{State, KeepsCommit, IsRolledBack, Survives}
use Rattle.sqlite.proofs.InsideLemmas.{unchanged_keeps, keeps_then}
use Rattle.statements_facts.specs.Statement.{Holdings}
use Rattle.store_sql.specs.declared.fault.StoreFault.{StoreFault}
use Rattle.store_sql.proofs.Laws.{sooner_refuses}
use Rattle.store_maps.specs.Held.{IsStoreOf}
use Rattle.store_maps.specs.LooksUp.{FailsIn, IsCausedOverStore, IsFoundIn, LooksUp}
use Rattle.store.specs.Adopts.{FindsOrFails}

fails_at : {S : Type 0} (g : Ghosts S) (old begun : Held S) (last new : State) (fault : StoreFault) → begun ≡ record old { in_transaction = true } → FailsIn (state g begun) last fault → IsRolledBack last new
    → KeepsCommit (state g old) new × (fault ≡ StoreFault.Schema → (held : Holdings) → IsStoreOf (state g old).now held → ⊥)
fails_at g old begun last new fault is fails undone =
    let h = subst (λ b. FailsIn (state g b) last fault) is fails in
    (keeps_then (state g old) last new (record { was_open = h.keeps.was_open; committed = h.keeps.committed }) (unchanged_keeps last new (inr undone)), λ ours held it. h.formed ours held it)

found_at : {S A : Type 0} (g : Ghosts S) (old begun : Held S) (last new : State) (Is : Holdings → A → Type 0) (found : A)
    → begun ≡ record old { in_transaction = true } → IsFoundIn (state g begun) last Is found → IsRolledBack last new
    → KeepsCommit (state g old) new × ((held : Holdings) → IsStoreOf (state g old).now held → Is held found)
found_at g old begun last new Is found is looks undone =
    let h = subst (λ b. IsFoundIn (state g b) last Is found) is looks in
    (keeps_then (state g old) last new (record { was_open = h.keeps.was_open; committed = h.keeps.committed }) (unchanged_keeps last new (inr undone)), λ held it. (h.held held it).1)

pub looked_at : {S A : Type 0} (g : Ghosts S) (old begun : Held S) (last new : State) (Is : Holdings → A → Type 0) (result : Result A StoreFault)
    → begun ≡ record old { in_transaction = true } → LooksUp (state g begun) last Is result → IsRolledBack last new → FindsOrFails (KeepsCommit (state g old) new) (state g old).now Is result
looked_at g old begun last new Is (Ok found) is looks undone = found_at g old begun last new Is found is looks undone
looked_at g old begun last new Is (Err fault) is fails undone = fails_at g old begun last new fault is fails undone

-- the cause of a fault inside the transaction is one of the whole
pub caused_at : {S : Type 0} (g : Ghosts S) (old begun : Held S) (last new : State) (fault : StoreFault) → begun ≡ record old { in_transaction = true } → IsCausedOverStore (state g begun) last fault
    → Survives last new (λ _. ⊥) → IsCausedOverStore (state g old) new fault
caused_at g old begun last new fault is h later e held store =
    sooner_refuses (state g old) last new (λ _. ⊥) later (subst (λ b. IsCausedOverStore (state g b) last fault) is h e held store)

-- a transaction is open if its connection was
pub open_at : {S A : Type 0} (g : Ghosts S) (old begun : Held S) (result : Result A StoreFault) → begun ≡ record old { in_transaction = true } → OnOk result (IsTrue (state g begun).is_open)
    → OnOk result (IsTrue (state g old).is_open)
open_at g old begun result is h = subst (λ b. OnOk result (IsTrue (state g b).is_open)) is h

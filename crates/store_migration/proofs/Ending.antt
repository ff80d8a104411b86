-- The transaction ends.
use Rattle.std.proofs.Common.{◌≡◌, true, List, subst, sym, inr}
use Rattle.sqlite.specs.Effect.{Database}
use Rattle.sqlite.specs.Held.{Held, state}
use Rattle.sqlite.specs.State.{State, KeepsCommit, IsRolledBack, Survives}
use Rattle.sqlite.specs.Tree.{Trees}
use Rattle.sqlite.specs.Store.{Ghosts}
use Rattle.sqlite.proofs.InsideLemmas.{unchanged_keeps, keeps_then}
use Rattle.statements_facts.specs.Statement.{Holdings}
use Rattle.store_sql.specs.declared.fault.StoreFault.{StoreFault}
use Rattle.store_sql.proofs.Laws.{begun_refuses, sooner_refuses}
use Rattle.store_maps.specs.Held.{IsStoreOf, AreTreesOf}
use Rattle.store_maps.proofs.HeldLaws.{trees_of}
use Rattle.store_adoption.specs.Version1.{UnscopedCrl, UnscopedEntry, IsVersion1Of, HasLists}
use Rattle.store_taking.specs.Passing.{HasStepped, StepFails}
use Rattle.store_migration.specs.Moved.{IsOld}
use Rattle.store_migration.specs.Moves.{StopIsCaused}

pub old_of : (crls : List UnscopedCrl) (entries : List UnscopedEntry) (db : Database) (held : Holdings) → HasLists crls entries db → IsVersion1Of db held → IsOld crls entries db held
old_of crls entries db held has it = record {
  it = it.contents;
  was = record {
    form = it.form;
    issuers_rise = it.rows.issuers_rise;
    singles_rise = it.rows.singles_rise;
    crls_rise = it.rows.crls_rise;
    lists = has.lists it.contents it.rows it.form;
    held_is = it.held_is;
  };
  rows = it.rows;
}

-- From a database that is so to a store that holds what was held, or that as changed.
module _ {S : Type 0} (g : Ghosts S) (old begun : Held S) (is : begun ≡ record old { in_transaction = true }) (Before : Database → Holdings → Type 0) (changed : Holdings → Holdings) where
  -- what the commit leaves is the store
  pub leaves_store : (last : State) (trees : Trees) → HasStepped (state g begun) last Before (λ db held. IsStoreOf db (changed held)) → trees ≡ last.now.trees → (held : Holdings) → Before (state g old).now held → AreTreesOf (changed held) trees
  leaves_store last trees passes left held was =
      let p = subst (λ h. HasStepped (state g h) last Before (λ db held. IsStoreOf db (changed held))) is passes in
      trees_of (changed held) last.now trees left (p.held held was)

module _ {S : Type 0} (g : Ghosts S) (old begun : Held S) (is : begun ≡ record old { in_transaction = true }) (Before : Database → Holdings → Type 0) where
  pub stops_whole : (last new : State) (fault : StoreFault) → StepFails (state g begun) last Before fault → IsRolledBack last new → KeepsCommit (state g old) new × (fault ≡ StoreFault.Schema → (held : Holdings) → Before (state g old).now held → ⊥)
  stops_whole last new fault stops back =
      let h = subst (λ b. StepFails (state g b) last Before fault) is stops in
      (keeps_then (state g old) last new (record { was_open = h.keeps.was_open; committed = h.keeps.committed }) (unchanged_keeps last new (inr back)), λ ours held it. h.formed ours held it)

  pub stop_ends : (last new : State) (fault : StoreFault) (P : Trees → Type 0) → StopIsCaused Before (state g begun) last fault → Survives last new P → StopIsCaused Before (state g old) new fault
  stop_ends last new fault P caused second e held was =
      sooner_refuses (state g old) last new P second (begun_refuses g old begun is last (caused e held (subst (λ h. Before (state g h).now held) (sym is) was)))

-- A delivery, whole or not at all.
use Rattle.std.specs.Prelude.{◌≡◌, List, Result, Ok, Err, IsTrue}
use Rattle.sqlite.specs.State.{State, HasCleanDisk, Survives}
use Rattle.sqlite_trees.specs.Tree.{Trees}
use Rattle.statements_facts.specs.Statement.{Holdings}
use Rattle.statements_facts.specs.declared.fact.Facts.{Facts}
use Rattle.statements_facts.specs.Fact.{Fact, facts_in}
use Rattle.store_sql.specs.declared.fault.StoreFault.{StoreFault}
use Rattle.statements_facts.specs.declared.counts.Counts.{Counts}
use Rattle.statements_facts.specs.Coming.{after_all}
use Rattle.store_maps.specs.Held.{IsStoreOf, AreTreesOf}
use Rattle.store_taking.specs.Taking.{AreTaken}

-- a crash at this moment may leave these trees
abbrev pub MayLeaveAfterCrash : State → Trees → Type 0
MayLeaveAfterCrash s trees = s.may_leave trees

-- all facts were taken in order, and are there after a crash
pub record Delivers (old new : State) (facts : List Fact) (counts : Counts) : Type 0 where
  pub was_open : IsTrue old.is_open
  pub is_open : IsTrue new.is_open
  pub taken : (held : Holdings) → IsStoreOf old.now held → AreTaken facts counts new.now held
  pub durable : (held : Holdings) → IsStoreOf old.now held → (trees : Trees) → MayLeaveAfterCrash new trees → AreTreesOf (after_all held facts) trees

-- Where the connection is still open the database is as it was, and so both maps are. No fault is for the form of the rows of a
-- store.
pub record PutFails (old new : State) (fault : StoreFault) : Type 0 where
  pub was_open : IsTrue new.is_open → IsTrue old.is_open
  pub same : IsTrue new.is_open → new.now ≡ old.now
  pub formed : fault ≡ StoreFault.Schema → (held : Holdings) → IsStoreOf old.now held → ⊥

abbrev pub Puts : State → State → List Fact → Result Counts StoreFault → Type 0
Puts old new facts (Ok counts) = Delivers old new facts counts
Puts old new facts (Err fault) = PutFails old new fault

-- what a call may leave after a crash, beside what a crash could leave before it: the whole delivery
abbrev pub CommitsWhole : State → List Fact → Trees → Type 0
CommitsWhole old facts trees = IsTrue old.is_open × ((held : Holdings) → IsStoreOf old.now held → AreTreesOf (after_all held facts) trees)

-- a crash leaves what it could leave before, or the whole delivery
abbrev pub AllOrNothing : State → State → Facts → Type 0
AllOrNothing old new facts = Survives old new (CommitsWhole old (facts_in facts))

-- a delivery of what the code holds, if the disk has returned what was written
abbrev pub PutsFacts : State → State → Facts → Result Counts StoreFault → Type 0
PutsFacts old new facts result = HasCleanDisk new → Puts old new (facts_in facts) result

-- ---- on the way

-- the facts were taken inside the transaction, and the transaction was committed
pub record Commits (old new : State) (facts : List Fact) (counts : Counts) : Type 0 where
  pub was_open : IsTrue old.is_open
  pub is_open : IsTrue new.is_open
  pub committed_is : new.committed ≡ new.now
  pub taken : (held : Holdings) → IsStoreOf old.now held → AreTaken facts counts new.now held

-- nothing was committed, and what was written is undone
pub record Undoes (old new : State) (fault : StoreFault) : Type 0 where
  pub was_open : IsTrue new.is_open → IsTrue old.is_open
  pub undone : IsTrue new.is_open → new.now ≡ old.committed
  pub formed : fault ≡ StoreFault.Schema → (held : Holdings) → IsStoreOf old.now held → ⊥

abbrev pub Ends : State → State → List Fact → Result Counts StoreFault → Type 0
Ends old new facts (Ok counts) = Commits old new facts counts
Ends old new facts (Err fault) = Undoes old new fault

abbrev pub EndsDelivery : State → State → Facts → Result Counts StoreFault → Type 0
EndsDelivery old new facts result = HasCleanDisk new → Ends old new (facts_in facts) result

-- What a call inside a transaction does to what a store holds.
use Rattle.std.specs.Prelude.{◌≡◌, ℕ, Some, None, Result, Ok, Err, IsTrue}
use Rattle.sqlite.specs.Effect.{Database}
use Rattle.sqlite_trees.specs.declared.store.Store.{Ghosts}
use Rattle.sqlite.specs.declared.transaction.Transaction.{Transaction}
use Rattle.sqlite.specs.State.{State, HasCleanDisk, KeepsCommit}
use Rattle.statements_facts.specs.Statement.{IssuerIdentity, Holdings}
use Rattle.store_sql.specs.Inside.{inside}
use Rattle.store_sql.specs.declared.fault.StoreFault.{StoreFault}
use Rattle.store_sql.specs.declared.fault.StoreFault.TheVariants.{Schema}
use Rattle.store_rows.specs.Contents.{id_of}
use Rattle.store_rows.specs.Steps.{IsKnown}
use Rattle.store_rows.specs.Making.{FailsOverStore}
use Rattle.store_maps.specs.Held.{IsStoreOf}

-- from a store that holds something to what is said of it then; the last commit is as it was, and the transaction goes on
pub record HasStepped (old new : State) (Before After : Database → Holdings → Type 0) : Type 0 where
  pub keeps : KeepsCommit old new
  pub mode : IsTrue new.in_transaction
  pub held : (held : Holdings) → Before old.now held → After new.now held

-- the last commit stays, and no fault is for the form of the rows of a store
pub record StepFails (old new : State) (Before : Database → Holdings → Type 0) (fault : StoreFault) : Type 0 where
  pub keeps : KeepsCommit old new
  pub formed : fault ≡ Schema → (held : Holdings) → Before old.now held → ⊥

abbrev pub StepsTo : {A : Type 0} → State → State → (Database → Holdings → Type 0) → (A → Database → Holdings → Type 0) → Result A StoreFault → Type 0
StepsTo old new Before After (Ok answer) = HasStepped old new Before (After answer)
StepsTo old new Before After (Err fault) = StepFails old new Before fault

-- a store that holds this, in which the issuer has this id
pub record HasIssuer (identity : IssuerIdentity) (id : ℕ) (db : Database) (held : Holdings) : Type 0 where
  pub store : IsStoreOf db held
  pub known : id_of store.contents.issuers identity ≡ Some id

-- and one in which it has none
pub record LacksIssuer (identity : IssuerIdentity) (db : Database) (held : Holdings) : Type 0 where
  pub store : IsStoreOf db held
  pub unknown : id_of store.contents.issuers identity ≡ None

-- the id of an issuer, also where another's is no longer in form
pub record IsIdOf (old new : State) (identity : IssuerIdentity) (id : ℕ) : Type 0 where
  pub keeps : KeepsCommit old new
  pub mode : IsTrue new.in_transaction
  pub known : IsKnown old new identity (Some id)

abbrev pub KnowsId : State → State → IssuerIdentity → Result ℕ StoreFault → Type 0
KnowsId old new identity (Ok id) = IsIdOf old new identity id
KnowsId old new identity (Err fault) = FailsOverStore old new fault

-- ---- the same of a call on a transaction, if the disk has returned what was written

abbrev pub StepsIn : {S A : Type 0} → Ghosts S → Transaction S → Transaction S → (Database → Holdings → Type 0) → (A → Database → Holdings → Type 0) → Result A StoreFault → Type 0
StepsIn g old new Before After result = HasCleanDisk (inside g new) → StepsTo (inside g old) (inside g new) Before After result

abbrev pub KnowsIdIn : {S : Type 0} → Ghosts S → Transaction S → Transaction S → IssuerIdentity → Result ℕ StoreFault → Type 0
KnowsIdIn g old new identity result = HasCleanDisk (inside g new) → KnowsId (inside g old) (inside g new) identity result

-- an issuer that has no id is given one: what is held stays
abbrev pub AddsIssuer : {S : Type 0} → Ghosts S → Transaction S → Transaction S → IssuerIdentity → Result ℕ StoreFault → Type 0
AddsIssuer g old new identity result = StepsIn g old new (LacksIssuer identity) (HasIssuer identity) result

abbrev pub FindsOrAddsIssuer : {S : Type 0} → Ghosts S → Transaction S → Transaction S → IssuerIdentity → Result ℕ StoreFault → Type 0
FindsOrAddsIssuer g old new identity result = StepsIn g old new IsStoreOf (HasIssuer identity) result

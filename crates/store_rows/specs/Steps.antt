-- What a call inside a transaction does to the rows.
use Rattle.std.specs.Prelude.{◌≡◌, ℕ, Option, Result, Ok, Err, IfOk, IfErr, IsTrue, ◌⊎◌}
use Rattle.sqlite_trees.specs.declared.store.Store.{Ghosts}
use Rattle.sqlite.specs.declared.transaction.Transaction.{Transaction}
use Rattle.sqlite.specs.State.{State, HasCleanDisk, KeepsCommit}
use Rattle.store_sql.specs.Inside.{inside}
use Rattle.store_sql.specs.Cause.{MayRefuse}
use Rattle.store_sql.specs.declared.origin.Origin.{Origin}
use Rattle.store_sql.specs.declared.fault.StoreFault.{StoreFault}
use Rattle.store_sql.specs.declared.fault.StoreFault.TheVariants.{Store, Schema}
use Rattle.statements_facts.specs.Statement.{IssuerIdentity}
use Rattle.store_rows.specs.Contents.{Contents, id_of}
use Rattle.store_rows.specs.Holding.{HasContents, AreInForm}

-- all is as it was
pub record Stays (old new : State) : Type 0 where
  pub open_is : new.is_open ≡ old.is_open
  pub now_is : new.now ≡ old.now
  pub committed_is : new.committed ≡ old.committed
  pub mode : new.in_transaction ≡ old.in_transaction

-- the last commit stays, and no fault is for the form of a row where all rows are in form
pub record Fails (old new : State) (fault : StoreFault) : Type 0 where
  pub keeps : KeepsCommit old new
  pub formed : fault ≡ Schema → (origin : Origin) (it : Contents) → HasContents old.now origin it → AreInForm it → ⊥

-- what is found is said of the rows, and all is as it was
pub record HasFound {A : Type 0} (old new : State) (IsFound : Contents → A → Type 0) (found : A) : Type 0 where
  pub keeps : KeepsCommit old new
  pub mode : IsTrue new.in_transaction
  pub rows : (origin : Origin) (it : Contents) → HasContents old.now origin it → AreInForm it → Stays old new × IsFound it found

abbrev pub Finds : {A : Type 0} → State → State → (Contents → A → Type 0) → Result A StoreFault → Type 0
Finds old new IsFound (Ok found) = HasFound old new IsFound found
Finds old new IsFound (Err fault) = Fails old new fault

-- the connection was open, and this is the id that an issuer has, also where another's is no longer in form
pub record IsKnown (old new : State) (identity : IssuerIdentity) (id : Option ℕ) : Type 0 where
  pub was_open : IsTrue old.is_open
  pub rows : (origin : Origin) (it : Contents) → HasContents old.now origin it → Stays old new × (id ≡ id_of it.issuers identity)

-- inside the transaction the rows are now these; the last commit is as it was
pub record Moves (old new : State) (changed : Contents → Contents) : Type 0 where
  pub was_open : IsTrue old.is_open
  pub is_open : IsTrue new.is_open
  pub committed_is : new.committed ≡ old.committed
  pub mode : IsTrue new.in_transaction
  pub rows : (origin : Origin) (it : Contents) → HasContents old.now origin it → AreInForm it → HasContents new.now origin (changed it)

abbrev pub Changes : {A : Type 0} → State → State → (Contents → Contents) → Result A StoreFault → Type 0
Changes old new changed (Ok done) = Moves old new changed
Changes old new changed (Err fault) = Fails old new fault

-- over rows in form the fault `Store` has a cause: the database may refuse, or the rows are at a limit of the call
abbrev pub IsCausedOr : (Contents → Type 0) → State → State → StoreFault → Type 0
IsCausedOr AtLimit old new fault =
    fault ≡ Store → (origin : Origin) (it : Contents) → HasContents old.now origin it → AreInForm it →
    AtLimit it ⊎ MayRefuse old new

-- the same of a call that puts rows, if there is room for them
abbrev pub IsCausedIfRoom : (Contents → Type 0) → State → State → StoreFault → Type 0
IsCausedIfRoom HasRoom old new fault =
    fault ≡ Store → (origin : Origin) (it : Contents) → HasContents old.now origin it → AreInForm it → HasRoom it →
    MayRefuse old new

-- a call without a limit of its own
abbrev pub IsCaused : State → State → StoreFault → Type 0
IsCaused old new fault =
    fault ≡ Store → (origin : Origin) (it : Contents) → HasContents old.now origin it → AreInForm it →
    MayRefuse old new

-- ---- the same of a call on a transaction, if the disk has returned what was written

abbrev pub FindsIn : {S A : Type 0} → Ghosts S → Transaction S → Transaction S → (Contents → A → Type 0) → Result A StoreFault → Type 0
FindsIn g old new IsFound result = HasCleanDisk (inside g new) → Finds (inside g old) (inside g new) IsFound result

abbrev pub KnowsIn : {S : Type 0} → Ghosts S → Transaction S → Transaction S → IssuerIdentity → Result (Option ℕ) StoreFault → Type 0
KnowsIn g old new identity result = HasCleanDisk (inside g new) → IfOk result (IsKnown (inside g old) (inside g new) identity)

abbrev pub ChangesIn : {S A : Type 0} → Ghosts S → Transaction S → Transaction S → (Contents → Contents) → Result A StoreFault → Type 0
ChangesIn g old new changed result = HasCleanDisk (inside g new) → Changes (inside g old) (inside g new) changed result

abbrev pub CausedIn : {S A : Type 0} → Ghosts S → Transaction S → Transaction S → Result A StoreFault → Type 0
CausedIn g old new result = HasCleanDisk (inside g new) → IfErr result (IsCaused (inside g old) (inside g new))

abbrev pub CausedOrIn : {S A : Type 0} → Ghosts S → Transaction S → Transaction S → (Contents → Type 0) → Result A StoreFault → Type 0
CausedOrIn g old new AtLimit result = HasCleanDisk (inside g new) → IfErr result (IsCausedOr AtLimit (inside g old) (inside g new))

abbrev pub CausedIfRoomIn : {S A : Type 0} → Ghosts S → Transaction S → Transaction S → (Contents → Type 0) → Result A StoreFault → Type 0
CausedIfRoomIn g old new HasRoom result = HasCleanDisk (inside g new) → IfErr result (IsCausedIfRoom HasRoom (inside g old) (inside g new))

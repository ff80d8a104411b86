-- What a call does that looks up in stores, inside their transactions, and may also want memory.
use Rattle.std.specs.Prelude.{◌≡◌, ◌⊎◌, ⊤, Bool, Result, Ok, Err, IfErr, IfOk, IsTrue}
use Rattle.sqlite.specs.State.{State, HasCleanDisk, KeepsCommit}
use Rattle.sqlite.specs.declared.transaction.Transaction.{Transaction}
use Rattle.sqlite_trees.specs.declared.store.Store.{Ghosts}
use Rattle.statements_facts.specs.Statement.{Holdings}
use Rattle.store_sql.specs.declared.fault.StoreFault.{StoreFault}
use Rattle.store_sql.specs.declared.fault.StoreFault.TheVariants as table
use Rattle.store_sql.specs.Cause.{MayRefuse}
use Rattle.store_sql.specs.Inside.{inside}
use Rattle.store_rows.specs.Steps.{Stays}
use Rattle.store_maps.specs.Held.{IsStoreOf}
use Rattle.store_maps.specs.LooksUp.{IsFoundIn, FailsIn, IsCausedOverStore}
use Rattle.path.specs.Query.{Query, Accepts}
use Rattle.path.specs.Validity.{IsFirstFailure, IsValidPath}
use Rattle.relying_agreement.specs.declared.verdict.Verdict.{Verdict}
use Rattle.relying_agreement.specs.declared.verdict.Verdict.TheVariants.{Invalid}
use Rattle.relying_agreement.specs.declared.verdict.Comparison.{Comparison}
use Rattle.relying_agreement.specs.declared.verdict.Comparison.TheVariants.{Same, Differ}
use Rattle.relying_verdicts.specs.declared.fault.Fault.{Fault}
use Rattle.relying_verdicts.specs.declared.fault.Fault.TheVariants.{Store, Memory}

-- a fault of the store is never for the form of the rows of a store; and nothing was committed
abbrev pub AskFails : State → State → Fault → Type 0
AskFails old new (Store fault) = FailsIn old new fault
AskFails old new Memory = KeepsCommit old new

-- what is found is said of what is held, and all is as it was
abbrev pub HasAsked : {A : Type 0} → State → State → (Holdings → A → Type 0) → Result A Fault → Type 0
HasAsked old new Is (Ok found) = IsFoundIn old new Is found
HasAsked old new Is (Err fault) = AskFails old new fault

-- the same of a call on a transaction, if the disk returned what was written
abbrev pub AsksStore : {S A : Type 0} → Ghosts S → Transaction S → Transaction S → (Holdings → A → Type 0) → Result A Fault → Type 0
AsksStore g old new Is result = HasCleanDisk (inside g new) → HasAsked (inside g old) (inside g new) Is result

-- over a store a fault of the database has a cause
abbrev pub AskIsCaused : State → State → Fault → Type 0
AskIsCaused old new (Store fault) = IsCausedOverStore old new fault
AskIsCaused old new Memory = ⊤

abbrev pub AsksForCause : {S A : Type 0} → Ghosts S → Transaction S → Transaction S → Result A Fault → Type 0
AsksForCause g old new result = HasCleanDisk (inside g new) → IfErr result (AskIsCaused (inside g old) (inside g new))

-- a store is asked only about a path that meets all conditions, so no other path gets its fault
abbrev pub IsFaultOfValidPath : Accepts → Query → Fault → Type 0
IsFaultOfValidPath accepts query (Store fault) = IsValidPath accepts query
IsFaultOfValidPath accepts query Memory = ⊤

-- ---- of two stores

-- what is found is said of what both hold, and all is as it was
pub record IsFoundInBoth {A : Type 0} (old new other_old other_new : State) (Is : Holdings → Holdings → A → Type 0) (found : A) : Type 0 where
  pub keeps : KeepsCommit old new
  pub other_keeps : KeepsCommit other_old other_new
  pub mode : IsTrue new.in_transaction
  pub other_mode : IsTrue other_new.in_transaction
  pub held :
      (one other : Holdings) → IsStoreOf old.now one → IsStoreOf other_old.now other →
      Stays old new × Stays other_old other_new × Is one other found

-- the last commits stay, and no fault is for the form of the rows of two stores
pub record FailsInEither (old new other_old other_new : State) (fault : StoreFault) : Type 0 where
  pub keeps : KeepsCommit old new
  pub other_keeps : KeepsCommit other_old other_new
  pub formed : fault ≡ table.Schema → (one other : Holdings) → IsStoreOf old.now one → IsStoreOf other_old.now other → ⊥

abbrev pub AskOfBothFails : State → State → State → State → Fault → Type 0
AskOfBothFails old new other_old other_new (Store fault) = FailsInEither old new other_old other_new fault
AskOfBothFails old new other_old other_new Memory = KeepsCommit old new × KeepsCommit other_old other_new

abbrev pub HasAskedBoth : {A : Type 0} → State → State → State → State → (Holdings → Holdings → A → Type 0) → Result A Fault → Type 0
HasAskedBoth old new other_old other_new Is (Ok found) = IsFoundInBoth old new other_old other_new Is found
HasAskedBoth old new other_old other_new Is (Err fault) = AskOfBothFails old new other_old other_new fault

abbrev pub AsksStores : {S D A : Type 0} → Ghosts S → Transaction S → Transaction S → Ghosts D → Transaction D → Transaction D → (Holdings → Holdings → A → Type 0) → Result A Fault → Type 0
AsksStores g old new h other_old other_new Is result =
    HasCleanDisk (inside g new) → HasCleanDisk (inside h other_new) →
    HasAskedBoth (inside g old) (inside g new) (inside h other_old) (inside h other_new) Is result

-- over two stores a fault of a database has a cause in one of them
abbrev pub AskOfBothIsCaused : State → State → State → State → Fault → Type 0
AskOfBothIsCaused old new other_old other_new (Store fault) =
    fault ≡ table.Store → (one other : Holdings) → IsStoreOf old.now one → IsStoreOf other_old.now other →
    MayRefuse old new ⊎ MayRefuse other_old other_new
AskOfBothIsCaused old new other_old other_new Memory = ⊤

abbrev pub AsksBothForCause : {S D A : Type 0} → Ghosts S → Transaction S → Transaction S → Ghosts D → Transaction D → Transaction D → Result A Fault → Type 0
AsksBothForCause g old new h other_old other_new result =
    HasCleanDisk (inside g new) → HasCleanDisk (inside h other_new) →
    IfErr result (AskOfBothIsCaused (inside g old) (inside g new) (inside h other_old) (inside h other_new))

-- ---- whether a connection was open

-- An Invalid verdict asks no store: the path fails so, whatever is held. Another one comes from an open connection.
abbrev pub IsInvalidOrOpen : Accepts → Query → Bool → Verdict → Type 0
IsInvalidOrOpen accepts query is_open (Invalid j reason) = IsFirstFailure accepts query j reason
IsInvalidOrOpen accepts query is_open verdict = IsTrue is_open

abbrev pub AreInvalidOrOpen : Accepts → Query → Bool → Bool → Comparison → Type 0
AreInvalidOrOpen accepts query is_open other_is_open (Same verdict) =
    IsInvalidOrOpen accepts query is_open verdict × IsInvalidOrOpen accepts query other_is_open verdict
AreInvalidOrOpen accepts query is_open other_is_open (Differ verdict others j) = IsTrue is_open × IsTrue other_is_open

-- the same of a comparison inside two transactions, if the disks returned what was written
abbrev pub BothAreInvalidOrOpen : {S D : Type 0} → Ghosts S → Transaction S → Transaction S → Ghosts D → Transaction D → Transaction D → Accepts → Query → Result Comparison Fault → Type 0
BothAreInvalidOrOpen g old new h other_old other_new accepts query result =
    HasCleanDisk (inside g new) → HasCleanDisk (inside h other_new) →
    IfOk result (AreInvalidOrOpen accepts query (inside g old).is_open (inside h other_old).is_open)

-- the stores were asked, and the verdict is theirs
abbrev pub IsNotInvalid : Verdict → Type 0
IsNotInvalid (Invalid j reason) = ⊥
IsNotInvalid verdict = Unit {0}

abbrev pub AreAskedOpen : Bool → Bool → Comparison → Type 0
AreAskedOpen is_open other_is_open (Same verdict) = IsTrue is_open × IsTrue other_is_open × IsNotInvalid verdict
AreAskedOpen is_open other_is_open (Differ verdict others j) = IsTrue is_open × IsTrue other_is_open

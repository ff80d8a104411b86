-- What a test of a table's rows says of the database.
use Rattle.std.specs.Prelude.{◌≡◌, ◌↔◌, ◌⊎◌, ◌≤◌, ◌++◌, ◌∷◌, ℕ, true, false, List, [], length, None, Result, Ok, Err, IfErr}
use Rattle.sqlite.specs.Order.{Row}
use Rattle.sqlite_trees.specs.declared.store.Store.{Ghosts}
use Rattle.sqlite_resolve.specs.declared.compiled.Compiled.{Compiled}
use Rattle.sqlite_resolve.specs.declared.error.CompileError.{CompileError}
use Rattle.sqlite_schema.specs.Program.{lets_of}
use Rattle.sqlite_sql.specs.Program.{ProgramOverflows}
use Rattle.sqlite_typing.specs.Types.{accepts_program}
use Rattle.sqlite.specs.Command.{Command}
use Rattle.sqlite.specs.Command.TheVariants.{Select}
use Rattle.sqlite.specs.Listing.{understood, reads_listing}
use Rattle.sqlite.specs.Schema.{Schema}
use Rattle.sqlite.specs.Tree.{Trees}
use Rattle.sqlite.specs.Held.{Held, state}
use Rattle.sqlite.specs.State.{State, HasCleanDisk, IsUnchanged, KeepsCommit, Shown, Begins}
use Rattle.store_sql.specs.Cause.{MayRefuse}
use Rattle.store_sql.specs.declared.fault.StoreFault.{StoreFault}
use Rattle.store_sql.specs.declared.fault.StoreFault.TheVariants.{Store, Schema as NotOurs}

-- all rows that the text shows have passed
pub record AllPass (old new : State) (text : List ℕ) (Passed : List Row → Type 0) : Type 0 where
  pub unchanged : IsUnchanged old new
  pub rows : List Row
  pub shown : Shown text [] new new rows
  pub passed : Passed rows

-- some rows that it shows are not how all begin
pub record SomeFail (new : State) (text : List ℕ) (AreFormed : List Row → Type 0) : Type 0 where
  pub rows : List Row
  pub begins : Begins text [] new rows
  pub refused : (later : List Row) → AreFormed (rows ++ later) → ⊥

pub record TestFails (old new : State) (text : List ℕ) (AreFormed : List Row → Type 0) (fault : StoreFault) : Type 0 where
  pub keeps : KeepsCommit old new
  pub why : fault ≡ NotOurs → IsUnchanged old new × SomeFail new text AreFormed

abbrev pub Tests : {A : Type 0} → State → State → List ℕ → (List Row → Type 0) → (List Row → Type 0) → Result A StoreFault → Type 0
Tests old new text Passed AreFormed (Ok done) = AllPass old new text Passed
Tests old new text Passed AreFormed (Err fault) = TestFails old new text AreFormed fault

-- the same of a call on a connection, if the disk has returned what was written
abbrev pub TestsOn : {S A : Type 0} → Ghosts S → Held S → Held S → List ℕ → (List Row → Type 0) → (List Row → Type 0) → Result A StoreFault → Type 0
TestsOn g old new text Passed AreFormed result = HasCleanDisk (state g new) → Tests (state g old) (state g new) text Passed AreFormed result

-- ---- why a text is refused

-- the query shows each type of value where it fits, and no sum in it overflows
abbrev pub IsSafeQuery : Schema → Command → Type 0
IsSafeQuery schema (Select q names) = (accepts_program schema (lets_of q) q.body [] ≡ true) × ((trees : Trees) → ¬ ProgramOverflows trees [] [] (lets_of q) q.body)
IsSafeQuery schema _ = ⊥

-- the text is one such query of the tables, without parameters
abbrev pub IsTableQuery : Schema → List ℕ → Result Compiled CompileError → Type 0
IsTableQuery schema text (Ok c) =
    (reads_listing schema text ≡ false) × (c.tail ≡ length text) × (c.names ≡ []) × (c.returning ≡ None) × (c.formats ≡ []) × IsSafeQuery schema c.command
IsTableQuery schema text (Err e) = ⊥

-- the database may refuse, or the text shows as many rows as are counted
abbrev pub IsStopped : State → State → List ℕ → Type 0
IsStopped old new text = MayRefuse old new ⊎ (IsUnchanged old new × (rows : List Row) × Begins text [] new rows × (18446744073709551615 ≤ length rows))

abbrev pub TestsForCause : {S A : Type 0} → Ghosts S → Held S → Held S → List ℕ → Result A StoreFault → Type 0
TestsForCause g old new text result =
    HasCleanDisk (state g new) → IsTableQuery (state g old).now.schema text (understood (state g old).now.schema text) →
    IfErr result (λ fault. fault ≡ Store → IsStopped (state g old) (state g new) text)

-- ---- one row after the other

-- with one more row
abbrev pub PassesOneMore : (List Row → Type 0) → (List Row → Type 0) → Row → Type 0
PassesOneMore Old New row = (rows : List Row) → Old rows → New (rows ++ row ∷ [])

-- the fault `Schema` says that no table of a store goes on with this row
abbrev pub SchemaBreaksForm : {A : Type 0} → (List Row → Type 0) → (List Row → Type 0) → Row → Result A StoreFault → Type 0
SchemaBreaksForm Passed AreFormed row result = result ≡ Err NotOurs → (rows later : List Row) → Passed rows → AreFormed (rows ++ row ∷ later) → ⊥

abbrev pub HoldsAlike : (List Row → Type 0) → (List Row → Type 0) → Type 0
HoldsAlike One Other = (rows : List Row) → One rows ↔ Other rows

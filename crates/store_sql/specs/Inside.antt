-- What a call does inside a transaction. What is said of the database holds if the disk has returned what was written.
use Rattle.std.specs.Prelude.{◌≡◌, ℕ, Result, IfOk, OnOk, OnErr, IsTrue}
use Rattle.std.specs.Global.{Vec}
use Rattle.sqlite_trees.specs.declared.store.Store.{Ghosts}
use Rattle.sqlite.specs.declared.error.Error.{Error}
use Rattle.sqlite.specs.declared.transaction.Transaction.{Transaction}
use Rattle.sqlite.specs.Held.{state}
use Rattle.sqlite.specs.Order.{Row}
use Rattle.sqlite.specs.State.{State, HasCleanDisk, KeepsCommit, Shown, ExecutesInside}
use Rattle.store_sql.specs.Bindings.{SqlStatement}

-- the state of the connection that the transaction is on
abbrev pub inside : {S : Type 0} → Ghosts S → Transaction S → State
inside g tx = state g tx.conn.now

-- the transaction has begun
abbrev pub IsInTransaction : {S : Type 0} → Ghosts S → Transaction S → Type 0
IsInTransaction g tx = HasCleanDisk (inside g tx) → IsTrue (inside g tx).in_transaction

-- the transaction stays on its connection
abbrev pub KeepsReference : {S : Type 0} → Transaction S → Transaction S → Type 0
KeepsReference old new = new.conn.ghost_name ≡ old.conn.ghost_name

-- the statement runs, in a transaction that has begun
abbrev pub RunsIn : {S : Type 0} → Ghosts S → Transaction S → Transaction S → SqlStatement → Result ℕ Error → Type 0
RunsIn g old new statement result =
    HasCleanDisk (inside g new) → IsTrue (inside g old).in_transaction → ExecutesInside 0 statement.text statement.params (inside g old) (inside g new) result

-- the rows are those that the query shows
abbrev pub SelectsIn : {S : Type 0} → Ghosts S → Transaction S → Transaction S → SqlStatement → Result (Vec Row) Error → Type 0
SelectsIn g old new query result =
    HasCleanDisk (inside g new) → IfOk result (λ rows. Shown query.text query.params (inside g old) (inside g new) rows.items)

-- after an error the last commit is as it was
abbrev pub KeepsCommitOnError : {S A E : Type 0} → Ghosts S → Transaction S → Transaction S → Result A E → Type 0
KeepsCommitOnError g old new result = HasCleanDisk (inside g new) → OnErr result (KeepsCommit (inside g old) (inside g new))

-- no call on a connection that is shut succeeds
abbrev pub SucceedsOnlyIfOpen : {S A E : Type 0} → Ghosts S → Transaction S → Transaction S → Result A E → Type 0
SucceedsOnlyIfOpen g old new result = HasCleanDisk (inside g new) → OnOk result (IsTrue (inside g old).is_open)

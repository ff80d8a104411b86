-- Why a run does not reach its end, and what is left then.
use Rattle.std.specs.Prelude.{◌≡◌, ◌≢◌, ℕ, true, List, [], Some, Result, IsTrue, slice_get, take}
use Rattle.sqlite_disk.specs.declared.Disk.{Ghosts}
use Rattle.sqlite_disk.specs.declared.Files.{Files}
use Rattle.sqlite_store.specs.FileStore.{recovers, view}
use Rattle.sqlite_store.specs.declared.store.FileStore.{FileStore}
use Rattle.sqlite_trees.specs.Tree.{Trees}
use Rattle.sqlite_trees.specs.View.{IsClean}
use Rattle.sqlite.specs.Closing.{HoldsAlone}
use Rattle.sqlite.specs.Files.{IsCleanLeft, LeavesFiles, file_state, image_of}
use Rattle.sqlite.specs.Recovery.{Image}
use Rattle.sqlite.specs.State.{State, HasCleanDisk}
use Rattle.sqlite.specs.WalFiles.{outcomes}
use Rattle.sqlite.specs.WalReads.{AreClean}
use Rattle.sqlite.specs.declared.file.Leftover.{Leftover}
use Rattle.statements_facts.specs.declared.profile.Profile.{Profile}
use Rattle.statements_facts.specs.Statement.{Holdings}
use Rattle.statements_facts.specs.declared.counts.Counts.{Counts}
use Rattle.store_sql.specs.declared.fault.StoreFault.TheVariants.{Schema as NotOurs}
use Rattle.store_maps.specs.Held.{AreTreesOf, IsStoreOf}
use Rattle.store.specs.declared.refusal.Refused.{Refused}
use Rattle.store.specs.declared.refusal.ReopenFault.{ReopenFault}
use Rattle.store.specs.declared.refusal.ReopenFault.TheVariants.{Close, Open, Adopt}
use Rattle.path.specs.Query.{Accepts}
use Rattle.relying_agreement.specs.Run.{Event}
use Rattle.relying.specs.declared.fault.DeliverFault.{DeliverFault}
use Rattle.relying.specs.declared.fault.RunFault.{RunFault}
use Rattle.relying.specs.declared.fault.RunFault.TheVariants.{NoRoom, Restart}
use Rattle.relying.specs.declared.node.Node.{Node}
use Rattle.relying.specs.Leaving.{RunMayLeave}
use Rattle.relying.specs.Run.{AreAnswersTo, IsOpenAtRestarts, Runs}
use Rattle.relying.specs.View.{stored}

-- the events ran so, over an open connection and one that stayed open, and this is so of what is held then
pub record RanTo (profile : Profile) (accepts : Accepts) (events : List Event) (answers : List (Result Counts DeliverFault)) (old : State)
    (Is : Holdings → Type 0) : Type 0 where
  pub opened : IsOpenAtRestarts events old.is_open true
  pub ran : (start : Holdings) → IsStoreOf old.now start → (held : Holdings) × Runs profile accepts events answers start held × Is held

-- the files of a close hold this, as they read now and after a crash
pub record HoldStore {D : Type 0} (g : Ghosts D) (files : Files D) (held : Holdings) : Type 0 where
  pub trees : Trees
  pub are : AreTreesOf held trees
  pub seen : HoldsAlone (image_of g files) trees
  pub left : (image : Image) → outcomes g files.log files.db image → HoldsAlone image trees

module _ {D : Type 0} {g : Ghosts D} (profile : Profile) (accepts : Accepts) (events : List Event) (answers : List (Result Counts DeliverFault))
    (old : State) where
  -- what was not closed leaves after a crash what the events may leave
  abbrev pub LeavesUnclosed : FileStore D g → Type 0
  LeavesUnclosed left =
      IsClean (view left) → (start : Holdings) → IsStoreOf old.now start →
      (trees : Trees) → recovers left trees → RunMayLeave profile accepts events answers start old.may_leave trees

  -- what was not opened are the files of a close, unharmed, which hold what is held after the events
  pub record LeavesUnopened (left : Leftover D g) : Type 0 where
    pub files : Files D
    pub ran : AreClean g files.log files.db → RanTo profile accepts events answers old (HoldStore g files)
    pub unharmed : IsCleanLeft left → LeavesFiles files left

  -- a connection that was not taken for a store is one while it is open, and holds what is held after the events
  abbrev pub LeavesRefused : Refused D g → Type 0
  LeavesRefused refused =
      HasCleanDisk (file_state refused.conn) → RanTo profile accepts events answers old (λ held.
      (refused.fault ≢ NotOurs) × (IsTrue (file_state refused.conn).is_open → IsStoreOf (file_state refused.conn).now held))

  -- what is left of the store if a restart fails after these events
  abbrev pub LeavesAtRestart : ReopenFault D g → Type 0
  LeavesAtRestart (Close fault left) = (fault ≢ NotOurs) × LeavesUnclosed left
  LeavesAtRestart (Open fault left) = (fault ≢ NotOurs) × LeavesUnopened left
  LeavesAtRestart (Adopt refused) = LeavesRefused refused

-- A restart fails after so many events. The deliveries among these were answered so, and what they left is still there.
pub record StopsAtRestart {D : Type 0} {g : Ghosts D} (profile : Profile) (accepts : Accepts) (events : List Event) (done : ℕ)
    (answers : List (Result Counts DeliverFault)) (old : State) (fault : ReopenFault D g) : Type 0 where
  pub at : slice_get events done ≡ Some Event.Restart
  pub answered : AreAnswersTo profile accepts (take done events) answers
  pub leaves : LeavesAtRestart profile accepts (take done events) answers old fault

-- there was no room for the answers, and the party is as it was; or a restart fails
abbrev pub RunStops : {V D : Type 0} {g : Ghosts D} → Profile → Accepts → Node V D g → List Event → List (Result Counts DeliverFault) → RunFault V D g → Type 0
RunStops profile accepts node events answers (NoRoom left) = (left ≡ node) × (answers ≡ [])
RunStops profile accepts node events answers (Restart done fault) = StopsAtRestart profile accepts events done answers (stored node) fault

-- the same with the answers, which are not handed out
abbrev pub RunFails : {V D : Type 0} {g : Ghosts D} → Profile → Accepts → Node V D g → List Event → RunFault V D g → Type 0
RunFails profile accepts node events fault = (answers : List (Result Counts DeliverFault)) × RunStops profile accepts node events answers fault

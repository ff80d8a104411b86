-- What is left where a restart fails.
use Rattle.std.proofs.Common.{List, Result, IsTrue, arith, sym, ap, subst}
use Rattle.sqlite_disk.specs.declared.Disk.{Ghosts}
use Rattle.sqlite_store.specs.declared.store.FileStore.{FileStore}
use Rattle.sqlite.specs.Effect.{Database}
use Rattle.sqlite.specs.Files.{IsClosed, file_state}
use Rattle.sqlite.specs.Held.{Held}
use Rattle.sqlite.specs.State.{State, HasCleanDisk}
use Rattle.sqlite.specs.declared.file.Leftover.{Leftover}
use Rattle.statements_facts.specs.declared.profile.Profile.{Profile}
use Rattle.statements_facts.specs.Statement.{Holdings}
use Rattle.statements_facts.specs.declared.counts.Counts.{Counts}
use Rattle.store_maps.proofs.HeldLaws.{trees_of}
use Rattle.store_maps.specs.Held.{IsStoreOf}
use Rattle.store_adoption.specs.Creates.{IsSettled}
use Rattle.store.specs.Opens.{AdoptsAgainForCause, FailsToReopen, LeavesClosed, ReopensForCause, StillHolds}
use Rattle.store.specs.declared.refusal.Refused.{Refused}
use Rattle.store.specs.declared.refusal.ReopenFault.{ReopenFault}
use Rattle.store.specs.declared.refusal.ReopenFault.TheVariants.{Close, Open, Adopt}
use Rattle.path.specs.Query.{Accepts}
use Rattle.relying_agreement.specs.Run.{Event}
use Rattle.relying.specs.declared.fault.DeliverFault.{DeliverFault}
use Rattle.relying.specs.Leaving.{LeavesSoFar}
use Rattle.relying.specs.Run.{IsOpenAtRestarts, RanSoFar}
use Rattle.relying.specs.Stopping.{HoldStore, LeavesAtRestart, LeavesRefused, LeavesUnclosed, LeavesUnopened, RanTo}

module _ {D : Type 0} {g : Ghosts D} (profile : Profile) (accepts : Accepts) (events : List Event) (answers : List (Result Counts DeliverFault)) (old : State) (last : Held (FileStore D g))
    (ran : HasCleanDisk (file_state last) → RanSoFar profile accepts events answers old (file_state last))
    (leaves : HasCleanDisk (file_state last) → LeavesSoFar profile accepts events answers old (file_state last)) (settled : IsSettled (file_state last)) where
  -- over an open connection, and this is so of what it held
  ran_to : (Is : Holdings → Type 0) → HasCleanDisk (file_state last) → IsTrue (file_state last).is_open → ((held : Holdings) → IsStoreOf (file_state last).now held → Is held)
      → RanTo profile accepts events answers old Is
  ran_to Is clean live is = record {
    opened = subst (IsOpenAtRestarts events old.is_open) live (ran clean).at_restarts;
    ran = λ start store. let (held, here, runs) = (ran clean).so_far live start store in (held, runs, is held here);
  }

  unclosed : (left : FileStore D g) → IsClosed last left → LeavesUnclosed profile accepts events answers old left
  unclosed left closed clean start store trees may =
      let before : HasCleanDisk (file_state last) = let step = closed.quiet.clean in omega (arith, step, clean) in
      leaves before start (λ _. store) trees (closed.quiet.outcomes trees may)

  unopened : (left : Leftover D g) → LeavesClosed last left → LeavesUnopened profile accepts events answers old left
  unopened left closed = record {
    files = closed.files;
    ran = λ honest. let copied = closed.copied honest in ran_to (HoldStore g closed.files) copied.was_clean copied.was_open (λ held here. record {
      trees = (file_state last).committed.trees;
      are = trees_of held (file_state last).now (file_state last).committed.trees (ap (λ (db : Database). db.trees) (sym (settled copied.was_open))) here;
      seen = copied.seen;
      left = copied.left;
    });
    unharmed = closed.unharmed;
  }

  refused_so : (refused : Refused D g) → (HasCleanDisk (file_state refused.conn) → AdoptsAgainForCause last refused) → StillHolds last refused → LeavesRefused profile accepts events answers old refused
  refused_so refused cause holds clean =
      let again = cause clean in
      let copied = again.copied again.found.honest in
      ran_to _ copied.was_clean copied.was_open (λ held here. holds clean held here)

  pub left_at_restart : (fault : ReopenFault D g) → FailsToReopen last fault → ReopensForCause last fault → LeavesAtRestart profile accepts events answers old fault
  left_at_restart (Close fault left) fails cause = (fails.0, unclosed left fails.1)
  left_at_restart (Open fault left) fails cause = (fails.0, unopened left fails.1)
  left_at_restart (Adopt refused) fails cause = refused_so refused cause fails

-- What a crash may leave of a run: stores, each with all of the first deliveries, and of none a part.
use Rattle.std.specs.Prelude.{◌⊎◌, ℕ, List, [], ◌∷◌, Result, Ok, Err, IsTrue}
use Rattle.sqlite.specs.State.{State, HasCleanDisk}
use Rattle.sqlite_trees.specs.Tree.{Trees}
use Rattle.statements_facts.specs.declared.profile.Profile.{Profile}
use Rattle.statements_facts.specs.Statement.{Holdings}
use Rattle.statements_facts.specs.declared.counts.Counts.{Counts}
use Rattle.statements_facts.specs.Coming.{after_all}
use Rattle.store_maps.specs.Held.{IsStoreOf, AreTreesOf}
use Rattle.path.specs.Query.{Accepts}
use Rattle.relying_agreement.specs.Run.{Event, genuine_facts}
use Rattle.relying.specs.declared.fault.DeliverFault.{DeliverFault}
use Rattle.relying.specs.declared.fault.DeliverFault.TheVariants.{Store}

-- what is held after a delivery that was taken
abbrev pub held_with : Profile → Accepts → List ℕ → List ℕ → Holdings → Holdings
held_with profile accepts issuer statement held = after_all held (genuine_facts profile accepts issuer statement)

-- What a crash may leave after these events, at a party that held this, where a crash before could leave that. A restart and a delivery
-- that was taken leave what is held. One that the store did not take may have been written, as a whole; one that was refused was not.
abbrev pub RunMayLeave : Profile → Accepts → List Event → List (Result Counts DeliverFault) → Holdings → (Trees → Type 0) → Trees → Type 0
RunMayLeave profile accepts [] answers held before trees = before trees
RunMayLeave profile accepts (Event.Restart ∷ events) answers held before trees = RunMayLeave profile accepts events answers held (AreTreesOf held) trees
RunMayLeave profile accepts (Event.Deliver issuer statement ∷ events) [] held before trees = ⊥
RunMayLeave profile accepts (Event.Deliver issuer statement ∷ events) (Ok counts ∷ answers) held before trees =
    RunMayLeave profile accepts events answers (held_with profile accepts issuer statement held)
    (AreTreesOf (held_with profile accepts issuer statement held)) trees
RunMayLeave profile accepts (Event.Deliver issuer statement ∷ events) (Err (Store fault) ∷ answers) held before trees =
    RunMayLeave profile accepts events answers held (λ left. before left ⊎ AreTreesOf (held_with profile accepts issuer statement held) left) trees
RunMayLeave profile accepts (Event.Deliver issuer statement ∷ events) (Err fault ∷ answers) held before trees =
    RunMayLeave profile accepts events answers held before trees

-- the same of the states before and after, where this was held if the connection was open
abbrev pub LeavesSoFar : Profile → Accepts → List Event → List (Result Counts DeliverFault) → State → State → Type 0
LeavesSoFar profile accepts events answers old new =
    (start : Holdings) → (IsTrue old.is_open → IsStoreOf old.now start) →
    (trees : Trees) → new.may_leave trees → RunMayLeave profile accepts events answers start old.may_leave trees

-- and of a run over a store, if the disk returned what was written
abbrev pub RunSurvives : Profile → Accepts → List Event → List (Result Counts DeliverFault) → State → State → Type 0
RunSurvives profile accepts events answers old new =
    HasCleanDisk new → (start : Holdings) → IsStoreOf old.now start →
    (trees : Trees) → new.may_leave trees → RunMayLeave profile accepts events answers start old.may_leave trees

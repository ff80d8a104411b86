-- What a party finds behind a crash.
use Rattle.std.specs.Prelude.{List, [], ◌∷◌, Result, Ok, Err, IsTrue}
use Rattle.sqlite_disk.specs.declared.Disk.{Ghosts}
use Rattle.sqlite_wal.specs.Recovery.{Image}
use Rattle.sqlite_store.specs.declared.store.FileStore.{FileStore}
use Rattle.sqlite.specs.Held.{Held}
use Rattle.sqlite.specs.Files.{file_state}
use Rattle.sqlite.specs.State.{HasCleanDisk}
use Rattle.statements_facts.specs.declared.profile.Profile.{Profile}
use Rattle.statements_facts.specs.Statement.{Holdings}
use Rattle.statements_facts.specs.declared.counts.Counts.{Counts}
use Rattle.store_maps.specs.Held.{IsStoreOf}
use Rattle.store_sql.specs.Statements.{IsDurable}
use Rattle.store_adoption.specs.Creates.{IsSettled}
use Rattle.store.specs.Opens.{IsTakenFrom}
use Rattle.store.specs.Crash.{IsLeftByCrash, IsOneOf}
use Rattle.path.specs.Query.{Accepts}
use Rattle.relying_agreement.specs.Run.{Event}
use Rattle.relying.specs.Leaving.{RunSurvives, held_with}
use Rattle.relying.specs.View.{stored}
use Rattle.relying.specs.declared.fault.DeliverFault.{DeliverFault}
use Rattle.relying.specs.declared.fault.DeliverFault.TheVariants.{Store}
use Rattle.relying.specs.declared.node.Node.{Node}

-- What a store may hold that a crash leaves after these events, at a party that held this, where a crash before could leave those: all of
-- the deliveries that were taken, and each that the store did not take as a whole or not at all.
abbrev pub left_by_run : Profile → Accepts → List Event → List (Result Counts DeliverFault) → Holdings → List Holdings → List Holdings
left_by_run profile accepts [] answers held before = before
left_by_run profile accepts (Event.Restart ∷ events) answers held before = left_by_run profile accepts events answers held (held ∷ [])
left_by_run profile accepts (Event.Deliver issuer statement ∷ events) [] held before = []
left_by_run profile accepts (Event.Deliver issuer statement ∷ events) (Ok counts ∷ answers) held before =
    left_by_run profile accepts events answers (held_with profile accepts issuer statement held) (held_with profile accepts issuer statement held ∷ [])
left_by_run profile accepts (Event.Deliver issuer statement ∷ events) (Err (Store fault) ∷ answers) held before =
    left_by_run profile accepts events answers held (held_with profile accepts issuer statement held ∷ before)
left_by_run profile accepts (Event.Deliver issuer statement ∷ events) (Err fault ∷ answers) held before = left_by_run profile accepts events answers held before

-- A node at rest, whose store held this, came through the events, with these answers, and crashed; the store that is taken from the files,
-- under whatever profile it is taken, holds one of those. So the next node begins with a store that holds it.
abbrev pub NodeSurvivesCrash : (V D : Type 0) → Ghosts D → (E : Type 0) → Ghosts E → Type 0
NodeSurvivesCrash V D g E h =
    (profile : Profile) (accepts : Accepts) (events : List Event) (answers : List (Result Counts DeliverFault)) (start : Holdings) (begun ran : Node V D g)
    (taken : Profile) (image : Image) (store : Held (FileStore E h)) →
    IsTrue (stored begun).is_open → IsSettled (stored begun) → IsDurable (stored begun) → IsStoreOf (stored begun).now start →
    RunSurvives profile accepts events answers (stored begun) (stored ran) →
    IsLeftByCrash ran.store.conn image → IsTakenFrom taken image store → HasCleanDisk (file_state store) →
    ∥ IsOneOf (λ held. IsStoreOf (file_state store).now held) (left_by_run profile accepts events answers start (start ∷ [])) ∥₁

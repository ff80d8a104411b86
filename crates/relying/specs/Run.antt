-- What events do to a relying party, one after the other.
use Rattle.std.specs.Prelude.{◌≡◌, ◌≢◌, ℕ, Bool, true, List, [], ◌∷◌, ◌++◌, map, Result, Ok, Err, IsTrue}
use Rattle.sqlite.specs.State.{State}
use Rattle.statements_facts.specs.declared.profile.Profile.{Profile}
use Rattle.statements_facts.specs.Fact.{Fact}
use Rattle.statements_facts.specs.Statement.{Holdings}
use Rattle.store_sql.specs.declared.fault.StoreFault.TheVariants.{Schema as NotOurs}
use Rattle.store_maps.specs.Held.{IsStoreOf}
use Rattle.statements_facts.specs.declared.counts.Counts.{Counts}
use Rattle.statements_facts.specs.Coming.{after_all, AreCounts}
use Rattle.path.specs.Query.{Accepts}
use Rattle.relying_agreement.specs.Run.{Event, DeliveryAnswer, facts_taken, genuine_facts, HasRun}
use Rattle.relying.specs.declared.events.Event as said
use Rattle.relying.specs.declared.fault.DeliverFault.{DeliverFault}
use Rattle.relying.specs.declared.fault.DeliverFault.TheVariants.{Store}
use Rattle.relying.specs.Delivery.{IsAnswerTo, IsReasonOfFault, StatementSays}
use Rattle.relying.specs.Leaving.{LeavesSoFar}

abbrev pub seen_event : said.Event → Event
seen_event (said.TheVariants.Deliver issuer statement) = Event.Deliver issuer.now statement.now
seen_event said.TheVariants.Restart = Event.Restart

abbrev pub as_answered : Result Counts DeliverFault → DeliveryAnswer
as_answered (Ok counts) = DeliveryAnswer.Taken
as_answered (Err fault) = DeliveryAnswer.Refused

-- A delivery at a party that holds this, its answer, and what is held next: all facts of a genuine statement are taken, and counted
-- so; or nothing is, for the reason that is told, which is never the form of the store's rows.
abbrev pub TakesDelivery : Profile → Accepts → List ℕ → List ℕ → Holdings → Holdings → Result Counts DeliverFault → Type 0
TakesDelivery profile accepts issuer statement held next (Ok counts) =
    (facts : List Fact) × StatementSays profile accepts issuer statement facts × AreCounts held facts counts × (next ≡ after_all held facts)
TakesDelivery profile accepts issuer statement held next (Err fault) =
    IsReasonOfFault profile accepts issuer statement fault × (fault ≢ Store NotOurs) × (next ≡ held)

-- one event after another, with the answers to the deliveries in order; a restart leaves what is held
abbrev pub Runs : Profile → Accepts → List Event → List (Result Counts DeliverFault) → Holdings → Holdings → Type 0
Runs profile accepts [] [] start held = held ≡ start
Runs profile accepts [] (answer ∷ answers) start held = ⊥
Runs profile accepts (Event.Restart ∷ events) answers start held = Runs profile accepts events answers start held
Runs profile accepts (Event.Deliver issuer statement ∷ events) [] start held = ⊥
Runs profile accepts (Event.Deliver issuer statement ∷ events) (answer ∷ answers) start held =
    (next : Holdings) × TakesDelivery profile accepts issuer statement start next answer × Runs profile accepts events answers next held

-- one answer to each delivery in order, whatever the disk did
abbrev pub AreAnswersTo : Profile → Accepts → List Event → List (Result Counts DeliverFault) → Type 0
AreAnswersTo profile accepts [] [] = Unit {0}
AreAnswersTo profile accepts [] (answer ∷ answers) = ⊥
AreAnswersTo profile accepts (Event.Restart ∷ events) answers = AreAnswersTo profile accepts events answers
AreAnswersTo profile accepts (Event.Deliver issuer statement ∷ events) [] = ⊥
AreAnswersTo profile accepts (Event.Deliver issuer statement ∷ events) (answer ∷ answers) =
    IsAnswerTo profile accepts issuer statement answer × AreAnswersTo profile accepts events answers

-- What the store holds after a run is what the events make of what it held before: of each slot the newest of what was held and of
-- what was taken.
pub record IsEndOfRun (profile : Profile) (accepts : Accepts) (events : List Event) (answers : List (Result Counts DeliverFault)) (start : Holdings)
    (new : State) : Type 0 where
  pub held : Holdings
  pub store : IsStoreOf new.now held
  pub runs : Runs profile accepts events answers start held
  pub newest :
      HasRun (genuine_facts profile) events (map as_answered answers)
      (record { accepts = accepts; start = start; taken = facts_taken (genuine_facts profile) accepts events (map as_answered answers); held = held })

-- Whether the connection was open before the events, and after them: each restart was over an open one, and left one that is open; no
-- delivery opens one that is shut.
abbrev pub IsOpenAtRestarts : List Event → Bool → Bool → Type 0
IsOpenAtRestarts [] before after = after ≡ before
IsOpenAtRestarts (Event.Restart ∷ events) before after = IsTrue before × IsOpenAtRestarts events true after
IsOpenAtRestarts (Event.Deliver issuer statement ∷ events) before after =
    (next : Bool) × (IsTrue next → IsTrue before) × IsOpenAtRestarts events next after

-- Where the connection is open in the end it was from the start, and the run has ended so; it was open at each restart.
pub record Ran (profile : Profile) (accepts : Accepts) (events : List Event) (answers : List (Result Counts DeliverFault)) (old new : State) : Type 0 where
  pub was_open : IsTrue new.is_open → IsTrue old.is_open
  pub at_restarts : IsOpenAtRestarts events old.is_open new.is_open
  pub ended : IsTrue new.is_open → (start : Holdings) → IsStoreOf old.now start → IsEndOfRun profile accepts events answers start new

-- ---- on the way

-- the same of the events so far
pub record RanSoFar (profile : Profile) (accepts : Accepts) (events : List Event) (answers : List (Result Counts DeliverFault)) (old new : State) : Type 0 where
  pub was_open : IsTrue new.is_open → IsTrue old.is_open
  pub at_restarts : IsOpenAtRestarts events old.is_open new.is_open
  pub so_far :
      IsTrue new.is_open → (start : Holdings) → IsStoreOf old.now start →
      (held : Holdings) × IsStoreOf new.now held × Runs profile accepts events answers start held

-- the same of one event, with the answer that it adds, or none
pub record HasHappened (profile : Profile) (accepts : Accepts) (event : Event) (before after : List (Result Counts DeliverFault))
    (old new : State) : Type 0 where
  pub added : List (Result Counts DeliverFault)
  pub after_is : after ≡ before ++ added
  pub ran : RanSoFar profile accepts (event ∷ []) added old new
  pub leaves : LeavesSoFar profile accepts (event ∷ []) added old new

-- what was answered before, and the answer to one event, or none
pub record AddsAnswer (profile : Profile) (accepts : Accepts) (event : Event) (before after : List (Result Counts DeliverFault)) : Type 0 where
  pub added : List (Result Counts DeliverFault)
  pub after_is : after ≡ before ++ added
  pub answers : AreAnswersTo profile accepts (event ∷ []) added

-- ---- laws

-- events that run so have run in the sense of agreement
abbrev pub RunsAreRuns : Type 0
RunsAreRuns =
    (profile : Profile) (accepts : Accepts) (events : List Event) (answers : List (Result Counts DeliverFault)) (start held : Holdings) →
    Runs profile accepts events answers start held →
    HasRun (genuine_facts profile) events (map as_answered answers)
    (record { accepts = accepts; start = start; taken = facts_taken (genuine_facts profile) accepts events (map as_answered answers); held = held })

-- What one event does, and several one after the other.
use Rattle.std.proofs.Common.{◌≡◌, ◌⊎◌, inl, inr, Bool, true, is_ok, if◌then◌else◌, IfOk, IsTrue, ℕ, append-nil, List, [], ◌∷◌, ◌++◌, map, Result, Ok, Err, refl, sym, ap, subst, ◌∙◌}
use Rattle.sqlite.specs.Effect.{Database}
use Rattle.sqlite.specs.State.{State, HasCleanDisk}
use Rattle.sqlite_trees.specs.Tree.{Trees}
use Rattle.statements_facts.specs.declared.profile.Profile.{Profile}
use Rattle.statements_facts.specs.Fact.{Fact}
use Rattle.statements_facts.specs.Statement.{Holdings}
use Rattle.store_sql.specs.declared.fault.StoreFault.TheVariants.{Schema as NotOurs}
use Rattle.store_sql.specs.Statements.{CommitsNothing, IsDurable}
use Rattle.store_adoption.specs.Creates.{IsSettled}
use Rattle.store_maps.specs.Held.{AreTreesOf, IsStoreOf}
use Rattle.store_maps.proofs.HeldLaws.{trees_of}
use Rattle.statements_facts.specs.declared.counts.Counts.{Counts}
use Rattle.statements_facts.specs.Coming.{after_all, HoldsNewest}
use Rattle.statements_facts.proofs.Laws.{holds_newest, takes_both}
use Rattle.path.specs.Query.{Accepts}
use Rattle.relying_agreement.specs.Run.{Event, genuine_facts, facts_taken}
use Rattle.store.specs.Adopts.{Restarts}
use Rattle.relying.specs.declared.fault.DeliverFault.{DeliverFault}
use Rattle.relying.specs.declared.fault.DeliverFault.TheVariants.{Issuer, Statement, Store}
use Rattle.relying.specs.Delivery.{IsAnswerTo, IsDeliveryAnswer, MayCommit}
use Rattle.relying.specs.Leaving.{LeavesSoFar, RunMayLeave, RunSurvives, held_with}
use Rattle.relying.proofs.Delivered.{facts_said}
use Rattle.relying.specs.Run.{Runs, IsOpenAtRestarts, RanSoFar, Ran, HasHappened, RunsAreRuns, AddsAnswer, AreAnswersTo, as_answered}

-- ---- one event

-- what a crash left before, where nothing was committed
left_before : (old new : State) → CommitsNothing old new → HasCleanDisk new → (trees : Trees) → new.may_leave trees → old.may_leave trees
left_before old new nothing clean trees may = elim (nothing.crash clean trees may) [
  | inl before ↦ before
  | inr none ↦ absurd none
]

one_delivery : (profile : Profile) (accepts : Accepts) (issuer statement : List ℕ) (answer : Result Counts DeliverFault) (old new : State)
    → IsDeliveryAnswer profile accepts issuer statement old new answer → RanSoFar profile accepts (Event.Deliver issuer statement ∷ []) (answer ∷ []) old new
one_delivery profile accepts issuer statement (Ok counts) old new (facts, says, it) = record {
  was_open = λ live. it.was_open;
  at_restarts = (new.is_open, λ live. it.was_open, refl);
  so_far = λ live start store. let taken = it.taken start store in (after_all start facts, taken.hold, (after_all start facts, (facts, says, taken.counted, refl), refl));
}
one_delivery profile accepts issuer statement (Err (Issuer fault)) old new (why, kept) = record {
  was_open = kept.was_open;
  at_restarts = (new.is_open, kept.was_open, refl);
  so_far = λ live start store. (start, subst (λ db. IsStoreOf db start) (sym (kept.now_is live)) store, (start, (why, λ e. cc, refl), refl));
}
one_delivery profile accepts issuer statement (Err (Statement fault)) old new (why, kept) = record {
  was_open = kept.was_open;
  at_restarts = (new.is_open, kept.was_open, refl);
  so_far = λ live start store. (start, subst (λ db. IsStoreOf db start) (sym (kept.now_is live)) store, (start, (why, λ e. cc, refl), refl));
}
one_delivery profile accepts issuer statement (Err (Store fault)) old new (why, gives) = record {
  was_open = gives.was_open;
  at_restarts = (new.is_open, gives.was_open, refl);
  so_far = λ live start store. (start, subst (λ db. IsStoreOf db start) (sym (gives.same live)) store, (start, (why, λ e. gives.formed (let same : fault ≡ NotOurs = cc in same) start store, refl), refl));
}

-- and what a crash may leave behind it
delivery_leaves : (profile : Profile) (accepts : Accepts) (issuer statement : List ℕ) (answer : Result Counts DeliverFault) (old new : State) → HasCleanDisk new
    → MayCommit (genuine_facts profile accepts issuer statement) old new answer → IsDeliveryAnswer profile accepts issuer statement old new answer
    → LeavesSoFar profile accepts (Event.Deliver issuer statement ∷ []) (answer ∷ []) old new
delivery_leaves profile accepts issuer statement (Ok counts) old new clean commits (facts, says, it) = λ start store trees may.
    subst (λ (said : List Fact). AreTreesOf (after_all start said) trees) (sym (facts_said profile accepts issuer statement facts says)) (it.durable start (store it.was_open) trees may)
delivery_leaves profile accepts issuer statement (Err (Issuer fault)) old new clean commits is = λ start store trees may. left_before old new commits clean trees may
delivery_leaves profile accepts issuer statement (Err (Statement fault)) old new clean commits is = λ start store trees may. left_before old new commits clean trees may
delivery_leaves profile accepts issuer statement (Err (Store fault)) old new clean commits is = λ start store trees may. elim (commits.crash clean trees may) [
  | inl before ↦ inl before
  | inr whole ↦ inr (whole.1 start (store whole.0))
]

one_restart : (profile : Profile) (accepts : Accepts) (old new : State) → Restarts old new → RanSoFar profile accepts (Event.Restart ∷ []) [] old new
one_restart profile accepts old new it = record { was_open = λ live. it.was_open; at_restarts = (it.was_open, it.is_open); so_far = λ live start store. (start, it.holds start store, refl) }

-- a restart leaves what is held, since that is committed
restart_leaves : (profile : Profile) (accepts : Accepts) (old new : State) → IsSettled new → IsDurable new → Restarts old new → LeavesSoFar profile accepts (Event.Restart ∷ []) [] old new
restart_leaves profile accepts old new settled durable it = λ start store trees may.
    trees_of start new.now trees (durable it.is_open trees may ∙ ap (λ (db : Database). db.trees) (sym (settled it.is_open))) (it.holds start (store it.was_open))

-- ---- one after the other

pub runs_then : (profile : Profile) (accepts : Accepts) (xs ys : List Event) (told bs : List (Result Counts DeliverFault)) (start middle held : Holdings)
    → Runs profile accepts xs told start middle → Runs profile accepts ys bs middle held → Runs profile accepts (xs ++ ys) (told ++ bs) start held
runs_then profile accepts [] ys [] bs start middle held same rest = subst (λ h. Runs profile accepts ys bs h held) same rest
runs_then profile accepts [] ys (a ∷ told) bs start middle held none rest = absurd none
runs_then profile accepts (Event.Restart ∷ xs) ys told bs start middle held first rest = runs_then profile accepts xs ys told bs start middle held first rest
runs_then profile accepts (Event.Deliver issuer statement ∷ xs) ys [] bs start middle held none rest = absurd none
runs_then profile accepts (Event.Deliver issuer statement ∷ xs) ys (a ∷ told) bs start middle held (next, takes, more) rest =
    (next, takes, runs_then profile accepts xs ys told bs next middle held more rest)

pub answers_then : (profile : Profile) (accepts : Accepts) (xs ys : List Event) (told bs : List (Result Counts DeliverFault)) → AreAnswersTo profile accepts xs told → AreAnswersTo profile accepts ys bs → AreAnswersTo profile accepts (xs ++ ys) (told ++ bs)
answers_then profile accepts [] ys [] bs none rest = rest
answers_then profile accepts [] ys (a ∷ told) bs none rest = absurd none
answers_then profile accepts (Event.Restart ∷ xs) ys told bs first rest = answers_then profile accepts xs ys told bs first rest
answers_then profile accepts (Event.Deliver issuer statement ∷ xs) ys [] bs none rest = absurd none
answers_then profile accepts (Event.Deliver issuer statement ∷ xs) ys (a ∷ told) bs (one, more) rest = (one, answers_then profile accepts xs ys told bs more rest)

pub one_more_answered : (profile : Profile) (accepts : Accepts) (events : List Event) (event : Event) (before after : List (Result Counts DeliverFault))
    → AreAnswersTo profile accepts events before → AddsAnswer profile accepts event before after → AreAnswersTo profile accepts (events ++ event ∷ []) after
one_more_answered profile accepts events event before after told it =
    subst (AreAnswersTo profile accepts (events ++ event ∷ [])) (sym it.after_is) (answers_then profile accepts events (event ∷ []) before it.added told it.answers)

pub open_then : (xs ys : List Event) (before middle after : Bool) → IsOpenAtRestarts xs before middle → IsOpenAtRestarts ys middle after → IsOpenAtRestarts (xs ++ ys) before after
open_then [] ys before middle after same rest = subst (λ b. IsOpenAtRestarts ys b after) same rest
open_then (Event.Restart ∷ xs) ys before middle after (was, more) rest = (was, open_then xs ys true middle after more rest)
open_then (Event.Deliver issuer statement ∷ xs) ys before middle after (next, was, more) rest = (next, was, open_then xs ys next middle after more rest)

pub none_so_far : (profile : Profile) (accepts : Accepts) (s : State) → RanSoFar profile accepts [] [] s s
none_so_far profile accepts s = record { was_open = λ live. live; at_restarts = refl; so_far = λ live start store. (start, store, refl) }

pub leaves_none : (profile : Profile) (accepts : Accepts) (s : State) → LeavesSoFar profile accepts [] [] s s
leaves_none profile accepts s = λ start store trees may. may

-- what is held after a run is what its answers say
abbrev held_by : Profile → Accepts → List Event → List (Result Counts DeliverFault) → Holdings → Holdings
held_by profile accepts [] answers held = held
held_by profile accepts (Event.Restart ∷ events) answers held = held_by profile accepts events answers held
held_by profile accepts (Event.Deliver issuer statement ∷ events) [] held = held
held_by profile accepts (Event.Deliver issuer statement ∷ events) (Ok counts ∷ answers) held = held_by profile accepts events answers (held_with profile accepts issuer statement held)
held_by profile accepts (Event.Deliver issuer statement ∷ events) (Err fault ∷ answers) held = held_by profile accepts events answers held

runs_hold : (profile : Profile) (accepts : Accepts) (events : List Event) (answers : List (Result Counts DeliverFault)) (start held : Holdings)
    → Runs profile accepts events answers start held → held ≡ held_by profile accepts events answers start
runs_hold profile accepts [] [] start held same = same
runs_hold profile accepts [] (a ∷ told) start held none = absurd none
runs_hold profile accepts (Event.Restart ∷ events) told start held rest = runs_hold profile accepts events told start held rest
runs_hold profile accepts (Event.Deliver issuer statement ∷ events) [] start held none = absurd none
runs_hold profile accepts (Event.Deliver issuer statement ∷ events) (Ok counts ∷ told) start held (next, (facts, says, counted, is), rest) =
    runs_hold profile accepts events told next held rest ∙ ap (held_by profile accepts events told) (is ∙ ap (after_all start) (sym (facts_said profile accepts issuer statement facts says)))
runs_hold profile accepts (Event.Deliver issuer statement ∷ events) (Err fault ∷ told) start held (next, (why, formed, is), rest) =
    runs_hold profile accepts events told next held rest ∙ ap (held_by profile accepts events told) is

-- where a crash may leave more before, it may leave that after
leaves_more : (profile : Profile) (accepts : Accepts) (events : List Event) (answers : List (Result Counts DeliverFault)) (held : Holdings) (less more : Trees → Type 0) → ((trees : Trees) → less trees → more trees)
    → (trees : Trees) → RunMayLeave profile accepts events answers held less trees → RunMayLeave profile accepts events answers held more trees
leaves_more profile accepts [] told held less more wider trees left = wider trees left
leaves_more profile accepts (Event.Restart ∷ events) told held less more wider trees left = left
leaves_more profile accepts (Event.Deliver issuer statement ∷ events) [] held less more wider trees left = absurd left
leaves_more profile accepts (Event.Deliver issuer statement ∷ events) (Ok counts ∷ told) held less more wider trees left = left
leaves_more profile accepts (Event.Deliver issuer statement ∷ events) (Err (Issuer fault) ∷ told) held less more wider trees left = leaves_more profile accepts events told held less more wider trees left
leaves_more profile accepts (Event.Deliver issuer statement ∷ events) (Err (Statement fault) ∷ told) held less more wider trees left = leaves_more profile accepts events told held less more wider trees left
leaves_more profile accepts (Event.Deliver issuer statement ∷ events) (Err (Store fault) ∷ told) held less more wider trees left =
    let Whole = AreTreesOf (held_with profile accepts issuer statement held) in
    leaves_more profile accepts events told held (λ x. less x ⊎ Whole x) (λ x. more x ⊎ Whole x) (λ x either. elim either [
      | inl before ↦ inl (wider x before)
      | inr whole ↦ inr whole
    ]) trees left

leaves_then : (profile : Profile) (accepts : Accepts) (xs ys : List Event) (told bs : List (Result Counts DeliverFault)) (start : Holdings) (before : Trees → Type 0) (trees : Trees) → AreAnswersTo profile accepts xs told
    → RunMayLeave profile accepts ys bs (held_by profile accepts xs told start) (RunMayLeave profile accepts xs told start before) trees → RunMayLeave profile accepts (xs ++ ys) (told ++ bs) start before trees
leaves_then profile accepts [] ys [] bs start before trees none left = left
leaves_then profile accepts [] ys (a ∷ told) bs start before trees none left = absurd none
leaves_then profile accepts (Event.Restart ∷ xs) ys told bs start before trees answered left = leaves_then profile accepts xs ys told bs start (AreTreesOf start) trees answered left
leaves_then profile accepts (Event.Deliver issuer statement ∷ xs) ys [] bs start before trees none left = absurd none
leaves_then profile accepts (Event.Deliver issuer statement ∷ xs) ys (Ok counts ∷ told) bs start before trees answered left =
    let next = held_with profile accepts issuer statement start in leaves_then profile accepts xs ys told bs next (AreTreesOf next) trees answered.1 left
leaves_then profile accepts (Event.Deliver issuer statement ∷ xs) ys (Err (Issuer fault) ∷ told) bs start before trees answered left = leaves_then profile accepts xs ys told bs start before trees answered.1 left
leaves_then profile accepts (Event.Deliver issuer statement ∷ xs) ys (Err (Statement fault) ∷ told) bs start before trees answered left = leaves_then profile accepts xs ys told bs start before trees answered.1 left
leaves_then profile accepts (Event.Deliver issuer statement ∷ xs) ys (Err (Store fault) ∷ told) bs start before trees answered left =
    leaves_then profile accepts xs ys told bs start (λ x. before x ⊎ AreTreesOf (held_with profile accepts issuer statement start) x) trees answered.1 left

pub one_more : (profile : Profile) (accepts : Accepts) (events : List Event) (event : Event) (before after : List (Result Counts DeliverFault)) (first mid new : State)
    → RanSoFar profile accepts events before first mid → HasHappened profile accepts event before after mid new → RanSoFar profile accepts (events ++ event ∷ []) after first new
one_more profile accepts events event before after first mid new ran it = subst (λ told. RanSoFar profile accepts (events ++ event ∷ []) told first new) (sym it.after_is) (record {
  was_open = λ live. ran.was_open (it.ran.was_open live);
  at_restarts = open_then events (event ∷ []) first.is_open mid.is_open new.is_open ran.at_restarts it.ran.at_restarts;
  so_far = λ live start store.
      let (middle, here, runs) = ran.so_far (it.ran.was_open live) start store in
      let (held, there, more) = it.ran.so_far live middle here in
      (held, there, runs_then profile accepts events (event ∷ []) before it.added start middle held runs more);
})

pub leaves_one_more : (profile : Profile) (accepts : Accepts) (events : List Event) (event : Event) (before after : List (Result Counts DeliverFault)) (first mid new : State) → AreAnswersTo profile accepts events before
    → RanSoFar profile accepts events before first mid → LeavesSoFar profile accepts events before first mid → HasHappened profile accepts event before after mid new → LeavesSoFar profile accepts (events ++ event ∷ []) after first new
leaves_one_more profile accepts events event before after first mid new answered ran leaves it start store trees may =
    let there = held_by profile accepts events before start in
    let at_mid : IsTrue mid.is_open → IsStoreOf mid.now there = (λ live.
    let (middle, here, runs) = ran.so_far live start (store (ran.was_open live)) in
    subst (IsStoreOf mid.now) (runs_hold profile accepts events before start middle runs) here) in
    subst (λ told. RunMayLeave profile accepts (events ++ event ∷ []) told start first.may_leave trees) (sym it.after_is)
    (leaves_then profile accepts events (event ∷ []) before it.added start first.may_leave trees answered
    (leaves_more profile accepts (event ∷ []) it.added there mid.may_leave (RunMayLeave profile accepts events before start first.may_leave) (leaves start store) trees (it.leaves there at_mid trees may)))

-- ---- runs of events are runs

runs_take : (profile : Profile) (accepts : Accepts) (events : List Event) (answers : List (Result Counts DeliverFault)) (start held : Holdings)
    → Runs profile accepts events answers start held → held ≡ after_all start (facts_taken (genuine_facts profile) accepts events (map as_answered answers))
runs_take profile accepts [] [] start held same = same
runs_take profile accepts [] (a ∷ told) start held none = absurd none
runs_take profile accepts (Event.Restart ∷ events) told start held rest = runs_take profile accepts events told start held rest
runs_take profile accepts (Event.Deliver issuer statement ∷ events) [] start held none = absurd none
runs_take profile accepts (Event.Deliver issuer statement ∷ events) (Ok counts ∷ told) start held (next, (facts, says, counted, is), rest) =
    let later = facts_taken (genuine_facts profile) accepts events (map as_answered told) in
    runs_take profile accepts events told next held rest
    ∙ ap (λ h. after_all h later) (is ∙ ap (after_all start) (sym (facts_said profile accepts issuer statement facts says)))
    ∙ takes_both start (genuine_facts profile accepts issuer statement) later
runs_take profile accepts (Event.Deliver issuer statement ∷ events) (Err fault ∷ told) start held (next, (why, formed, is), rest) =
    runs_take profile accepts events told next held rest ∙ ap (λ h. after_all h (facts_taken (genuine_facts profile) accepts events (map as_answered told))) is

pub runs_are_runs : RunsAreRuns
runs_are_runs profile accepts events answers start held runs =
    let taken = facts_taken (genuine_facts profile) accepts events (map as_answered answers) in
    record { taken = refl; newest = subst (HoldsNewest start taken) (sym (runs_take profile accepts events answers start held runs)) (holds_newest start taken) }

pub ends : (profile : Profile) (accepts : Accepts) (events : List Event) (answers : List (Result Counts DeliverFault)) (old new : State) → RanSoFar profile accepts events answers old new → Ran profile accepts events answers old new
ends profile accepts events answers old new ran = record {
  was_open = ran.was_open;
  at_restarts = ran.at_restarts;
  ended = λ live start store.
      let (held, here, runs) = ran.so_far live start store in
      record { held = held; store = here; runs = runs; newest = runs_are_runs profile accepts events answers start held runs };
}

pub survives : (profile : Profile) (accepts : Accepts) (events : List Event) (answers : List (Result Counts DeliverFault)) (old new : State)
    → (HasCleanDisk new → LeavesSoFar profile accepts events answers old new) → RunSurvives profile accepts events answers old new
survives profile accepts events answers old new leaves clean start store trees may = leaves clean start (λ _. store) trees may

pub delivery_ran : (profile : Profile) (accepts : Accepts) (issuer statement : List ℕ) (answer : Result Counts DeliverFault) (old new : State)
    → IsDeliveryAnswer profile accepts issuer statement old new answer → Ran profile accepts (Event.Deliver issuer statement ∷ []) (answer ∷ []) old new
delivery_ran profile accepts issuer statement answer old new it = ends profile accepts (Event.Deliver issuer statement ∷ []) (answer ∷ []) old new (one_delivery profile accepts issuer statement answer old new it)

pub restart_ran : (profile : Profile) (accepts : Accepts) (old new : State) → Restarts old new → Ran profile accepts (Event.Restart ∷ []) [] old new
restart_ran profile accepts old new it = ends profile accepts (Event.Restart ∷ []) [] old new (one_restart profile accepts old new it)

-- ---- answers of calls

pub if_all_ok : {A E : Type 0} (result : Result A E) (P Q R S : A → Type 0) → ((x : A) → P x → Q x → R x → S x) → IfOk result P → IfOk result Q → IfOk result R → IfOk result S
if_all_ok (Ok x) P Q R S all p q r = all x p q r
if_all_ok (Err e) P Q R S all p q r = tt

-- ---- the list of answers

pub pushed : {A E : Type 0} (before after : List A) (x : A) (result : Result (Unit {0}) E) {y : Unit {0}} → result ≡ Ok y
    → after ≡ (if is_ok result then before ++ x ∷ [] else before) → after ≡ before ++ x ∷ []
pushed before after x (Ok y) is grown = grown
pushed before after x (Err e) is grown = absurd cc

pub delivered_so : (profile : Profile) (accepts : Accepts) (issuer statement : List ℕ) (before after : List (Result Counts DeliverFault)) (answer : Result Counts DeliverFault) (old new : State)
    → HasCleanDisk new → MayCommit (genuine_facts profile accepts issuer statement) old new answer
    → after ≡ before ++ answer ∷ [] → IsDeliveryAnswer profile accepts issuer statement old new answer → HasHappened profile accepts (Event.Deliver issuer statement) before after old new
delivered_so profile accepts issuer statement before after answer old new clean commits grown it = record {
  added = answer ∷ [];
  after_is = grown;
  ran = one_delivery profile accepts issuer statement answer old new it;
  leaves = delivery_leaves profile accepts issuer statement answer old new clean commits it;
}

pub restarted_so : (profile : Profile) (accepts : Accepts) (event : Event) (before : List (Result Counts DeliverFault)) (old new : State) → event ≡ Event.Restart → IsSettled new → IsDurable new → Restarts old new
    → HasHappened profile accepts event before before old new
restarted_so profile accepts event before old new is settled durable it = subst (λ e. HasHappened profile accepts e before before old new) (sym is) (record {
  added = [];
  after_is = sym (append-nil before);
  ran = one_restart profile accepts old new it;
  leaves = restart_leaves profile accepts old new settled durable it;
})

pub answer_added : (profile : Profile) (accepts : Accepts) (issuer statement : List ℕ) (before after : List (Result Counts DeliverFault)) (answer : Result Counts DeliverFault)
    → after ≡ before ++ answer ∷ [] → IsAnswerTo profile accepts issuer statement answer → AddsAnswer profile accepts (Event.Deliver issuer statement) before after
answer_added profile accepts issuer statement before after answer grown is = record { added = answer ∷ []; after_is = grown; answers = (is, tt) }

pub nothing_added : (profile : Profile) (accepts : Accepts) (event : Event) (before : List (Result Counts DeliverFault)) → event ≡ Event.Restart → AddsAnswer profile accepts event before before
nothing_added profile accepts event before is =
    subst (λ e. AddsAnswer profile accepts e before before) (sym is) (record { added = []; after_is = sym (append-nil before); answers = tt })

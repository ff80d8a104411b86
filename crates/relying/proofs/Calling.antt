-- What each call of a node is among the events that reach it.
use Rattle.std.proofs.Common.{◌++◌, List, [], Result, Ok, Err, refl, sym, subst}
use Rattle.sqlite_disk.specs.declared.Disk.{Ghosts}
use Rattle.sqlite.specs.State.{State}
use Rattle.statements_facts.specs.declared.profile.Profile.{Profile}
use Rattle.statements_facts.specs.Fact.{facts_in}
use Rattle.statements_facts.specs.Statement.{Holdings}
use Rattle.statements_facts.specs.declared.counts.Counts.{Counts}
use Rattle.store_maps.specs.Held.{IsStoreOf}
use Rattle.store.specs.Adopts.{StaysIfOpen}
use Rattle.path.specs.Query.{Accepts}
use Rattle.relying_agreement.specs.Run.{Event}
use Rattle.relying.specs.Agreed.{CameThrough}
use Rattle.relying.specs.Calls.{CallsFollow, ComparisonsComeThrough, DeliveriesAreRuns, RestartsAreRuns, RunsComeThrough, RunsFollow, TakingsAreRuns, VerdictsComeThrough}
use Rattle.relying.specs.Run.{IsEndOfRun}
use Rattle.relying.specs.View.{stored}
use Rattle.relying.specs.declared.fault.DeliverFault.{DeliverFault}
use Rattle.relying.proofs.Happening.{delivery_ran, restart_ran, runs_then, open_then, runs_are_runs}

-- ---- runs

ends_then : (profile : Profile) (accepts : Accepts) (events more : List Event) (answers more_answers : List (Result Counts DeliverFault)) (start : Holdings) (middle last : State)
    (first : IsEndOfRun profile accepts events answers start middle) → IsEndOfRun profile accepts more more_answers first.held last → IsEndOfRun profile accepts (events ++ more) (answers ++ more_answers) start last
ends_then profile accepts events more answers more_answers start middle last first second =
    let runs = runs_then profile accepts events more answers more_answers start first.held second.held first.runs second.runs in
    record { held = second.held; store = second.store; runs = runs; newest = runs_are_runs profile accepts (events ++ more) (answers ++ more_answers) start second.held runs }

pub deliveries_are_runs : {V D : Type 0} {g : Ghosts D} → DeliveriesAreRuns V D g
deliveries_are_runs profile accepts issuer statement old new answer clean answers = delivery_ran profile accepts issuer statement answer (stored old) (stored new) (answers clean)

pub takings_are_runs : {V D : Type 0} {g : Ghosts D} → TakingsAreRuns V D g
takings_are_runs profile accepts issuer statement facts old new (Ok counts) clean says puts = delivery_ran profile accepts issuer statement (Ok counts) (stored old) (stored new) (facts_in facts, says, puts clean)
takings_are_runs profile accepts issuer statement facts old new (Err fault) clean says puts = delivery_ran profile accepts issuer statement _ (stored old) (stored new) ((facts_in facts, says), puts clean)

pub restarts_are_runs : {V D : Type 0} {g : Ghosts D} → RestartsAreRuns V D g
restarts_are_runs profile accepts old new clean restarts = restart_ran profile accepts (stored old) (stored new) (restarts clean)

-- one run behind another
pub runs_follow : {V D : Type 0} {g : Ghosts D} → RunsFollow V D g
runs_follow profile accepts events more answers more_answers begun middle last first second = record {
  was_open = λ live. first.was_open (second.was_open live);
  at_restarts = open_then events more (stored begun).is_open (stored middle).is_open (stored last).is_open first.at_restarts second.at_restarts;
  ended = λ live start store.
      let before = first.ended (second.was_open live) start store in
      ends_then profile accepts events more answers more_answers start (stored middle) (stored last) before (second.ended live before.held before.store);
}

-- ---- calls

pub runs_come_through : {V D : Type 0} {g : Ghosts D} → RunsComeThrough V D g
runs_come_through profile accepts events answers old new ran = record { was_open = ran.was_open; ended = ran.ended }

-- what is held stays, and nothing was taken
stays_through : (profile : Profile) (accepts : Accepts) (old new : State) → StaysIfOpen old new → CameThrough profile accepts [] [] old new
stays_through profile accepts old new stays = record {
  was_open = stays.was_open;
  ended = λ live start store. record {
    held = start;
    store = subst (λ db. IsStoreOf db start) (sym (stays.now_is live)) store;
    runs = refl;
    newest = runs_are_runs profile accepts [] [] start start refl;
  };
}

pub verdicts_come_through : {V D : Type 0} {g : Ghosts D} → VerdictsComeThrough V D g
verdicts_come_through profile accepts query old new (Ok verdict) clean looks = stays_through profile accepts (stored old) (stored new) (looks clean).0
verdicts_come_through profile accepts query old new (Err fault) clean looks = stays_through profile accepts (stored old) (stored new) (looks clean).0

pub comparisons_come_through : {V D : Type 0} {g : Ghosts D} → ComparisonsComeThrough V D g
comparisons_come_through profile accepts query old new other_old other_new (Ok answer) clean other_clean looks =
    let it = looks clean other_clean in (stays_through profile accepts (stored old) (stored new) it.0, stays_through profile accepts (stored other_old) (stored other_new) it.1)
comparisons_come_through profile accepts query old new other_old other_new (Err fault) clean other_clean looks =
    let it = looks clean other_clean in (stays_through profile accepts (stored old) (stored new) it.0, stays_through profile accepts (stored other_old) (stored other_new) it.1)

pub calls_follow : {V D : Type 0} {g : Ghosts D} → CallsFollow V D g
calls_follow profile accepts events more answers more_answers begun middle last first second = record {
  was_open = λ live. first.was_open (second.was_open live);
  ended = λ live start store.
      let before = first.ended (second.was_open live) start store in
      ends_then profile accepts events more answers more_answers start (stored middle) (stored last) before (second.ended live before.held before.store);
}

-- A run that is under way.
use Rattle.std.proofs.Common.{◌≡◌, ℕ, ◌+◌, ◌<◌, ◌≤◌, List, map, length, take, get_or, option_map, Some, Result, sym, ap, subst, ◌∙◌, take_all}
use Rattle.std.proofs.lemmas.List.{map_more, take-map}
use Rattle.std.proofs.lemmas.Option.{slice_get-map, slice_get-get_or}
use Rattle.sqlite_disk.specs.declared.Disk.{Ghosts}
use Rattle.sqlite_store.specs.declared.store.FileStore.{FileStore}
use Rattle.sqlite.specs.Held.{Held}
use Rattle.sqlite.specs.Files.{file_state}
use Rattle.sqlite.specs.State.{State, HasCleanDisk}
use Rattle.statements_facts.specs.declared.profile.Profile.{Profile}
use Rattle.statements_facts.specs.declared.counts.Counts.{Counts}
use Rattle.path.specs.Query.{Accepts}
use Rattle.relying_agreement.specs.Run.{Event}
use Rattle.store.specs.declared.refusal.ReopenFault.{ReopenFault}
use Rattle.relying.specs.declared.events.Event as said
use Rattle.relying.specs.declared.fault.DeliverFault.{DeliverFault}
use Rattle.store_adoption.specs.Creates.{IsSettled}
use Rattle.store.specs.Opens.{FailsToReopen, ReopensForCause}
use Rattle.relying.specs.Leaving.{LeavesSoFar, RunSurvives}
use Rattle.relying.specs.Run.{RanSoFar, Ran, HasHappened, AddsAnswer, AreAnswersTo, seen_event}
use Rattle.relying.specs.Stopping.{LeavesAtRestart, StopsAtRestart}
use Rattle.relying.proofs.Happening.{leaves_one_more, one_more, one_more_answered, ends, survives}
use Rattle.relying.proofs.Stopped.{left_at_restart}

module _ (profile : Profile) (accepts : Accepts) (events : List said.Event) (i : ℕ) where
  pub one_further : (d : said.Event) (before after : List (Result Counts DeliverFault)) (first mid new : State) (under : Profile) (by : Accepts) → i < length events
      → RanSoFar profile accepts (map seen_event (take i events)) before first mid → under ≡ profile → by ≡ accepts → HasHappened under by (seen_event (get_or events i d)) before after mid new
      → RanSoFar profile accepts (map seen_event (take (i + 1) events)) after first new
  one_further d before after first mid new under by below ran alike same it =
      subst (λ told. RanSoFar profile accepts told after first new) (sym (map_more seen_event events i d below))
      (one_more profile accepts (map seen_event (take i events)) (seen_event (get_or events i d)) before after first mid new ran
      (subst (λ u. HasHappened u accepts (seen_event (get_or events i d)) before after mid new) alike (subst (λ a. HasHappened under a (seen_event (get_or events i d)) before after mid new) same it)))

  pub leaves_further : (d : said.Event) (before after : List (Result Counts DeliverFault)) (first mid new : State) (under : Profile) (by : Accepts) → i < length events
      → AreAnswersTo profile accepts (map seen_event (take i events)) before → RanSoFar profile accepts (map seen_event (take i events)) before first mid
      → LeavesSoFar profile accepts (map seen_event (take i events)) before first mid → under ≡ profile → by ≡ accepts → HasHappened under by (seen_event (get_or events i d)) before after mid new
      → LeavesSoFar profile accepts (map seen_event (take (i + 1) events)) after first new
  leaves_further d before after first mid new under by below answered ran leaves alike same it =
      subst (λ told. LeavesSoFar profile accepts told after first new) (sym (map_more seen_event events i d below))
      (leaves_one_more profile accepts (map seen_event (take i events)) (seen_event (get_or events i d)) before after first mid new answered ran leaves
      (subst (λ u. HasHappened u accepts (seen_event (get_or events i d)) before after mid new) alike (subst (λ a. HasHappened under a (seen_event (get_or events i d)) before after mid new) same it)))

  pub answered_further : (d : said.Event) (before after : List (Result Counts DeliverFault)) (under : Profile) (by : Accepts) → i < length events
      → AreAnswersTo profile accepts (map seen_event (take i events)) before → under ≡ profile → by ≡ accepts → AddsAnswer under by (seen_event (get_or events i d)) before after
      → AreAnswersTo profile accepts (map seen_event (take (i + 1) events)) after
  answered_further d before after under by below told alike same it =
      subst (λ done. AreAnswersTo profile accepts done after) (sym (map_more seen_event events i d below))
      (one_more_answered profile accepts (map seen_event (take i events)) (seen_event (get_or events i d)) before after told
      (subst (λ u. AddsAnswer u accepts (seen_event (get_or events i d)) before after) alike (subst (λ a. AddsAnswer under a (seen_event (get_or events i d)) before after) same it)))

  pub all_answered : (answers : List (Result Counts DeliverFault)) → length events ≤ i → AreAnswersTo profile accepts (map seen_event (take i events)) answers → AreAnswersTo profile accepts (map seen_event events) answers
  all_answered answers all told = subst (λ done. AreAnswersTo profile accepts (map seen_event done) answers) (take_all i events all) told

  pub stops_at : {D : Type 0} {g : Ghosts D} (d : said.Event) (answers told : List (Result Counts DeliverFault)) (old last : Held (FileStore D g)) (fault : ReopenFault D g) → i < length events
      → (HasCleanDisk (file_state last) → RanSoFar profile accepts (map seen_event (take i events)) answers (file_state old) (file_state last))
      → (HasCleanDisk (file_state last) → LeavesSoFar profile accepts (map seen_event (take i events)) answers (file_state old) (file_state last)) → AreAnswersTo profile accepts (map seen_event (take i events)) answers
      → told ≡ answers → seen_event (get_or events i d) ≡ Event.Restart → IsSettled (file_state last) → FailsToReopen last fault → ReopensForCause last fault
      → StopsAtRestart profile accepts (map seen_event events) i told (file_state old) fault
  stops_at d answers told old last fault below ran may answered same restarts settled fails cause =
      let taken = take-map seen_event i events in
      subst (λ a. StopsAtRestart profile accepts (map seen_event events) i a (file_state old) fault) (sym same) (record {
        at = slice_get-map seen_event events i ∙ ap (option_map seen_event) (slice_get-get_or events i d below) ∙ ap (λ e. Some e) restarts;
        answered = subst (λ done. AreAnswersTo profile accepts done answers) (sym taken) answered;
        leaves = subst (λ done. LeavesAtRestart profile accepts done answers (file_state old) fault) (sym taken)
            (left_at_restart profile accepts (map seen_event (take i events)) answers (file_state old) last ran may settled fault fails cause);
      })

  pub all_done : (answers : List (Result Counts DeliverFault)) (first new : State) → length events ≤ i → RanSoFar profile accepts (map seen_event (take i events)) answers first new → Ran profile accepts (map seen_event events) answers first new
  all_done answers first new all ran =
      ends profile accepts (map seen_event events) answers first new (subst (λ told. RanSoFar profile accepts (map seen_event told) answers first new) (take_all i events all) ran)

  pub all_survive : (answers : List (Result Counts DeliverFault)) (first new : State) → length events ≤ i → (HasCleanDisk new → LeavesSoFar profile accepts (map seen_event (take i events)) answers first new)
      → RunSurvives profile accepts (map seen_event events) answers first new
  all_survive answers first new all leaves =
      survives profile accepts (map seen_event events) answers first new (λ clean. subst (λ told. LeavesSoFar profile accepts (map seen_event told) answers first new) (take_all i events all) (leaves clean))

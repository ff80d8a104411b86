-- One look-up behind another, in one store or in two.
use Rattle.std.proofs.Common.{refl, sym, subst, ◌∙◌, IsTrue, Result, Ok, Err, inl, inr}
use Rattle.sqlite.specs.State.{State, HasCleanDisk, KeepsCommit}
use Rattle.sqlite.proofs.InsideLemmas.{keeps_then}
use Rattle.sqlite.proofs.StateLemmas.{survives_then}
use Rattle.statements_facts.specs.Statement.{Holdings}
use Rattle.store_sql.specs.declared.fault.StoreFault.{StoreFault}
use Rattle.store_sql.specs.Statements.{CommitsNothing}
use Rattle.store_sql.proofs.Laws.{later_refuses}
use Rattle.store_rows.specs.Steps.{Stays}
use Rattle.store_maps.specs.Held.{IsStoreOf}
use Rattle.store_maps.specs.LooksUp.{FailsIn, IsCausedOverStore, IsFoundIn, LooksUp}
use Rattle.relying_verdicts.specs.declared.fault.Fault.{Fault}
use Rattle.relying_verdicts.specs.declared.fault.Fault.TheVariants.{Store, Memory}
use Rattle.relying_verdicts.specs.Asking.{AskIsCaused, AskOfBothIsCaused, AskFails, HasAsked, IsFoundInBoth, AskOfBothFails, HasAskedBoth}

pub keeps_itself : (s : State) → KeepsCommit s s
keeps_itself s = record { was_open = λ is. is; committed = λ is. refl }

pub both_commit_nothing : (first mid now : State) → CommitsNothing first mid → CommitsNothing mid now → CommitsNothing first now
both_commit_nothing first mid now a b = survives_then first mid now (λ _. ⊥) (λ _. ⊥) (λ _. ⊥) (λ _ _ none. none) (λ _ _ none. none) a b

then_stays : (first mid now : State) → Stays first mid → Stays mid now → Stays first now
then_stays first mid now a b = record { open_is = b.open_is ∙ a.open_is; now_is = b.now_is ∙ a.now_is; committed_is = b.committed_is ∙ a.committed_is; mode = b.mode ∙ a.mode }

still_store : (first mid : State) (held : Holdings) → Stays first mid → IsStoreOf first.now held → IsStoreOf mid.now held
still_store first mid held stays store = subst (λ db. IsStoreOf db held) (sym stays.now_is) store

-- what is said of what is held says something else of it
pub found_as : {A B : Type 0} (old new : State) (P : Holdings → A → Type 0) (a : A) (R : Holdings → B → Type 0) (b : B) → IsFoundIn old new P a → ((held : Holdings) → P held a → R held b) → IsFoundIn old new R b
found_as old new P a R b is leads = record {
  keeps = is.keeps;
  mode = is.mode;
  held = λ held store. let one = is.held held store in (one.0, leads held one.1);
}

-- the same of a look-up that may have failed
pub looks_as : {A : Type 0} (old new : State) (result : Result A StoreFault) (P R : Holdings → A → Type 0) → LooksUp old new P result → ((held : Holdings) (found : A) → P held found → R held found) → LooksUp old new R result
looks_as old new (Ok found) P R is leads = found_as old new P found R found is (λ held there. leads held found there)
looks_as old new (Err fault) P R fails leads = fails

-- and of what was asked
pub asks_as : {A : Type 0} (old new : State) (result : Result A Fault) (P R : Holdings → A → Type 0) → HasAsked old new P result
    → ((held : Holdings) (found : A) → P held found → R held found) → HasAsked old new R result
asks_as old new (Ok found) P R is leads = found_as old new P found R found is (λ held there. leads held found there)
asks_as old new (Err fault) P R fails leads = fails

-- nothing was asked, so it is said of whatever is held
pub found_same : {B : Type 0} (s : State) (R : Holdings → B → Type 0) (b : B) → IsTrue s.in_transaction → ((held : Holdings) → R held b) → IsFoundIn s s R b
found_same s R b mode is = record {
  keeps = keeps_itself s;
  mode = mode;
  held = λ held store. (record { open_is = refl; now_is = refl; committed_is = refl; mode = refl }, is held);
}

pub found_then : {A B C : Type 0} (old mid new : State) (P : Holdings → A → Type 0) (a : A) (Q : Holdings → B → Type 0) (b : B) (R : Holdings → C → Type 0) (c : C)
    → IsFoundIn old mid P a → IsFoundIn mid new Q b → ((held : Holdings) → P held a → Q held b → R held c) → IsFoundIn old new R c
found_then old mid new P a Q b R c one two leads = record {
  keeps = keeps_then old mid new one.keeps two.keeps;
  mode = two.mode;
  held = λ held store.
      let first = one.held held store in
      let second = two.held held (still_store old mid held first.0 store) in
      (then_stays old mid new first.0 second.0, leads held first.1 second.1);
}

pub fails_then : {A : Type 0} (old mid new : State) (P : Holdings → A → Type 0) (a : A) (fault : StoreFault) → IsFoundIn old mid P a → FailsIn mid new fault → FailsIn old new fault
fails_then old mid new P a fault one two = record {
  keeps = keeps_then old mid new one.keeps two.keeps;
  formed = λ e held store. two.formed e held (still_store old mid held (one.held held store).0 store);
}

-- its cause is one of both look-ups
pub caused_then : {A : Type 0} (old mid new : State) (P : Holdings → A → Type 0) (a : A) (fault : StoreFault) → CommitsNothing old mid → CommitsNothing mid new → HasCleanDisk mid
    → IsFoundIn old mid P a → IsCausedOverStore mid new fault → IsCausedOverStore old new fault
caused_then old mid new P a fault first second clean one two e held store =
    later_refuses old mid new (λ _. ⊥) (λ _. ⊥) first second clean (two e held (still_store old mid held (one.held held store).0 store))

-- ---- when memory runs out

-- a fault behind something that was found
pub gives_up_then : {A : Type 0} (old mid new : State) (P : Holdings → A → Type 0) (a : A) (fault : Fault) → IsFoundIn old mid P a → AskFails mid new fault → AskFails old new fault
gives_up_then old mid new P a (Store fault) one two = fails_then old mid new P a fault one two
gives_up_then old mid new P a Memory one two = keeps_then old mid new one.keeps two

pub asked_then : {A : Type 0} (old mid new : State) (P : Holdings → A → Type 0) (a : A) (fault : Fault) → CommitsNothing old mid → CommitsNothing mid new → HasCleanDisk mid
    → IsFoundIn old mid P a → AskIsCaused mid new fault → AskIsCaused old new fault
asked_then old mid new P a (Store fault) first second clean one two = caused_then old mid new P a fault first second clean one two
asked_then old mid new P a Memory first second clean one two = tt

-- ---- two stores

pub first_caused : (old new other_old other_new : State) (fault : Fault) → AskIsCaused old new fault → AskOfBothIsCaused old new other_old other_new fault
first_caused old new other_old other_new (Store fault) is = λ e one others store stores. inl (is e one store)
first_caused old new other_old other_new Memory is = tt

pub other_caused : (old new other_old other_new : State) (fault : Fault) → AskIsCaused other_old other_new fault → AskOfBothIsCaused old new other_old other_new fault
other_caused old new other_old other_new (Store fault) is = λ e one others store stores. inr (is e others stores)
other_caused old new other_old other_new Memory is = tt

-- the first fails, and the other was not asked
pub first_fails : (old new other : State) (fault : Fault) → AskFails old new fault → AskOfBothFails old new other other fault
first_fails old new other (Store fault) is = record { keeps = is.keeps; other_keeps = keeps_itself other; formed = λ e one others store stores. is.formed e one store }
first_fails old new other Memory is = (is, keeps_itself other)

-- the first is asked, and the other fails
pub other_fails : {A : Type 0} (old new other_old other_new : State) (P : Holdings → A → Type 0) (a : A) (fault : Fault) → IsFoundIn old new P a → AskFails other_old other_new fault → AskOfBothFails old new other_old other_new fault
other_fails old new other_old other_new P a (Store fault) one is = record { keeps = one.keeps; other_keeps = is.keeps; formed = λ e held others store stores. is.formed e others stores }
other_fails old new other_old other_new P a Memory one is = (one.keeps, is)

pub both_found : {A B C : Type 0} (old new other_old other_new : State) (P : Holdings → A → Type 0) (a : A) (Q : Holdings → B → Type 0) (b : B) (R : Holdings → Holdings → C → Type 0) (c : C)
    → IsFoundIn old new P a → IsFoundIn other_old other_new Q b → ((one other : Holdings) → P one a → Q other b → R one other c) → IsFoundInBoth old new other_old other_new R c
both_found old new other_old other_new P a Q b R c first second leads = record {
  keeps = first.keeps;
  other_keeps = second.keeps;
  mode = first.mode;
  other_mode = second.mode;
  held = λ one other store stores.
      let here = first.held one store in
      let there = second.held other stores in
      (here.0, there.0, leads one other here.1 there.1);
}

-- an answer of both that says something else of what they hold
pub both_as : {A : Type 0} (old new other_old other_new : State) (P : Holdings → Holdings → A → Type 0) (R : Holdings → Holdings → A → Type 0) (result : Result A Fault)
    → HasAskedBoth old new other_old other_new P result → ((one other : Holdings) (a : A) → P one other a → R one other a) → HasAskedBoth old new other_old other_new R result
both_as old new other_old other_new P R (Ok a) is leads = record {
  keeps = is.keeps;
  other_keeps = is.other_keeps;
  mode = is.mode;
  other_mode = is.other_mode;
  held = λ one other store stores. let both = is.held one other store stores in (both.0, both.1, leads one other a both.2);
}
both_as old new other_old other_new P R (Err fault) is leads = is

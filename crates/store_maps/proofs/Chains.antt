-- One look-up behind another.
use Rattle.std.proofs.Common.{sym, subst, ◌∙◌}
use Rattle.sqlite.specs.State.{State, HasCleanDisk, Survives}
use Rattle.sqlite.proofs.InsideLemmas.{keeps_then}
use Rattle.statements_facts.specs.Statement.{Holdings}
use Rattle.store_sql.specs.declared.origin.Origin.{Origin}
use Rattle.store_sql.specs.declared.fault.StoreFault.{StoreFault}
use Rattle.store_rows.specs.Contents.{Contents}
use Rattle.store_rows.specs.Holding.{HasContents}
use Rattle.store_sql.proofs.Laws.{later_refuses}
use Rattle.store_rows.specs.Steps.{Stays, Fails, HasFound, IsCaused}
use Rattle.store_maps.specs.Held.{held_in}
use Rattle.store_maps.specs.LooksUp.{IsFoundIn, FailsIn, IsCausedOverStore}

then_stays : (first mid now : State) → Stays first mid → Stays mid now → Stays first now
then_stays first mid now a b = record { open_is = b.open_is ∙ a.open_is; now_is = b.now_is ∙ a.now_is; committed_is = b.committed_is ∙ a.committed_is; mode = b.mode ∙ a.mode }

still_holds : (first mid : State) (origin : Origin) (it : Contents) → Stays first mid → HasContents first.now origin it → HasContents mid.now origin it
still_holds first mid origin it stays held = subst (λ db. HasContents db origin it) (sym stays.now_is) held

-- what is said of the rows says something else of them
pub answered_as : {A B : Type 0} (old new : State) (P : Contents → A → Type 0) (a : A) (R : Contents → B → Type 0) (b : B) → HasFound old new P a → ((it : Contents) → P it a → R it b) → HasFound old new R b
answered_as old new P a R b answer leads = record {
  keeps = answer.keeps;
  mode = answer.mode;
  rows = λ origin it held form. let is = answer.rows origin it held form in (is.0, leads it is.1);
}

pub finds_then : {A B C : Type 0} (old mid new : State) (P : Contents → A → Type 0) (a : A) (Q : Contents → B → Type 0) (b : B) (R : Contents → C → Type 0) (c : C)
    → HasFound old mid P a → HasFound mid new Q b → ((it : Contents) → P it a → Q it b → R it c) → HasFound old new R c
finds_then old mid new P a Q b R c one two leads = record {
  keeps = keeps_then old mid new one.keeps two.keeps;
  mode = two.mode;
  rows = λ origin it held form.
      let first = one.rows origin it held form in
      let second = two.rows origin it (still_holds old mid origin it first.0 held) form in
      (then_stays old mid new first.0 second.0, leads it first.1 second.1);
}

pub fails_then : {A : Type 0} (old mid new : State) (P : Contents → A → Type 0) (a : A) (fault : StoreFault) → HasFound old mid P a → Fails mid new fault → Fails old new fault
fails_then old mid new P a fault one two = record {
  keeps = keeps_then old mid new one.keeps two.keeps;
  formed = λ e origin it held form. two.formed e origin it (still_holds old mid origin it (one.rows origin it held form).0 held) form;
}

-- the second look-up fails for a cause of both
pub caused_then : {A : Type 0} (old mid new : State) (P : Contents → A → Type 0) (a : A) (fault : StoreFault) → Survives old mid (λ _. ⊥) → Survives mid new (λ _. ⊥) → HasCleanDisk mid
    → HasFound old mid P a → IsCaused mid new fault → IsCaused old new fault
caused_then old mid new P a fault first second clean one two e origin it held form =
    later_refuses old mid new (λ _. ⊥) (λ _. ⊥) first second clean (two e origin it (still_holds old mid origin it (one.rows origin it held form).0 held) form)

pub caused_held : (old new : State) (fault : StoreFault) → IsCaused old new fault → IsCausedOverStore old new fault
caused_held old new fault h e held store = h e store.origin store.contents store.rows store.form

-- ---- from rows to what is held

pub found_in : {A : Type 0} (old new : State) (Is : Holdings → A → Type 0) (found : A) → HasFound old new (λ it. Is (held_in it)) found → IsFoundIn old new Is found
found_in old new Is found answer = record {
  keeps = answer.keeps;
  mode = answer.mode;
  held = λ held store. let is = answer.rows store.origin store.contents store.rows store.form in (is.0, subst (λ h. Is h found) store.held_is is.1);
}

pub fails_in : (old new : State) (fault : StoreFault) → Fails old new fault → FailsIn old new fault
fails_in old new fault f = record { keeps = f.keeps; formed = λ e held store. f.formed e store.origin store.contents store.rows store.form }

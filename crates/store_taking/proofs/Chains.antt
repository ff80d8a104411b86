-- One call behind another, inside a transaction.
use Rattle.std.proofs.Common.{◌∙◌, Ok, Err, Result, OnOk, sym, subst}
use Rattle.sqlite.specs.Effect.{Database}
use Rattle.sqlite.specs.State.{State, KeepsCommit}
use Rattle.sqlite.proofs.InsideLemmas.{keeps_then}
use Rattle.statements_facts.specs.Statement.{Holdings}
use Rattle.store_sql.specs.declared.origin.Origin.{Origin}
use Rattle.store_sql.specs.declared.fault.StoreFault.{StoreFault}
use Rattle.store_rows.specs.Contents.{Contents}
use Rattle.store_rows.specs.Holding.{HasContents, AreInForm}
use Rattle.store_rows.specs.Steps.{Stays, Fails, Finds, HasFound, Moves, Changes}
use Rattle.store_taking.specs.Passing.{HasStepped, StepFails, StepsTo}

-- ---- rows

then_stays : (first mid now : State) → Stays first mid → Stays mid now → Stays first now
then_stays first mid now a b = record { open_is = b.open_is ∙ a.open_is; now_is = b.now_is ∙ a.now_is; committed_is = b.committed_is ∙ a.committed_is; mode = b.mode ∙ a.mode }

pub still_holds : (first mid : State) (origin : Origin) (it : Contents) → Stays first mid → HasContents first.now origin it → HasContents mid.now origin it
still_holds first mid origin it stays held = subst (λ db. HasContents db origin it) (sym stays.now_is) held

-- what is said of the rows says something else of them
pub found_as : {A B : Type 0} (old new : State) (P : Contents → A → Type 0) (a : A) (R : Contents → B → Type 0) (b : B) → HasFound old new P a → ((it : Contents) → AreInForm it → P it a → R it b) → HasFound old new R b
found_as old new P a R b answer leads = record {
  keeps = answer.keeps;
  mode = answer.mode;
  rows = λ origin it held form. let is = answer.rows origin it held form in (is.0, leads it form is.1);
}

pub found_then : {A B C : Type 0} (old mid new : State) (P : Contents → A → Type 0) (a : A) (Q : Contents → B → Type 0) (b : B) (R : Contents → C → Type 0) (c : C)
    → HasFound old mid P a → HasFound mid new Q b → ((it : Contents) → AreInForm it → P it a → Q it b → R it c) → HasFound old new R c
found_then old mid new P a Q b R c one two leads = record {
  keeps = keeps_then old mid new one.keeps two.keeps;
  mode = two.mode;
  rows = λ origin it held form.
      let first = one.rows origin it held form in
      let second = two.rows origin it (still_holds old mid origin it first.0 held) form in
      (then_stays old mid new first.0 second.0, leads it form first.1 second.1);
}

pub then_fails : {A : Type 0} (old mid new : State) (P : Contents → A → Type 0) (a : A) (fault : StoreFault) → HasFound old mid P a → Fails mid new fault → Fails old new fault
then_fails old mid new P a fault one two = record {
  keeps = keeps_then old mid new one.keeps two.keeps;
  formed = λ e origin it held form. two.formed e origin it (still_holds old mid origin it (one.rows origin it held form).0 held) form;
}

-- a look-up, and then another that answers the same
pub finds_then : {A B : Type 0} (old mid new : State) (P : Contents → A → Type 0) (a : A) (Q R : Contents → B → Type 0) (result : Result B StoreFault)
    → HasFound old mid P a → Finds mid new Q result → ((it : Contents) (b : B) → AreInForm it → P it a → Q it b → R it b) → Finds old new R result
finds_then old mid new P a Q R (Ok b) one two leads = found_then old mid new P a Q b R b one two (λ it form p q. leads it b form p q)
finds_then old mid new P a Q R (Err fault) one two leads = then_fails old mid new P a fault one two

-- ---- changes

moves_keep : (old new : State) (changed : Contents → Contents) → Moves old new changed → KeepsCommit old new
moves_keep old new changed m = record { was_open = λ _. m.was_open; committed = λ _. m.committed_is }

moves_then : (old mid new : State) (one two : Contents → Contents) → Moves old mid one → Moves mid new two → ((it : Contents) → AreInForm it → AreInForm (one it)) → Moves old new (λ it. two (one it))
moves_then old mid new one two first second form = record {
  was_open = first.was_open;
  is_open = second.is_open;
  committed_is = second.committed_is ∙ first.committed_is;
  mode = second.mode;
  rows = λ origin it held was. second.rows origin (one it) (first.rows origin it held was) (form it was);
}

moves_then_fails : (old mid new : State) (one : Contents → Contents) (fault : StoreFault) → Moves old mid one → Fails mid new fault → ((it : Contents) → AreInForm it → AreInForm (one it)) → Fails old new fault
moves_then_fails old mid new one fault first second form = record {
  keeps = keeps_then old mid new (moves_keep old mid one first) second.keeps;
  formed = λ e origin it held was. second.formed e origin (one it) (first.rows origin it held was) (form it was);
}

pub changes_then : {A : Type 0} (old mid new : State) (one two : Contents → Contents) (result : Result A StoreFault) → Moves old mid one → Changes mid new two result → ((it : Contents) → AreInForm it → AreInForm (one it))
    → Changes old new (λ it. two (one it)) result
changes_then old mid new one two (Ok done) first second form = moves_then old mid new one two first second form
changes_then old mid new one two (Err fault) first second form = moves_then_fails old mid new one fault first second form

-- ---- what is held

pub passes_then : (old mid new : State) (Before Mid After : Database → Holdings → Type 0) → HasStepped old mid Before Mid → HasStepped mid new Mid After → HasStepped old new Before After
passes_then old mid new Before Mid After one two = record {
  keeps = keeps_then old mid new one.keeps two.keeps;
  mode = two.mode;
  held = λ held was. two.held held (one.held held was);
}

pub stops_then : (old mid new : State) (Before Mid : Database → Holdings → Type 0) (fault : StoreFault) → HasStepped old mid Before Mid → StepFails mid new Mid fault → StepFails old new Before fault
stops_then old mid new Before Mid fault one two = record {
  keeps = keeps_then old mid new one.keeps two.keeps;
  formed = λ e held was. two.formed e held (one.held held was);
}

pub goes_then : {A : Type 0} (old mid new : State) (Before Mid : Database → Holdings → Type 0) (After : A → Database → Holdings → Type 0) (result : Result A StoreFault)
    → HasStepped old mid Before Mid → StepsTo mid new Mid After result → StepsTo old new Before After result
goes_then old mid new Before Mid After (Ok answer) one two = passes_then old mid new Before Mid (After answer) one two
goes_then old mid new Before Mid After (Err fault) one two = stops_then old mid new Before Mid fault one two

pub on_ok : {A E : Type 0} (result : Result A E) (P : Type 0) → P → OnOk result P
on_ok (Ok answer) P is = is
on_ok (Err fault) P is = tt

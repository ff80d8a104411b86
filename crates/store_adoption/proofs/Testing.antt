-- Rows that a text shows, one after the other.
use Rattle.std.proofs.Common.{◌≡◌, ◌≢◌, ◌⊎◌, ℕ, List, [], ◌∷◌, ◌++◌, Option, Some, None, Result, Ok, Err, IsTrue, refl, sym, ap, subst, ◌∙◌, inl, inr, arith, length, true≢false}
use Rattle.std.proofs.lemmas.List.{append_assoc}
use Rattle.sqlite.specs.Order.{Row}
use Rattle.sqlite.specs.Effect.{Database}
use Rattle.sqlite_schema.specs.declared.command.Returning.{Returning}
use Rattle.sqlite.specs.Clock.{timed}
use Rattle.sqlite.specs.Listing.{understood, reads_listing, IsSourceOf}
use Rattle.sqlite.specs.declared.error.Error.{Error}
use Rattle.sqlite.specs.State.{State, HasCleanDisk, IsUnchanged, IsRolledBack, KeepsCommit, Survives, Shown, ShowsRows, Begins, FailsToQuery, FailsToShow, IsNotRun, Fails, CommitsShowing}
use Rattle.sqlite.proofs.InsideLemmas.{unchanged_keeps}
use Rattle.sqlite.proofs.StateLemmas.{survives_weaker}
use Rattle.sqlite.proofs.Callers.{IsPlain, never_commits, unchanged_then}
use Rattle.store_sql.specs.declared.fault.StoreFault.{StoreFault}
use Rattle.sqlite_resolve.specs.declared.compiled.Compiled.{Compiled}
use Rattle.sqlite_resolve.specs.declared.error.CompileError.{CompileError}
use Rattle.sqlite.specs.Command.{Command}
use Rattle.sqlite.specs.Command.TheVariants.{Select}
use Rattle.sqlite.specs.Effect.{RefusesToRead}
use Rattle.store_sql.specs.declared.fault.StoreFault.TheVariants.{Store}
use Rattle.store_sql.specs.Cause.{MayRefuse}
use Rattle.store_sql.specs.Fault.{fault_from}
use Rattle.store_sql.proofs.Laws.{IsWhole, not_run_caused}
use Rattle.store_adoption.specs.Tests.{AllPass, IsTableQuery, IsSafeQuery, TestFails}

pub unchanged_itself : (s : State) → IsTrue s.is_open → IsUnchanged s s
unchanged_itself s live = (record { was_open = live; is_open = live; now_is = refl; committed_is = refl; mode = refl }, record { changes = refl; last_rowid = refl }, refl)

query_fails : (old new : State) (text : List ℕ) (params : Row) (error : Error) → FailsToQuery text params old new error → IsUnchanged old new ⊎ IsRolledBack old new
unfolding FailsToQuery IsNotRun
query_fails old new text params error (inl (inl refused)) = inl refused.1
query_fails old new text params error (inl (inr failed)) = inr failed.3
query_fails old new text params error (inr ran) = cases ran.0.returning ran.2
  where
    cases : (returning : Option Returning) → FailsToShow old new text ran.0 (timed params ran.0.formats ran.1.now) error returning → IsUnchanged old new ⊎ IsRolledBack old new
    cases None it = inl it.3
    cases (Some what) (inl refused) = inl refused.1
    cases (Some what) (inr failed) = inr failed.3

-- a refusal of the database says nothing of the rows
pub not_schema : (error : Error) → fault_from error ≢ StoreFault.Schema
not_schema error = grind arith

pub query_keeps : (old new : State) (text : List ℕ) (params : Row) (error : Error) → FailsToQuery text params old new error → KeepsCommit old new
query_keeps old new text params error h = unchanged_keeps old new (query_fails old new text params error h)

pub advance_keeps : (old new : State) (error : Error) → Fails old new ⊥ error ⊎ IsUnchanged old new → KeepsCommit old new
advance_keeps old new error (inl failed) = unchanged_keeps old new (inr failed.3)
advance_keeps old new error (inr same) = unchanged_keeps old new (inl same)

pub shows_nothing : (text : List ℕ) (old new : State) → (HasCleanDisk old → IsPlain (understood old.now.schema text)) → Survives old new (CommitsShowing text [] old) → Survives old new (λ _. ⊥)
shows_nothing text old new plain s = survives_weaker old new (CommitsShowing text [] old) (λ _. ⊥) (λ clean db. never_commits text [] old db (plain (let before = s.clean in omega (arith, before, clean)))) s

-- what was shown up to the end is shown of what is there now
pub shown_again : (text : List ℕ) (mid new : State) (rows : List Row) → IsPlain (understood mid.now.schema text) → Shown text [] mid new rows → Shown text [] new new rows
unfolding Shown
shown_again text mid new rows plain h =
    let none = (subst IsPlain h.1.is plain).0 in
    let full = timed [] h.0.formats h.1.now in
    let it = subst (ShowsRows mid new text h.0 full rows) none h.2 in
    let same = it.3.0.now_is in (
      h.0,
      record { is = subst (λ (d : Database). understood d.schema text ≡ Ok h.0) (sym same) h.1.is; whole = h.1.whole; given = h.1.given; now = h.1.now },
      subst (ShowsRows new new text h.0 full rows) (sym none)
          (it.0, subst (λ (d : Database). IsSourceOf (reads_listing d.schema text) d it.0) (sym same) it.1, it.2, unchanged_itself new it.3.0.is_open),
    )

pub all_pass : (text : List ℕ) (old mid new : State) (rows : List Row) (Passed : List Row → Type 0) → (IsPlain (understood old.now.schema text)) → IsUnchanged old mid → IsUnchanged mid new → Shown text [] mid new rows → Passed rows
    → AllPass old new text Passed
all_pass text old mid new rows Passed plain first last shown passed = record {
  unchanged = unchanged_then old mid new first last;
  rows = rows;
  shown = shown_again text mid new rows (subst (λ (d : Database). IsPlain (understood d.schema text)) (sym first.0.now_is) plain) shown;
  passed = passed;
}

pub gave_up : (text : List ℕ) (old new : State) (Formed : List Row → Type 0) (fault : StoreFault) → fault ≢ StoreFault.Schema → KeepsCommit old new → TestFails old new text Formed fault
gave_up text old new Formed fault other keeps = record { keeps = keeps; why = λ ours. absurd (other ours) }

-- a row was refused
pub refused : (text : List ℕ) (old new : State) (rows : List Row) (row : Row) (Formed : List Row → Type 0) (fault : StoreFault) → IsUnchanged old new → Begins text [] new (rows ++ row ∷ [])
    → (fault ≡ StoreFault.Schema → (later : List Row) → Formed (rows ++ row ∷ later) → ⊥) → TestFails old new text Formed fault
refused text old new rows row Formed fault same begins why = record {
  keeps = unchanged_keeps old new (inl same);
  why = λ ours. (same, record { rows = rows ++ row ∷ []; begins = begins; refused = λ later formed. why ours later (subst Formed (append_assoc rows (row ∷ []) later) formed) });
}

-- ---- why the text is refused

served_caused : (old new : State) (db : Database) (command : Command) (error : Error) → IsSafeQuery db.schema command → RefusesToRead old.step_limit command db [] error → MayRefuse old new
served_caused old new db (Select q names) error served (inl wrong) = absurd (true≢false (sym served.0 ∙ wrong.1))
served_caused old new db (Select q names) error served (inr (inl over)) = absurd (served.1 db.trees over.1)
served_caused old new db (Select q names) error served (inr (inr limited)) = inr (inr limited.1)
served_caused old new db _ error served refused = absurd served

pub asked_caused : (old new : State) (text : List ℕ) (error : Error) → IsTableQuery old.now.schema text (understood old.now.schema text) → FailsToQuery text [] old new error → fault_from error ≡ Store → MayRefuse old new
unfolding FailsToQuery
asked_caused old new text error answered (inl refused) is = not_run_caused old new old.now.schema text [] error refl (plain _ answered) (whole _ answered) refused is
  where
    plain : (r : Result Compiled CompileError) → IsTableQuery old.now.schema text r → IsPlain r
    plain (Ok c) it = (it.3, it.4)
    plain (Err e) it = it

    whole : (r : Result Compiled CompileError) → IsTableQuery old.now.schema text r → IsWhole text 0 r
    whole (Ok c) it = (it.1, sym (ap length it.2))
    whole (Err e) it = it
asked_caused old new text error answered (inr ran) is =
    let it = subst (IsTableQuery old.now.schema text) ran.1.is answered in
    let shown : FailsToShow old new text ran.0 [] error None = rw (it.3, it.4) at ran.2 in
    let db : shown.0 ≡ old.now = subst (λ b. IsSourceOf b old.now shown.0) it.0 shown.1 in
    served_caused old new shown.0 ran.0.command error (subst (λ (d : Database). IsSafeQuery d.schema ran.0.command) (sym db) it.5) shown.2

-- Look-ups of entries by halving.
use Rattle.std.proofs.Common.{◌≡◌, ◌<◌, ◌≤◌, ◌+◌, ℕ, pos, List, [], ◌∷◌, map, filter, length, Bool, slice_get, Option, Some, None, Result, Err, IfOk, IfSome, IsTrue, refl, sym, subst, ◌∙◌, arith, inl, inr, zero, suc}
use Rattle.std.specs.List.{AllByRecursion}
use Rattle.sqlite.specs.declared.types.Value.TheVariants.{Int}
use Rattle.sqlite.specs.Order.{Row}
use Rattle.sqlite.specs.State.{State, KeepsCommit, Shown}
use Rattle.statements_facts.specs.Listed.{ListedSerial, first_reason}
use Rattle.statements_facts.specs.declared.scope.Scope.{Scope}
use Rattle.statements_facts.specs.declared.scope.Scope.TheVariants.{All, User, Ca}
use Rattle.store_sql.specs.declared.origin.Origin.{Origin}
use Rattle.store_sql.specs.declared.fault.StoreFault.{StoreFault}
use Rattle.store_sql.specs.Texts.{select_entry}
use Rattle.store_sql.proofs.Laws.{selects_entry}
use Rattle.store_rows.specs.declared.beside.SerialAtPlace.{SerialAtPlace}
use Rattle.store_rows.specs.declared.beside.SerialAtPlace.TheVariants.{Nothing, Below, Same, Above}
use Rattle.store_rows.specs.Contents.{EntryRow, Contents, listed_cells, shown, scope_number}
use Rattle.store_rows.specs.Places.{list_base, beside_of, is_under, entries_under}
use Rattle.store_rows.specs.Holding.{HasContents, AreInForm, HasByte}
use Rattle.store_rows.specs.Steps.{Stays, Fails, Finds, HasFound}
use Rattle.store_rows.proofs.Placing.{slot_fits}
use Rattle.store_rows.proofs.Refilling.{length_map}
use Rattle.store_rows.proofs.Halving.{AreBelow, AreAbove, below_more, above_here, none_here, none_past, no_places, listed_here, not_listed}
use Rattle.store_rows.proofs.Finding.{finds_shown}
use Rattle.sqlite.proofs.InsideLemmas.{keeps_then}
use Rattle.store_rows.proofs.EntrySteps.{entry_shown}
use Rattle.std.proofs.lemmas.Bool.{cases_Bool}

-- all entries of a list have what all entries have
listed_have : (P : ListedSerial → Type 0) (p : EntryRow → Bool) (es : List EntryRow) → AllByRecursion (λ e. P e.listed) es → AllByRecursion P (map (λ (e : EntryRow). e.listed) (filter p es))
listed_have P p [] h = tt
listed_have P p (e ∷ es) h = elim (cases_Bool (p e)) [ inl here ↦ rw here (h.0, listed_have P p es h.1) | inr gone ↦ rw gone (listed_have P p es h.1) ]

has_at : {X : Type 0} (P : X → Type 0) (xs : List X) (k : ℕ) → AllByRecursion P xs → IfSome (slice_get xs k) P
has_at P [] k h = tt
has_at P (x ∷ xs) zero h = h.0
has_at P (x ∷ xs) (suc k) h = has_at P xs k h.1

pub stands : (old new : State) (issuer scope k place : ℕ) (serial : List ℕ) (rows : List Row) (result : Result SerialAtPlace StoreFault)
    → IfOk result (λ beside. (listed : Option ListedSerial) → IfSome listed HasByte → rows ≡ shown listed_cells listed → beside ≡ beside_of listed serial)
    → (result ≡ Err StoreFault.Schema → (listed : Option ListedSerial) → IfSome listed HasByte → rows ≡ shown listed_cells listed → ⊥)
    → scope < 3 → k < 4294967296 → place ≡ list_base issuer scope + k
    → IsTrue old.in_transaction → Shown select_entry (Int (pos place) ∷ []) old new rows
    → Finds old new (λ it beside. beside ≡ beside_of (slice_get (entries_under it.entries issuer scope) k) serial) result
stands old new issuer scope k place serial rows result ok schema few low at inside h =
    let params = Int (pos (list_base issuer scope + k)) ∷ [] in
    let there = subst (λ n. Shown select_entry (Int (pos n) ∷ []) old new rows) at h in
    finds_shown old new select_entry params rows result listed_cells (λ beside listed. beside ≡ beside_of listed serial) HasByte (λ it. slice_get (entries_under it.entries issuer scope) k) (λ it beside. beside ≡ beside_of (slice_get (entries_under it.entries issuer scope) k) serial)
    ok schema inside there (λ origin. (selects_entry origin).2)
    (λ origin it held form. (
      entry_shown origin old new it held issuer scope k rows form.placed few low there,
      has_at HasByte (entries_under it.entries issuer scope) k (listed_have HasByte (is_under issuer scope) it.entries form.reasons),
    ))
    (λ it found is. is)

-- ---- the search so far

slot_length : (es : List EntryRow) (issuer scope : ℕ) → length (entries_under es issuer scope) ≡ length (filter (is_under issuer scope) es)
slot_length es issuer scope = length_map (λ e. e.listed) (filter (is_under issuer scope) es)

-- all before `low` come before the serial number, and all from `high` on come behind it
pub record IsNarrowed (first now : State) (issuer scope : ℕ) (serial : List ℕ) (low high : ℕ) : Type 0 where
  pub keeps : KeepsCommit first now
  pub mode : IsTrue now.in_transaction
  pub rows : (origin : Origin) (it : Contents) → HasContents first.now origin it → AreInForm it → Stays first now × AreBelow (entries_under it.entries issuer scope) serial low × AreAbove (entries_under it.entries issuer scope) serial high

pub begun_stays : (s : State) → Stays s s
begun_stays s = record { open_is = refl; now_is = refl; committed_is = refl; mode = refl }

pub then_stays : (first mid now : State) → Stays first mid → Stays mid now → Stays first now
then_stays first mid now a b = record { open_is = b.open_is ∙ a.open_is; now_is = b.now_is ∙ a.now_is; committed_is = b.committed_is ∙ a.committed_is; mode = b.mode ∙ a.mode }

pub still_holds : (first mid : State) (origin : Origin) (it : Contents) → Stays first mid → HasContents first.now origin it → HasContents mid.now origin it
still_holds first mid origin it stays held = subst (λ db. HasContents db origin it) (sym stays.now_is) held

pub search_begins : (s : State) (issuer scope : ℕ) (serial : List ℕ) → IsTrue s.in_transaction → IsNarrowed s s issuer scope serial 0 4294967296
search_begins s issuer scope serial inside = record {
  keeps = record { was_open = λ h. h; committed = λ _. refl };
  mode = inside;
  rows = λ origin it held form. (
    begun_stays s,
    no_places (entries_under it.entries issuer scope) serial,
    none_past (entries_under it.entries issuer scope) serial 4294967296 (let few = slot_fits it.entries issuer scope form.placed in omega (arith, slot_length it.entries issuer scope)),
  );
}

module _ (first mid now : State) (issuer scope : ℕ) (serial : List ℕ) (low high k : ℕ) (beside : SerialAtPlace) (so : IsNarrowed first mid issuer scope serial low high)
    (answer : HasFound mid now (λ it beside. beside ≡ beside_of (slice_get (entries_under it.entries issuer scope) k) serial) beside) where
  seen : (origin : Origin) (it : Contents) → HasContents first.now origin it → AreInForm it → Stays first now × (beside ≡ beside_of (slice_get (entries_under it.entries issuer scope) k) serial)
  seen origin it held form =
      let was = so.rows origin it held form in
      let is = answer.rows origin it (still_holds first mid origin it was.0 held) form in
      (then_stays first mid now was.0 is.0, is.1)

  pub search_up : beside ≡ Below → IsNarrowed first now issuer scope serial (k + 1) high
  search_up e = record {
    keeps = keeps_then first mid now so.keeps answer.keeps;
    mode = answer.mode;
    rows = λ origin it held form. let is = seen origin it held form in (is.0, below_more (entries_under it.entries issuer scope) serial k (form.placed.serials issuer scope) (sym is.1 ∙ e), (so.rows origin it held form).2);
  }

  pub search_down : beside ≡ Above → IsNarrowed first now issuer scope serial low k
  search_down e = record {
    keeps = keeps_then first mid now so.keeps answer.keeps;
    mode = answer.mode;
    rows = λ origin it held form. let is = seen origin it held form in (is.0, (so.rows origin it held form).1, above_here (entries_under it.entries issuer scope) serial k (form.placed.serials issuer scope) (sym is.1 ∙ e));
  }

  pub search_back : beside ≡ Nothing → IsNarrowed first now issuer scope serial low k
  search_back e = record {
    keeps = keeps_then first mid now so.keeps answer.keeps;
    mode = answer.mode;
    rows = λ origin it held form. let is = seen origin it held form in (is.0, (so.rows origin it held form).1, none_here (entries_under it.entries issuer scope) serial k (sym is.1 ∙ e));
  }

  pub search_ends : (reason : ℕ) → beside ≡ Same reason → HasFound first now (λ it found. found ≡ first_reason (entries_under it.entries issuer scope) serial) (Some reason)
  search_ends reason e = record {
    keeps = keeps_then first mid now so.keeps answer.keeps;
    mode = answer.mode;
    rows = λ origin it held form. let is = seen origin it held form in (is.0, sym (listed_here (entries_under it.entries issuer scope) serial k reason (form.placed.serials issuer scope) (sym is.1 ∙ e)));
  }

pub search_closes : (first now : State) (issuer scope : ℕ) (serial : List ℕ) (low high : ℕ) → IsNarrowed first now issuer scope serial low high → high ≤ low
    → HasFound {A = Option ℕ} first now (λ it found. found ≡ first_reason (entries_under it.entries issuer scope) serial) None
search_closes first now issuer scope serial low high so met = record {
  keeps = so.keeps;
  mode = so.mode;
  rows = λ origin it held form. let is = so.rows origin it held form in (is.0, sym (not_listed (entries_under it.entries issuer scope) serial low high is.1 is.2 met));
}

-- a look-up that fails on the way
pub search_fails : (first mid now : State) (issuer scope : ℕ) (serial : List ℕ) (low high : ℕ) (fault : StoreFault) → IsNarrowed first mid issuer scope serial low high → Fails mid now fault → Fails first now fault
search_fails first mid now issuer scope serial low high fault so f = record {
  keeps = keeps_then first mid now so.keeps f.keeps;
  formed = λ e origin it held form. let was = so.rows origin it held form in f.formed e origin it (still_holds first mid origin it was.0 held) form;
}

pub scope_low : (scope : Scope) → scope_number scope < 3
scope_low All = omega arith
scope_low User = omega arith
scope_low Ca = omega arith

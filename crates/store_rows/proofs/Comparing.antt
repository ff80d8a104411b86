-- The entries of a list beside others, one after the other.
use Rattle.std.proofs.Common.{◌≡◌, ◌↔◌, ◌⊎◌, ◌<◌, ◌+◌, ℕ, zero, suc, true, false, List, [], ◌∷◌, map, length, get_or, slice_get, Option, Some, None, Result, Ok, Err, IsTrue, refl, sym, ap, ◌∙◌, inl, inr, Less, Equal, Greater, arith, true≢false}
use Rattle.std.proofs.lemmas.Map.Text.{is_eq-slice_cmp}
use Rattle.std.specs.Ordering.{nat_cmp, is_eq}
use Rattle.std.specs.declared.cmp.Ordering.{Ordering}
use Rattle.std.specs.Cmp.Lexicographic.{slice_cmp, bytes_decides}
use Rattle.sqlite.specs.State.{State, KeepsCommit}
use Rattle.sqlite.proofs.InsideLemmas.{keeps_then}
use Rattle.statements_facts.specs.declared.revoked.Listed.{Listed}
use Rattle.statements_facts.specs.Listed.{ListedSerial, seen_listed}
use Rattle.store_sql.specs.declared.origin.Origin.{Origin}
use Rattle.store_sql.specs.declared.fault.StoreFault.{StoreFault}
use Rattle.store_rows.specs.declared.beside.SerialAtPlace.{SerialAtPlace}
use Rattle.store_rows.specs.declared.beside.SerialAtPlace.TheVariants.{Nothing, Same}
use Rattle.store_rows.specs.Contents.{Contents}
use Rattle.store_rows.specs.Places.{beside_serial, beside_of, entries_under}
use Rattle.store_rows.specs.Holding.{HasContents, AreInForm}
use Rattle.store_rows.specs.Steps.{Stays, Fails, Finds, HasFound}
use Rattle.store_rows.proofs.Halving.{is_same}
use Rattle.store_rows.proofs.Entries.{begun_stays, then_stays, still_holds}

-- ---- one entry

same_serial : (a b : List ℕ) → slice_cmp nat_cmp a b ≡ Equal → a ≡ b
same_serial a b e = (bytes_decides a b).0 (sym (is_eq-slice_cmp a b) ∙ ap is_eq e)

equal_of : (o : Ordering) → is_eq o ≡ true → o ≡ Equal
equal_of Less e = absurd (true≢false (sym e))
equal_of Equal e = refl
equal_of Greater e = absurd (true≢false (sym e))

itself : (a : List ℕ) → slice_cmp nat_cmp a a ≡ Equal
itself a = equal_of (slice_cmp nat_cmp a a) (is_eq-slice_cmp a a ∙ (bytes_decides a a).1 refl)

stands_there : (found : Option ListedSerial) (listed : ListedSerial) → beside_of found listed.serial ≡ Same listed.reason → found ≡ Some listed
stands_there None listed e = let no : Nothing ≡ Same listed.reason = e in cc
stands_there (Some there) listed e =
    let is = is_same (slice_cmp nat_cmp there.serial listed.serial) there.reason listed.reason e in
    let serial = same_serial there.serial listed.serial is.0 in
    let reason = is.1 in
    ap Some (λ i. record { serial = serial i; reason = reason i })

beside_itself : (listed : ListedSerial) → beside_of (Some listed) listed.serial ≡ Same listed.reason
beside_itself listed = ap (λ o. beside_serial o listed.reason) (itself listed.serial)

pub there_is : (there : _) (found : Option ListedSerial) (beside : SerialAtPlace) (listed : ListedSerial) → (IsTrue there ↔ (beside ≡ Same listed.reason)) → beside ≡ beside_of found listed.serial
    → IsTrue there ↔ (found ≡ Some listed)
there_is there found beside listed tests is = (
  λ yes. stands_there found listed (sym is ∙ tests.0 yes),
  λ e. tests.1 (is ∙ ap (λ o. beside_of o listed.serial) e ∙ beside_itself listed),
)

never_nothing : (o : Ordering) (reason : ℕ) → beside_serial o reason ≡ Nothing → ⊥
never_nothing Less reason e = cc
never_nothing Equal reason e = cc
never_nothing Greater reason e = cc

ended : (found : Option ListedSerial) (serial : List ℕ) → beside_of found serial ≡ Nothing → found ≡ None
ended None serial e = refl
ended (Some there) serial e = absurd (never_nothing (slice_cmp nat_cmp there.serial serial) there.reason e)

pub end_is : (ends : _) (found : Option ListedSerial) (beside : SerialAtPlace) (serial : List ℕ) → (IsTrue ends ↔ (beside ≡ Nothing)) → beside ≡ beside_of found serial → IsTrue ends ↔ (found ≡ None)
end_is ends found beside serial tests is = (λ yes. ended found serial (sym is ∙ tests.0 yes), λ e. tests.1 (is ∙ ap (λ o. beside_of o serial) e))

-- what is said of the rows says something else of them
pub finds_as : {A B : Type 0} (old new : State) (P : Contents → A → Type 0) (a : A) (R : Contents → B → Type 0) (b : B) → HasFound old new P a → ((it : Contents) → P it a → R it b) → HasFound old new R b
finds_as old new P a R b answer leads = record {
  keeps = answer.keeps;
  mode = answer.mode;
  rows = λ origin it held form. let is = answer.rows origin it held form in (is.0, leads it is.1);
}

-- ---- one after the other

same_lists : {X : Type 0} (xs ys : List X) → ((j : ℕ) → j < length ys → slice_get xs j ≡ slice_get ys j) → slice_get xs (length ys) ≡ None → xs ≡ ys
same_lists [] [] h e = refl
same_lists [] (y ∷ ys) h e = let no : None ≡ Some y = h 0 (omega arith) in cc
same_lists (x ∷ xs) [] h e = let no : Some x ≡ None = e in cc
same_lists (x ∷ xs) (y ∷ ys) h e =
    let first : Some x ≡ Some y = h 0 (omega arith) in
    let one : x ≡ y = cc in
    let rest = same_lists xs ys (λ j low. h (suc j) (omega (arith, low))) e in
    λ i. one i ∷ rest i

past_end : {X : Type 0} (xs : List X) → slice_get xs (length xs) ≡ None
past_end [] = refl
past_end (x ∷ xs) = past_end xs

got : (all : List Listed) (k : ℕ) (d : Listed) → k < length all → slice_get (map seen_listed all) k ≡ Some (seen_listed (get_or all k d))
got [] k d low = absurd (omega arith)
got (x ∷ all) zero d low = refl
got (x ∷ all) (suc k) d low = got all k d (omega arith)

-- up to an index the entries of the list are these
pub record AgreeUpTo (first now : State) (issuer scope : ℕ) (all : List ListedSerial) (k : ℕ) : Type 0 where
  pub keeps : KeepsCommit first now
  pub mode : IsTrue now.in_transaction
  pub rows : (origin : Origin) (it : Contents) → HasContents first.now origin it → AreInForm it → Stays first now × ((j : ℕ) → j < k → slice_get (entries_under it.entries issuer scope) j ≡ slice_get all j)

pub comparison_begins : (s : State) (issuer scope : ℕ) (all : List ListedSerial) → IsTrue s.in_transaction → AgreeUpTo s s issuer scope all 0
comparison_begins s issuer scope all inside = record {
  keeps = record { was_open = λ h. h; committed = λ _. refl };
  mode = inside;
  rows = λ origin it held form. (begun_stays s, λ j low. absurd (omega arith));
}

one_more : (xs ys : List ListedSerial) (k : ℕ) → ((j : ℕ) → j < k → slice_get xs j ≡ slice_get ys j) → slice_get xs k ≡ slice_get ys k → (j : ℕ) → j < k + 1 → slice_get xs j ≡ slice_get ys j
one_more xs ys k so here j low = elim (split j k (omega arith)) [
  | inl less ↦ so j less
  | inr same ↦ ap (slice_get xs) same ∙ here ∙ sym (ap (slice_get ys) same)
]
  where
    split : (j k : ℕ) → j < suc k → (j < k) ⊎ (j ≡ k)
    split j k h = grind arith

module _ (first mid now : State) (issuer scope : ℕ) (all : List Listed) (k : ℕ) (so : AgreeUpTo first mid issuer scope (map seen_listed all) k) where
  pub comparison_goes_on : (d : Listed) → k < length all → HasFound mid now (λ it there. IsTrue there ↔ (slice_get (entries_under it.entries issuer scope) k ≡ Some (seen_listed (get_or all k d)))) true
      → AgreeUpTo first now issuer scope (map seen_listed all) (k + 1)
  comparison_goes_on d low answer = record {
    keeps = keeps_then first mid now so.keeps answer.keeps;
    mode = answer.mode;
    rows = λ origin it held form.
        let was = so.rows origin it held form in
        let is = answer.rows origin it (still_holds first mid origin it was.0 held) form in
        (then_stays first mid now was.0 is.0, one_more (entries_under it.entries issuer scope) (map seen_listed all) k was.1 (is.1.0 refl ∙ sym (got all k d low)));
  }

  -- another entry stands there
  pub comparison_stops : (d : Listed) → k < length all → HasFound mid now (λ it there. IsTrue there ↔ (slice_get (entries_under it.entries issuer scope) k ≡ Some (seen_listed (get_or all k d)))) false
      → HasFound first now (λ it same. IsTrue same ↔ (entries_under it.entries issuer scope ≡ map seen_listed all)) false
  comparison_stops d low answer = record {
    keeps = keeps_then first mid now so.keeps answer.keeps;
    mode = answer.mode;
    rows = λ origin it held form.
        let was = so.rows origin it held form in
        let is = answer.rows origin it (still_holds first mid origin it was.0 held) form in
        (then_stays first mid now was.0 is.0, (λ no. absurd (true≢false (sym no)), λ e. is.1.1 (ap (λ xs. slice_get xs k) e ∙ got all k d low)));
  }

  pub comparison_fails : (fault : StoreFault) → Fails mid now fault → Fails first now fault
  comparison_fails fault f = record {
    keeps = keeps_then first mid now so.keeps f.keeps;
    formed = λ e origin it held form. let was = so.rows origin it held form in f.formed e origin it (still_holds first mid origin it was.0 held) form;
  }

length_seen : (all : List Listed) → length (map seen_listed all) ≡ length all
length_seen [] = refl
length_seen (x ∷ all) = ap suc (length_seen all)

-- all agree, so the lists are one where the first ends there too
pub comparison_ends : (first mid now : State) (issuer scope : ℕ) (all : List Listed) (result : Result _ StoreFault) → AgreeUpTo first mid issuer scope (map seen_listed all) (length all)
    → Finds mid now (λ it ends. IsTrue ends ↔ (slice_get (entries_under it.entries issuer scope) (length all) ≡ None)) result
    → Finds first now (λ it same. IsTrue same ↔ (entries_under it.entries issuer scope ≡ map seen_listed all)) result
comparison_ends first mid now issuer scope all (Ok ends) so answer = record {
  keeps = keeps_then first mid now so.keeps answer.keeps;
  mode = answer.mode;
  rows = λ origin it held form.
      let was = so.rows origin it held form in
      let is = answer.rows origin it (still_holds first mid origin it was.0 held) form in
      let size = length_seen all in (
        then_stays first mid now was.0 is.0,
        (
          λ yes. same_lists (entries_under it.entries issuer scope) (map seen_listed all) (λ j low. was.1 j (omega (arith, low, size))) (ap (slice_get (entries_under it.entries issuer scope)) size ∙ is.1.0 yes),
          λ e. is.1.1 (ap (λ xs. slice_get xs (length all)) e ∙ ap (slice_get (map seen_listed all)) (sym size) ∙ past_end (map seen_listed all)),
        ),
      );
}
comparison_ends first mid now issuer scope all (Err fault) so f = comparison_fails first mid now issuer scope all (length all) so fault f

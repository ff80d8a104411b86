-- What facts come to that are taken one after the other, place by place.
use Rattle.std.proofs.Common.{◌≡◌, ◌++◌, if◌then◌else◌, arith, ℕ, zero, suc, Bool, true, false, List, [], ◌∷◌, Option, Some, None, IsTrue, length, slice_get, take, filter_map, option_to_list, refl, sym, ap, subst, ◌∙◌, inl, inr, true≢false, Less, Equal, Greater}
use Rattle.std.specs.declared.cmp.Ordering.{Ordering}
use Rattle.std.specs.Ordering.{is_gt, nat_cmp, int_cmp, ordering_reverse, on, then_cmp}
use Rattle.std.specs.Cmp.{IsTotalOrder}
use Rattle.std.specs.List.{AllByRecursion}
use Rattle.std.proofs.lemmas.Bool.{cases_Bool}
use Rattle.std.proofs.lemmas.Cmp.{nat_cmp_total, int_cmp_total, on_total, then_total}
use Rattle.statements_facts.specs.Statement.{Holdings, CrlFact, OcspFact}
use Rattle.statements_facts.specs.Fact.{Fact}
use Rattle.statements_facts.specs.declared.counts.TakenAs.{TakenAs}
use Rattle.statements_facts.specs.declared.counts.TakenAs.TheVariants.{Stored, Kept, Contradicted}
use Rattle.statements_facts.specs.Newest.{KeepsNewest, held_after, newer_crl, newer_ocsp, newest_in}
use Rattle.statements_facts.specs.Coming.{ComeTo, ContradictsCrl, ContradictsOcsp, IsTakenAs, IsTakenBeside, after_all, after_one, crl_for, is_stored, ocsp_for}
use Rattle.statements_facts.proofs.Laws.{crls_keep_newest, responses_keep_newest, holds_newest, takes_both}
use Rattle.relying_agreement.specs.Becoming.{Becomes, ContradictsNewest, IsNewestYet, IsSortedAs, OutcomesArePlaces}

-- ---- what is newer than another is newer than all that the other is not exceeded by

record IsRanked {F : Type 0} (newer : F → F → Bool) : Type 0 where
  beats : (f h g : F) → newer f h ≡ true → newer g h ≡ false → newer f g ≡ true
  turns : (h g : F) → newer h g ≡ true → newer g h ≡ false

module _ {K : Type 0} (R : K → K → Ordering) (total : IsTotalOrder R) where
  greater : (o : Ordering) → is_gt o ≡ true → o ≡ Greater
  greater Less h = absurd (true≢false (sym h))
  greater Equal h = absurd (true≢false (sym h))
  greater Greater h = refl

  less_from : (a b : K) → R a b ≡ Greater → R b a ≡ Less
  less_from a b e = total.antisymm b a ∙ ap ordering_reverse e

  greater_from : (a b : K) → R a b ≡ Less → R b a ≡ Greater
  greater_from a b e = total.antisymm b a ∙ ap ordering_reverse e

  beats_by : (f h g : K) (o : Ordering) → R g h ≡ o → R f h ≡ Greater → is_gt o ≡ false → R f g ≡ Greater
  beats_by f h g Less e up low = greater_from g f (total.trans g h f e (less_from f h up))
  beats_by f h g Equal e up low = greater_from g f (total.congr g h f e ∙ less_from f h up)
  beats_by f h g Greater e up low = absurd (true≢false low)

  is_ranked : IsRanked (λ a b. is_gt (R a b))
  is_ranked = record {
    beats = λ f h g up low. ap is_gt (beats_by f h g (R g h) refl (greater (R f h) up) low);
    turns = λ h g up. ap is_gt (less_from h g (greater (R h g) up));
  }

-- ---- one fact beside the newest of those before it

module _ {Said : Type 0} (newer : Said → Said → Bool) (ranked : IsRanked newer) (keeps : KeepsNewest newer) (Contradicts : Option Said → Said → Type 0) (nothing : (fact : Said) → ¬ Contradicts None fact) where
  some_is_held : (facts : List Said) (held : Said) → held_after newer (Some held) facts ≡ None → ⊥
  some_is_held [] held e = absurd cc
  some_is_held (f ∷ facts) held e = elim (cases_Bool (newer f held)) [
    | inl up ↦ some_is_held facts f (sym (ap (λ (b : Bool). held_after newer (if b then Some f else Some held) facts) up) ∙ e)
    | inr low ↦ some_is_held facts held (sym (ap (λ (b : Bool). held_after newer (if b then Some f else Some held) facts) low) ∙ e)
  ]

  none_of_none : (seen : List Said) → newest_in newer seen ≡ None → seen ≡ []
  none_of_none [] e = refl
  none_of_none (x ∷ seen) e = absurd (some_is_held seen x (keeps.held (Some x) seen ∙ e))

  above : (fact held : Said) (before after : List Said) → newer fact held ≡ true → AllByRecursion (λ g. newer held g ≡ true) before → AllByRecursion (λ g. newer g held ≡ false) after
      → AllByRecursion (λ g. newer fact g ≡ true) (before ++ held ∷ after)
  above fact held [] after up older low = (up, behind after low)
    where
      behind : (xs : List Said) → AllByRecursion (λ g. newer g held ≡ false) xs → AllByRecursion (λ g. newer fact g ≡ true) xs
      behind [] none = tt
      behind (x ∷ xs) more = (ranked.beats fact held x up more.0, behind xs more.1)
  above fact held (x ∷ before) after up older low = (ranked.beats fact held x up (ranked.turns held x older.0), above fact held before after up older.1 low)

  among : (fact held : Said) (before after : List Said) → AllByRecursion (λ g. newer fact g ≡ true) (before ++ held ∷ after) → newer fact held ≡ true
  among fact held [] after all = all.0
  among fact held (x ∷ before) after all = among fact held before after all.1

  newest_yet : (seen : List Said) (fact : Said) (held : Option Said) → newest_in newer seen ≡ held → IsTrue (is_stored newer held fact) → IsNewestYet newer Contradicts seen fact
  newest_yet seen fact None e stored = subst (AllByRecursion (λ g. newer fact g ≡ true)) (sym (none_of_none seen e)) tt
  newest_yet seen fact (Some held) e stored =
      let h = (keeps.first seen held).0 e in
      subst (AllByRecursion (λ g. newer fact g ≡ true)) (sym h.is) (above fact held h.before h.after stored h.first h.last)

  stored_if : (seen : List Said) (fact : Said) (held : Option Said) → newest_in newer seen ≡ held → IsNewestYet newer Contradicts seen fact → IsTrue (is_stored newer held fact)
  stored_if seen fact None e all = refl
  stored_if seen fact (Some held) e all =
      let h = (keeps.first seen held).0 e in
      among fact held h.before h.after (subst (AllByRecursion (λ g. newer fact g ≡ true)) h.is all)

  contradicts_newest : (seen : List Said) (fact : Said) (held : Option Said) → newest_in newer seen ≡ held → Contradicts held fact → ContradictsNewest newer Contradicts seen fact
  contradicts_newest seen fact None e it = absurd (nothing fact it)
  contradicts_newest seen fact (Some held) e it = record { newest = held; is_newest = (keeps.first seen held).0 e; contradicts = it }

  contradicts_if : (seen : List Said) (fact : Said) → ContradictsNewest newer Contradicts seen fact → Contradicts (newest_in newer seen) fact
  contradicts_if seen fact it = subst (λ held. Contradicts held fact) (sym ((keeps.first seen it.newest).1 it.is_newest)) it.contradicts

  sorted : (seen : List Said) (fact : Said) (outcome : TakenAs) → IsTakenBeside newer Contradicts (newest_in newer seen) fact outcome → IsSortedAs newer Contradicts seen fact outcome
  sorted seen fact Stored it = newest_yet seen fact (newest_in newer seen) refl it
  sorted seen fact Contradicted it = contradicts_newest seen fact (newest_in newer seen) refl it
  sorted seen fact Kept it = (
    λ all. it.0 (stored_if seen fact (newest_in newer seen) refl all),
    λ contradicts. it.1 (contradicts_if seen fact contradicts),
  )

  taken : (seen : List Said) (fact : Said) (outcome : TakenAs) → IsSortedAs newer Contradicts seen fact outcome → IsTakenBeside newer Contradicts (newest_in newer seen) fact outcome
  taken seen fact Stored it = stored_if seen fact (newest_in newer seen) refl it
  taken seen fact Contradicted it = contradicts_if seen fact it
  taken seen fact Kept it = (
    λ stored. it.0 (newest_yet seen fact (newest_in newer seen) refl stored),
    λ contradicts. it.1 (contradicts_newest seen fact (newest_in newer seen) refl contradicts),
  )

-- ---- one fact that comes

crls_ranked : IsRanked newer_crl
crls_ranked = is_ranked (on (λ (f : CrlFact). f.number) nat_cmp) (on_total (λ (f : CrlFact). f.number) nat_cmp_total)

responses_ranked : IsRanked newer_ocsp
responses_ranked =
    is_ranked (then_cmp (on (λ (f : OcspFact). f.times.this_update) int_cmp) (on (λ (f : OcspFact). f.times.produced_at) int_cmp))
    (then_total (on_total (λ (f : OcspFact). f.times.this_update) int_cmp_total) (on_total (λ (f : OcspFact). f.times.produced_at) int_cmp_total))

becomes : (start : Holdings) (earlier : List Fact) (fact : Fact) (outcome : TakenAs) → IsTakenAs (after_all start earlier) fact outcome → Becomes start earlier fact outcome
becomes start earlier (Fact.OfCrl slot fact) outcome it =
    sorted newer_crl crls_ranked crls_keep_newest ContradictsCrl (λ f none. none) (option_to_list (start.crl slot) ++ filter_map (crl_for slot) earlier) fact outcome
    (subst (λ held. IsTakenBeside newer_crl ContradictsCrl held fact outcome) ((holds_newest start earlier).crl slot) it)
becomes start earlier (Fact.OfResponse slot fact) outcome it =
    sorted newer_ocsp responses_ranked responses_keep_newest ContradictsOcsp (λ f none. none) (option_to_list (start.ocsp slot) ++ filter_map (ocsp_for slot) earlier) fact outcome
    (subst (λ held. IsTakenBeside newer_ocsp ContradictsOcsp held fact outcome) ((holds_newest start earlier).ocsp slot) it)

comes : (start : Holdings) (earlier : List Fact) (fact : Fact) (outcome : TakenAs) → Becomes start earlier fact outcome → IsTakenAs (after_all start earlier) fact outcome
comes start earlier (Fact.OfCrl slot fact) outcome it =
    subst (λ held. IsTakenBeside newer_crl ContradictsCrl held fact outcome) (sym ((holds_newest start earlier).crl slot))
    (taken newer_crl crls_ranked crls_keep_newest ContradictsCrl (λ f none. none) (option_to_list (start.crl slot) ++ filter_map (crl_for slot) earlier) fact outcome it)
comes start earlier (Fact.OfResponse slot fact) outcome it =
    subst (λ held. IsTakenBeside newer_ocsp ContradictsOcsp held fact outcome) (sym ((holds_newest start earlier).ocsp slot))
    (taken newer_ocsp responses_ranked responses_keep_newest ContradictsOcsp (λ f none. none) (option_to_list (start.ocsp slot) ++ filter_map (ocsp_for slot) earlier) fact outcome it)

-- ---- facts in turn, behind those that came

none_behind : (xs : List Fact) → xs ++ [] ≡ xs
none_behind [] = refl
none_behind (x ∷ xs) = ap (λ more. x ∷ more) (none_behind xs)

one_then : (xs : List Fact) (y : Fact) (ys : List Fact) → (xs ++ y ∷ []) ++ ys ≡ xs ++ y ∷ ys
one_then [] y ys = refl
one_then (x ∷ xs) y ys = ap (λ more. x ∷ more) (one_then xs y ys)

one_later : (start : Holdings) (earlier : List Fact) (fact : Fact) → after_one (after_all start earlier) fact ≡ after_all start (earlier ++ fact ∷ [])
one_later start earlier fact = takes_both start earlier (fact ∷ [])

as_many : (held : Holdings) (facts : List Fact) (outcomes : List TakenAs) → ComeTo held facts outcomes → length outcomes ≡ length facts
as_many held [] [] come = refl
as_many held [] (o ∷ outcomes) come = absurd come
as_many held (f ∷ facts) [] come = absurd come
as_many held (f ∷ facts) (o ∷ outcomes) come = ap suc (as_many (after_one held f) facts outcomes come.1)

each_at : (start : Holdings) (earlier facts : List Fact) (outcomes : List TakenAs) → ComeTo (after_all start earlier) facts outcomes
    → (at : ℕ) (fact : Fact) (outcome : TakenAs) → slice_get facts at ≡ Some fact → slice_get outcomes at ≡ Some outcome → Becomes start (earlier ++ take at facts) fact outcome
each_at start earlier [] outcomes come at fact outcome here there = absurd cc
each_at start earlier (f ∷ facts) [] come at fact outcome here there = absurd come
each_at start earlier (f ∷ facts) (o ∷ outcomes) come zero fact outcome here there =
    let same : f ≡ fact = cc in
    let also : o ≡ outcome = cc in
    subst (λ xs. Becomes start xs fact outcome) (sym (none_behind earlier))
    (becomes start earlier fact outcome (subst (λ x. IsTakenAs (after_all start earlier) x outcome) same (subst (IsTakenAs (after_all start earlier) f) also come.0)))
each_at start earlier (f ∷ facts) (o ∷ outcomes) come (suc at) fact outcome here there =
    subst (λ xs. Becomes start xs fact outcome) (one_then earlier f (take at facts))
    (each_at start (earlier ++ f ∷ []) facts outcomes (subst (λ held. ComeTo held facts outcomes) (one_later start earlier f) come.1) at fact outcome here there)

come_from : (start : Holdings) (earlier facts : List Fact) (outcomes : List TakenAs) → length outcomes ≡ length facts
    → ((at : ℕ) (fact : Fact) (outcome : TakenAs) → slice_get facts at ≡ Some fact → slice_get outcomes at ≡ Some outcome → Becomes start (earlier ++ take at facts) fact outcome)
    → ComeTo (after_all start earlier) facts outcomes
come_from start earlier [] [] many each = tt
come_from start earlier [] (o ∷ outcomes) many each = absurd (omega (arith, many))
come_from start earlier (f ∷ facts) [] many each = absurd (omega (arith, many))
come_from start earlier (f ∷ facts) (o ∷ outcomes) many each = (
  comes start earlier f o (subst (λ xs. Becomes start xs f o) (none_behind earlier) (each 0 f o refl refl)),
  subst (λ held. ComeTo held facts outcomes) (sym (one_later start earlier f))
      (come_from start (earlier ++ f ∷ []) facts outcomes (omega (arith, many))
      (λ at fact outcome here there. subst (λ xs. Becomes start xs fact outcome) (sym (one_then earlier f (take at facts))) (each (suc at) fact outcome here there))),
)

pub outcomes_are_places : OutcomesArePlaces
outcomes_are_places start facts outcomes = (
  λ come. record { as_many = as_many start facts outcomes come; each = each_at start [] facts outcomes come },
  λ are. come_from start [] facts outcomes are.as_many are.each,
)

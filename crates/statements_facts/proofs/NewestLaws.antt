-- What is kept of a list, one after another, is its newest.
use Rattle.std.proofs.Common.{◌≡◌, Bool, true, false, not, ◌&&◌, List, [], ◌∷◌, ◌++◌, Option, Some, None, find, option_to_list, refl, sym, ap, subst, ◌∙◌, inl, inr, true≢false, Less, Equal, Greater, if◌then◌else◌}
use Rattle.std.specs.declared.cmp.Ordering.{Ordering}
use Rattle.std.specs.Ordering.{is_gt, nat_cmp, int_cmp, ordering_then, ordering_reverse, on, then_cmp}
use Rattle.std.specs.Cmp.{IsTotalOrder}
use Rattle.std.specs.List.{list_all, AllByRecursion}
use Rattle.std.proofs.lemmas.Bool.{cases_Bool, false_from_ne_true}
use Rattle.std.proofs.lemmas.Cmp.{nat_cmp_total, int_cmp_total, on_total, then_total}
use Rattle.statements_facts.specs.Statement.{CrlFact, Times, OcspFact}
use Rattle.statements_facts.specs.Newest.{newer_crl, newer_ocsp, is_unexceeded, newest_in, IsNewest, newer_of, held_after, KeepsNewest}

joined_again : {F : Type 0} (xs ys : List F) (y : F) (zs : List F) → (xs ++ y ∷ ys) ++ zs ≡ xs ++ y ∷ (ys ++ zs)
joined_again [] ys y zs = refl
joined_again (x ∷ xs) ys y zs = ap (λ more. x ∷ more) (joined_again xs ys y zs)

one_by_one : {F : Type 0} (xs : List F) (y : F) (ys : List F) → (xs ++ y ∷ []) ++ ys ≡ xs ++ y ∷ ys
one_by_one [] y ys = refl
one_by_one (x ∷ xs) y ys = ap (λ more. x ∷ more) (one_by_one xs y ys)

none_added : {F : Type 0} (xs : List F) → xs ++ [] ≡ xs
none_added [] = refl
none_added (x ∷ xs) = ap (λ more. x ∷ more) (none_added xs)

-- an order by which a newest can be told
record IsOrder {F : Type 0} (newer : F → F → Bool) : Type 0 where
  steps : (a b c : F) → newer a b ≡ true → newer b c ≡ true → newer a c ≡ true
  never : (a b c : F) → newer a b ≡ false → newer b c ≡ false → newer a c ≡ false
  not_itself : (a : F) → newer a a ≡ false

module _ {K : Type 0} (R : K → K → Ordering) (total : IsTotalOrder R) where
  gt_is : (o : Ordering) → is_gt o ≡ true → o ≡ Greater
  gt_is Less h = absurd (true≢false (sym h))
  gt_is Equal h = absurd (true≢false (sym h))
  gt_is Greater h = refl

  turned : (a b : K) → R a b ≡ Greater → R b a ≡ Less
  turned a b e = total.antisymm b a ∙ ap ordering_reverse e

  steps_gt : (a b c : K) → R a b ≡ Greater → R b c ≡ Greater → R a c ≡ Greater
  steps_gt a b c x y = total.antisymm a c ∙ ap ordering_reverse (total.trans c b a (turned b c y) (turned a b x))

  is_order : IsOrder (λ a b. is_gt (R a b))
  is_order = record {
    steps = λ a b c x y. ap is_gt (steps_gt a b c (gt_is (R a b) x) (gt_is (R b c) y));
    never = λ a b c x y. false_from_ne_true _ (λ up. from a b c x y (gt_is (R a c) up) (R a b) refl);
    not_itself = λ a. itself a (R a a) refl;
  }
    where
      from : (a b c : K) → is_gt (R a b) ≡ false → is_gt (R b c) ≡ false → R a c ≡ Greater → (o : Ordering) → R a b ≡ o → ⊥
      from a b c x y up Less e = true≢false (sym (ap is_gt (steps_gt b a c (total.antisymm b a ∙ ap ordering_reverse e) up)) ∙ y)
      from a b c x y up Equal e = true≢false (sym (ap is_gt (sym (total.congr a b c e) ∙ up)) ∙ y)
      from a b c x y up Greater e = true≢false (sym (ap is_gt e) ∙ x)

      itself : (a : K) (o : Ordering) → R a a ≡ o → is_gt (R a a) ≡ false
      itself a Less e = ap is_gt e
      itself a Equal e = ap is_gt e
      itself a Greater e = absurd (let l = turned a a e in let same : Greater ≡ Less = sym e ∙ l in true≢false (ap is_gt same))

module _ {F : Type 0} (newer : F → F → Bool) (order : IsOrder newer) where
  abbrev IsHeldOf : List F → Option F → Type 0
  IsHeldOf all None = all ≡ []
  IsHeldOf all (Some f) = IsNewest newer all f

  above_all : (f h : F) (before after : List F) → newer f h ≡ true → AllByRecursion (λ g. newer h g ≡ true) before → AllByRecursion (λ g. newer g h ≡ false) after
      → AllByRecursion (λ g. newer f g ≡ true) (before ++ h ∷ after)
  above_all f h [] after up a b = (up, behind after b)
    where
      behind : (xs : List F) → AllByRecursion (λ g. newer g h ≡ false) xs → AllByRecursion (λ g. newer f g ≡ true) xs
      behind [] none = tt
      behind (x ∷ xs) more = (
        elim (cases_Bool (newer f x)) [
          | inl is ↦ is
          | inr not_newer ↦ absurd (true≢false (sym up ∙ order.never f x h not_newer more.0))
        ],
        behind xs more.1,
      )
  above_all f h (x ∷ before) after up a b = (order.steps f h x up a.0, above_all f h before after up a.1 b)

  one_behind : (f h : F) (xs : List F) → AllByRecursion (λ g. newer g h ≡ false) xs → newer f h ≡ false → AllByRecursion (λ g. newer g h ≡ false) (xs ++ f ∷ [])
  one_behind f h [] a low = (low, tt)
  one_behind f h (x ∷ xs) a low = (a.0, one_behind f h xs a.1 low)

  one_more : (all : List F) (held : Option F) (f : F) → IsHeldOf all held → IsHeldOf (all ++ f ∷ []) (newer_of newer held f)
  one_more all None f h = record { before = []; after = []; is = ap (λ xs. xs ++ f ∷ []) h; first = tt; last = tt }
  one_more all (Some held) f h = elim (cases_Bool (newer f held)) [
    | inl up ↦ rw up (record { before = all; after = []; is = refl; first = subst (AllByRecursion (λ g. newer f g ≡ true)) (sym h.is) (above_all f held h.before h.after up h.first h.last); last = tt })
    | inr low ↦ rw low (record { before = h.before; after = h.after ++ f ∷ []; is = ap (λ xs. xs ++ f ∷ []) h.is ∙ joined_again h.before h.after held (f ∷ []); first = h.first; last = one_behind f held h.after h.last low })
  ]

  folds_on : (all more : List F) (held : Option F) → IsHeldOf all held → IsHeldOf (all ++ more) (held_after newer held more)
  folds_on all [] held h = subst (λ xs. IsHeldOf xs held) (sym (none_added all)) h
  folds_on all (f ∷ more) held h = subst (λ xs. IsHeldOf xs (held_after newer (newer_of newer held f) more)) (one_by_one all f more) (folds_on (all ++ f ∷ []) more (newer_of newer held f) (one_more all held f h))

  unexceeded : (all : List F) (f : F) → IsNewest newer all f → AllByRecursion (λ g. newer g f ≡ false) all
  unexceeded all f h = subst (AllByRecursion (λ g. newer g f ≡ false)) (sym h.is) (both h.before h.first)
    where
      both : (xs : List F) → AllByRecursion (λ g. newer f g ≡ true) xs → AllByRecursion (λ g. newer g f ≡ false) (xs ++ f ∷ h.after)
      both [] none = (order.not_itself f, h.last)
      both (x ∷ xs) more = (
        elim (cases_Bool (newer x f)) [
          | inl up ↦ absurd (true≢false (sym (order.steps x f x up more.0) ∙ order.not_itself x))
          | inr low ↦ low
        ],
        both xs more.1,
      )

  -- ---- the newest of a list is its first that none exceeds

  none_newer : (f : F) (xs : List F) → AllByRecursion (λ g. newer g f ≡ false) xs → list_all (λ other. not (newer other f)) xs ≡ true
  none_newer f [] all = refl
  none_newer f (x ∷ xs) all = ap (λ b. not b && list_all (λ other. not (newer other f)) xs) all.0 ∙ none_newer f xs all.1

  and_false : (b : Bool) → (b && false) ≡ false
  and_false true = refl
  and_false false = refl

  one_newer : (f g : F) (xs ys : List F) → newer f g ≡ true → list_all (λ other. not (newer other g)) (xs ++ f ∷ ys) ≡ false
  one_newer f g [] ys up = ap (λ b. not b && list_all (λ other. not (newer other g)) ys) up
  one_newer f g (x ∷ xs) ys up = ap (λ b. not (newer x g) && b) (one_newer f g xs ys up) ∙ and_false (not (newer x g))

  found_after : (test : F → Bool) (xs : List F) (f : F) (ys : List F) → AllByRecursion (λ g. test g ≡ false) xs → test f ≡ true → find test (xs ++ f ∷ ys) ≡ Some f
  found_after test [] f ys none here = ap (λ b. if b then Some f else find test ys) here
  found_after test (x ∷ xs) f ys none here = ap (λ b. if b then Some x else find test (xs ++ f ∷ ys)) none.0 ∙ found_after test xs f ys none.1 here

  held_is_newest : (all : List F) (h : Option F) → IsHeldOf all h → newest_in newer all ≡ h
  held_is_newest all None is = ap (newest_in newer) is
  held_is_newest all (Some f) h = ap (find (is_unexceeded newer all)) h.is
      ∙ found_after (is_unexceeded newer all) h.before f h.after (older h.before h.first) (none_newer f all (unexceeded all f h))
    where
      older : (xs : List F) → AllByRecursion (λ g. newer f g ≡ true) xs → AllByRecursion (λ g. is_unexceeded newer all g ≡ false) xs
      older [] none = tt
      older (x ∷ xs) more = (ap (list_all (λ other. not (newer other x))) h.is ∙ one_newer f x h.before h.after more.0, older xs more.1)

  alone : (h : Option F) → IsHeldOf (option_to_list h) h
  alone None = refl
  alone (Some f) = record { before = []; after = []; is = refl; first = tt; last = tt }

  held_of : (start : Option F) (facts : List F) → IsHeldOf (option_to_list start ++ facts) (held_after newer start facts)
  held_of start facts = folds_on (option_to_list start) facts start (alone start)

  held_newest : (start : Option F) (facts : List F) → held_after newer start facts ≡ newest_in newer (option_to_list start ++ facts)
  held_newest start facts = sym (held_is_newest (option_to_list start ++ facts) (held_after newer start facts) (held_of start facts))

  both_lists : (start : Option F) (xs ys : List F) → held_after newer start (xs ++ ys) ≡ held_after newer (held_after newer start xs) ys
  both_lists start [] ys = refl
  both_lists start (x ∷ xs) ys = both_lists (newer_of newer start x) xs ys

  keeps_newest : KeepsNewest newer
  keeps_newest = record {
    held = held_newest;
    first = λ facts fact. (
      λ e. subst (IsHeldOf facts) (held_newest None facts ∙ e) (held_of None facts),
      held_is_newest facts (Some fact),
    );
    joined = λ xs ys.
        sym (held_newest (newest_in newer xs) ys)
        ∙ ap (λ h. held_after newer h ys) (sym (held_newest None xs))
        ∙ sym (both_lists None xs ys)
        ∙ held_newest None (xs ++ ys);
  }

pub crls_keep_newest : KeepsNewest newer_crl
crls_keep_newest = keeps_newest newer_crl (is_order (on (λ (f : CrlFact). f.number) nat_cmp) (on_total (λ (f : CrlFact). f.number) nat_cmp_total))

pub responses_keep_newest : KeepsNewest newer_ocsp
responses_keep_newest =
    keeps_newest newer_ocsp
    (is_order (then_cmp (on (λ (f : OcspFact). f.times.this_update) int_cmp) (on (λ (f : OcspFact). f.times.produced_at) int_cmp))
    (then_total (on_total (λ (f : OcspFact). f.times.this_update) int_cmp_total) (on_total (λ (f : OcspFact). f.times.produced_at) int_cmp_total)))

itself_not : {K : Type 0} (R : K → K → Ordering) → IsTotalOrder R → (a : K) → is_gt (R a a) ≡ false
itself_not R total a = (is_order R total).not_itself a

-- a fact of the same number, or of the same times, is not newer

pub never_itself_crl : (one other : CrlFact) → one.number ≡ other.number → newer_crl one other ≡ true → ⊥
never_itself_crl one other same up =
    true≢false (sym up ∙ ap (λ n. is_gt (nat_cmp one.number n)) (sym same) ∙ itself_not nat_cmp nat_cmp_total one.number)

pub never_itself_ocsp : (one other : OcspFact) → one.times ≡ other.times → newer_ocsp one other ≡ true → ⊥
never_itself_ocsp one other same up =
    true≢false (sym up ∙ ap (λ (times : Times). is_gt (ordering_then (int_cmp one.times.this_update times.this_update) (int_cmp one.times.produced_at times.produced_at))) (sym same) ∙ by_times one.times)
  where
    by_times : (times : Times) → is_gt (ordering_then (int_cmp times.this_update times.this_update) (int_cmp times.produced_at times.produced_at)) ≡ false
    by_times times = itself_not (then_cmp (on (λ (t : Times). t.this_update) int_cmp) (on (λ (t : Times). t.produced_at) int_cmp))
        (then_total (on_total (λ (t : Times). t.this_update) int_cmp_total) (on_total (λ (t : Times). t.produced_at) int_cmp_total)) times

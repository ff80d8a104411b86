-- A narrowed list holds just the names that both lists hold, and is no longer than the two together.
use Rattle.std.proofs.Common.{◌≡◌, ◌+◌, ◌≤◌, List, [], ◌∷◌, ◌++◌, Bool, true, false, not, ◌&&◌, ◌||◌, cond, filter, length, arith, refl, ap, ◌∙◌, sym, inl, inr, length-append, ◌↔◌, Option, Some, None}
use Rattle.std.specs.List.{list_any}
use Rattle.std.proofs.lemmas.List.Folds.{list_any-append}
use Rattle.std.proofs.lemmas.Bool.{or_cases, or_left, or_right, and_parts, and_from}
use Rattle.names.specs.GeneralName.{IsProcessed}
use Rattle.names.specs.GeneralLayout.{GeneralName, SubtreeBase}
use Rattle.names.specs.GeneralView.{subtree_base}
use Rattle.names.specs.GeneralCoverage.{is_covered, is_base_inside, is_of_form, LiesInSubtree, form_of_base, form_of_general_name, CoverageTestIsExact, BaseInsideIsSound, SharedBasesAreNested, CoveredIsOfForm, CoveredIsProcessed, BaseFormTestIsExact}
use Rattle.names.specs.declared.subtree.Subtree.{Subtree}
use Rattle.names.specs.declared.general.Form.{Form}
use Rattle.names.specs.declared.general.Form.TheVariants as F
use Rattle.names.proofs.Laws.{coverage_test_is_exact, base_inside_is_sound, shared_bases_are_nested, covered_is_of_form, covered_is_processed, base_form_test_is_exact}
use Rattle.path_conditions.specs.NamesOf.{IsInOneOf, AreAbout}
use Rattle.path_conditions.specs.Narrowing.{bases_of, selected, is_in_one_of, are_about, is_inside_one_of, has_processed, is_processed_base, kept, enters, narrowed, of_form, narrowed_with, changed, change_of}
use Rattle.path_conditions.specs.Constraints.{Constraints}
use Rattle.path_conditions.proofs.Selecting.{pick, list_any-weaker, none_weaker, any_decides, list_any-filter, map-filter, length-filter-le, length-filter-and, length-filter-cons}

-- the laws of names and subtrees that narrowing rests on
pub record Laws : Type 0 where
  pub test : CoverageTestIsExact
  pub sound : BaseInsideIsSound
  pub nested : SharedBasesAreNested
  pub form : CoveredIsOfForm
  pub processed : CoveredIsProcessed
  pub form_test : BaseFormTestIsExact

pub laws_of_names : Laws
laws_of_names = record {
  test = coverage_test_is_exact;
  sound = base_inside_is_sound;
  nested = shared_bases_are_nested;
  form = covered_is_of_form;
  processed = covered_is_processed;
  form_test = base_form_test_is_exact;
}

pub in_one : Laws → (bases : List SubtreeBase) (name : GeneralName) → (is_in_one_of bases name ≡ true) ↔ IsInOneOf bases name
in_one laws bases name = any_decides (λ base. is_covered name base) (λ base. LiesInSubtree name base) (λ base. laws.test name base) bases

pub about : Laws → (bases : List SubtreeBase) (form : Form) → (are_about bases form ≡ true) ↔ AreAbout bases form
about laws bases form = any_decides (λ base. is_of_form base form) (λ base. form_of_base base ≡ form) (λ base. laws.form_test base form) bases

-- what the code computes of subtrees, of what their bases say
pub bases_of-selected : (p : SubtreeBase → Bool) (list : List Subtree) → bases_of (selected p list) ≡ filter p (bases_of list)
bases_of-selected p list = map-filter p subtree_base list

change_loud : (form : Form) (held : Option (List SubtreeBase)) (carried : List SubtreeBase) → are_about carried form ≡ true → Some (narrowed_with form held carried) ≡ change_of form held carried
change_loud form held carried loud = rw loud refl

pub list_begun : (form : Form) (list carried : List SubtreeBase) → are_about carried form ≡ true → list ≡ of_form form carried → Some list ≡ changed None (change_of form None carried)
list_begun form list carried loud made = ap (λ (l : List SubtreeBase). changed None (Some l)) made ∙ ap (changed None) (change_loud form None carried loud)

pub list_narrowed : (form : Form) (held carried : List SubtreeBase) (change : Option (List SubtreeBase)) → are_about carried form ≡ true → changed (Some held) change ≡ Some (narrowed form held carried)
    → changed (Some held) change ≡ changed (Some held) (change_of form (Some held) carried)
list_narrowed form held carried change loud made = made ∙ ap (changed (Some held)) (change_loud form (Some held) carried loud)

pub excluded_are : (list before : List SubtreeBase) (carried : List Subtree) → list ≡ before ++ bases_of (selected (λ base. is_processed_base base) carried)
    → list ≡ before ++ filter (λ base. is_processed_base base) (bases_of carried)
excluded_are list before carried made = made ∙ ap (λ (l : List SubtreeBase). before ++ l) (bases_of-selected (λ base. is_processed_base base) carried)

pub constraints_are : (one other : Constraints) → one.directory ≡ other.directory → one.dns ≡ other.dns → one.ip ≡ other.ip → one.excluded ≡ other.excluded → one.hosts ≡ other.hosts → one ≡ other
constraints_are one other a b c d e = λ i. record { directory = a i; dns = b i; ip = c i; excluded = d i; hosts = e i }

module _ (laws : Laws) (form : Form) (held carried : List SubtreeBase) (x : GeneralName) where
  within : (s t : SubtreeBase) → is_base_inside s t ≡ true → is_covered x s ≡ true → is_covered x t ≡ true
  within s t i c = (laws.test x t).1 (laws.sound x s t i ((laws.test x s).0 c))

  right_form : (s : SubtreeBase) → form_of_general_name x ≡ form → is_covered x s ≡ true → is_of_form s form ≡ true
  right_form s same c = (laws.form_test s form).1 (laws.form x s ((laws.test x s).0 c) ∙ same)

  from_held : (s : SubtreeBase) → (is_inside_one_of carried s && is_covered x s) ≡ true → is_in_one_of carried x ≡ true
  from_held s h =
      let both = and_parts (is_inside_one_of carried s) (is_covered x s) h in
      list_any-weaker (λ t. is_base_inside s t) (λ t. is_covered x t) carried (λ t i. within s t i both.1) both.0

  both_held : list_any (λ s. is_inside_one_of carried s && is_covered x s) held ≡ true → (is_in_one_of held x ≡ true) × (is_in_one_of carried x ≡ true)
  both_held h =
      let m = pick (λ s. is_inside_one_of carried s && is_covered x s) held h in
      (m.among (λ s. is_covered x s) (and_parts (is_inside_one_of carried m.item) _ m.passes).1, from_held m.item m.passes)

  from_carried : (s : SubtreeBase) → (enters form held (kept held carried) s && is_covered x s) ≡ true → is_in_one_of held x ≡ true
  from_carried s h =
      let both = and_parts (enters form held (kept held carried) s) (is_covered x s) h in
      let inner = and_parts (is_of_form s form) _ both.0 in
      list_any-weaker (λ t. is_base_inside s t) (λ t. is_covered x t) held (λ t i. within s t i both.1) (and_parts (is_inside_one_of held s) _ inner.1).0

  both_carried : list_any (λ s. enters form held (kept held carried) s && is_covered x s) carried ≡ true → (is_in_one_of held x ≡ true) × (is_in_one_of carried x ≡ true)
  both_carried h =
      let m = pick (λ s. enters form held (kept held carried) s && is_covered x s) carried h in
      (from_carried m.item m.passes, m.among (λ s. is_covered x s) (and_parts (enters form held (kept held carried) m.item) _ m.passes).1)

  in_parts : is_in_one_of (narrowed form held carried) x
      ≡ (is_in_one_of (kept held carried) x || is_in_one_of (filter (λ s. enters form held (kept held carried) s) carried) x)
  in_parts = list_any-append (λ s. is_covered x s) (kept held carried) (filter (λ s. enters form held (kept held carried) s) carried)

  narrowed_is : is_in_one_of (narrowed form held carried) x
      ≡ (list_any (λ s. is_inside_one_of carried s && is_covered x s) held || list_any (λ s. enters form held (kept held carried) s && is_covered x s) carried)
  narrowed_is =
      in_parts
      ∙ (ap (λ b. b || is_in_one_of (filter (λ s. enters form held (kept held carried) s) carried) x) (list_any-filter (λ s. is_covered x s) (λ s. is_inside_one_of carried s) held)
      ∙ ap (λ b. list_any (λ s. is_inside_one_of carried s && is_covered x s) held || b) (list_any-filter (λ s. is_covered x s) (λ s. enters form held (kept held carried) s) carried))

  -- a subtree that is inside one that is kept has only names that are there already
  inside_kept : (q : SubtreeBase) → is_covered x q ≡ true → is_inside_one_of (kept held carried) q ≡ true → is_in_one_of (narrowed form held carried) x ≡ true
  inside_kept q covers i = in_parts ∙ or_left _ _ (list_any-weaker (λ t. is_base_inside q t) (λ t. is_covered x t) (kept held carried) (λ t j. within q t j covers) i)

  pub narrowed_sound : is_in_one_of (narrowed form held carried) x ≡ true → (is_in_one_of held x ≡ true) × (is_in_one_of carried x ≡ true)
  narrowed_sound h = elim (or_cases _ _ (sym narrowed_is ∙ h)) [ inl a ↦ both_held a | inr b ↦ both_carried b ]

  pub narrowed_complete : form_of_general_name x ≡ form → is_in_one_of held x ≡ true → is_in_one_of carried x ≡ true → is_in_one_of (narrowed form held carried) x ≡ true
  narrowed_complete same a b =
      let p = pick (λ s. is_covered x s) held a in
      let q = pick (λ s. is_covered x s) carried b in
      elim (laws.nested x p.item q.item ((laws.test x p.item).0 p.passes) ((laws.test x q.item).0 q.passes)) [
        | inl i ↦ narrowed_is ∙ or_left _ _ (p.among (λ s. is_inside_one_of carried s && is_covered x s)
            (and_from (is_inside_one_of carried p.item) (is_covered x p.item) (q.among (λ t. is_base_inside p.item t) i) p.passes))
        | inr i ↦ entering q.item q.passes (right_form q.item same q.passes) (p.among (λ t. is_base_inside q.item t) i) (λ test. q.among test) (is_inside_one_of (kept held carried) q.item) refl
      ] where
        entering : (q : SubtreeBase) → is_covered x q ≡ true → is_of_form q form ≡ true → is_inside_one_of held q ≡ true → ((test : SubtreeBase → Bool) → test q ≡ true → list_any test carried ≡ true)
            → (b : Bool) → is_inside_one_of (kept held carried) q ≡ b → is_in_one_of (narrowed form held carried) x ≡ true
        entering q covers right inside among true e = inside_kept q covers e
        entering q covers right inside among false e =
            narrowed_is ∙ or_right _ _ (among (λ s. enters form held (kept held carried) s && is_covered x s)
            (and_from (enters form held (kept held carried) q) (is_covered x q)
            (and_from (is_of_form q form) (is_inside_one_of held q && not (is_inside_one_of (kept held carried) q)) right
            (and_from (is_inside_one_of held q) (not (is_inside_one_of (kept held carried) q)) inside (ap not e))) covers))

  -- a name of the form lies in a subtree of the form
  pub of_form_is : form_of_general_name x ≡ form → is_in_one_of carried x ≡ true → is_in_one_of (of_form form carried) x ≡ true
  of_form_is same b =
      let q = pick (λ s. is_covered x s) carried b in
      list_any-filter (λ s. is_covered x s) (λ s. is_of_form s form) carried
      ∙ q.among (λ s. is_of_form s form && is_covered x s) (and_from (is_of_form q.item form) (is_covered x q.item) (right_form q.item same q.passes) q.passes)

  pub of_form_from : is_in_one_of (of_form form carried) x ≡ true → is_in_one_of carried x ≡ true
  of_form_from h =
      let g = sym (list_any-filter (λ s. is_covered x s) (λ s. is_of_form s form) carried) ∙ h in
      list_any-weaker (λ s. is_of_form s form && is_covered x s) (λ s. is_covered x s) carried (λ s e. (and_parts (is_of_form s form) _ e).1) g

-- a narrowed list is no longer than the held one and the subtrees of the form that came
pub length-narrowed : (form : Form) (held carried : List SubtreeBase) → length (narrowed form held carried) ≤ length held + length (of_form form carried)
length-narrowed form held carried =
    let a = length-filter-le (λ s. is_inside_one_of carried s) held in
    let b = length-filter-and (λ s. is_of_form s form) (λ s. is_inside_one_of held s && not (is_inside_one_of (kept held carried) s)) carried in
    let c = length-append (kept held carried) (filter (λ s. enters form held (kept held carried) s) carried) in
    omega arith

-- processed forms

pub no_directory : (bases : List SubtreeBase) → has_processed bases ≡ false → are_about bases F.Directory ≡ false
no_directory bases h = none_weaker (λ s. is_of_form s F.Directory) (λ s. is_processed_base s) bases (λ s e. or_left _ _ e) h

pub no_dns : (bases : List SubtreeBase) → has_processed bases ≡ false → are_about bases F.Dns ≡ false
no_dns bases h = none_weaker (λ s. is_of_form s F.Dns) (λ s. is_processed_base s) bases (λ s e. or_right _ _ (or_left _ _ e)) h

pub no_ip : (bases : List SubtreeBase) → has_processed bases ≡ false → are_about bases F.Ip ≡ false
no_ip bases h = none_weaker (λ s. is_of_form s F.Ip) (λ s. is_processed_base s) bases (λ s e. or_right _ _ (or_right _ _ e)) h

module _ (laws : Laws) where
  pub processed_test : (s : SubtreeBase) (f : Form) → form_of_base s ≡ f → IsProcessed f → is_processed_base s ≡ true
  processed_test s F.Directory e p = or_left _ _ ((laws.form_test s F.Directory).1 e)
  processed_test s F.Dns e p = or_right _ _ (or_left _ _ ((laws.form_test s F.Dns).1 e))
  processed_test s F.Ip e p = or_right _ _ (or_right _ _ ((laws.form_test s F.Ip).1 e))
  processed_test s (F.Other n) e p = absurd p

  apart : (s : SubtreeBase) (f g : Form) → (f ≡ g → ⊥) → is_of_form s f ≡ true → is_of_form s g ≡ true → ⊥
  apart s f g ne a b = ne (sym ((laws.form_test s f).0 a) ∙ (laws.form_test s g).0 b)

  one_each : (a b c : Bool) → (a ≡ true → b ≡ true → ⊥) → (a ≡ true → c ≡ true → ⊥) → (b ≡ true → c ≡ true → ⊥) → cond a 1 0 + cond b 1 0 + cond c 1 0 ≤ 1
  one_each true true c f g h = absurd (f refl refl)
  one_each true false true f g h = absurd (g refl refl)
  one_each true false false f g h = omega arith
  one_each false true true f g h = absurd (h refl refl)
  one_each false true false f g h = omega arith
  one_each false false true f g h = omega arith
  one_each false false false f g h = omega arith

  -- a subtree is of one form
  pub three_forms : (bases : List SubtreeBase) → length (of_form F.Directory bases) + length (of_form F.Dns bases) + length (of_form F.Ip bases) ≤ length bases
  three_forms [] = omega arith
  three_forms (s ∷ bases) =
      let ih = three_forms bases in
      let a = length-filter-cons (λ t. is_of_form t F.Directory) s bases in
      let b = length-filter-cons (λ t. is_of_form t F.Dns) s bases in
      let c = length-filter-cons (λ t. is_of_form t F.Ip) s bases in
      let one = one_each (is_of_form s F.Directory) (is_of_form s F.Dns) (is_of_form s F.Ip)
      (apart s F.Directory F.Dns (λ e. cc)) (apart s F.Directory F.Ip (λ e. cc)) (apart s F.Dns F.Ip (λ e. cc)) in
      omega arith

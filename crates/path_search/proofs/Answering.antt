-- The constraints that an authority has at hand answer for those that its certificate carries.
use Rattle.std.proofs.Common.{◌≡◌, ◌↔◌, ℕ, List, [], Bool, true, false, not, ◌||◌, ◌&&◌, filter, None, refl, ap, subst, ◌∙◌, sym, inl, inr}
use Rattle.std.specs.List.{list_any, list_all}
use Rattle.std.proofs.lemmas.List.Folds.{Any-from_list_any, list_any-from_Any}
use Rattle.std.proofs.lemmas.List.Sums.{AllPass-from_list_all, list_all-from_AllPass}
use Rattle.std.proofs.lemmas.List.Elements.{Contains-get_or, All-contains}
use Rattle.std.proofs.lemmas.Bool.{cases_Bool, false≢true, false_from_ne_true, or_cases, or_left, or_right, and_parts, and_from}
use Rattle.names.specs.declared.general.Form.{Form}
use Rattle.names.specs.declared.general.Form.TheVariants as F
use Rattle.names.specs.GeneralName.{IsProcessed}
use Rattle.names.specs.GeneralLayout.{GeneralName, SubtreeBase, directory_name, dns_name, ip_address, other_name}
use Rattle.names.specs.GeneralCoverage.{is_covered, form_of_general_name}
use Rattle.cert.specs.Certificate.{Certificate}
use Rattle.cert.specs.NameConstraints.{NameConstraints}
use Rattle.path_conditions.specs.declared.form_set.FormSet.{FormSet}
use Rattle.path_host_constraints.specs.HostConstraints.{FindHosts, HostConstraints, Narrows}
use Rattle.path_host_constraints.proofs.Laws.{permit_alone, exclude_alone, find_hosts_alone}
use Rattle.path_conditions.specs.NamesOf.{names_of, AreAbout, IsInOneOf, Permits, Excludes, Constrains, PermitsNamesOf, ExcludesNoNameOf, ConstrainsNoFormOf}
use Rattle.path_conditions.specs.Narrowing.{is_in_one_of, are_about, is_processed_base, change_of, changed}
use Rattle.path_conditions.specs.Constraints.{Constraints, no_constraints, narrowed_by, AreNarrowed, PermitsEach, ExcludesNone, permits_each, excludes_one, permits_in, permits_name, has_number, AddsFormsOf, BearsOneOf}
use Rattle.path_conditions.proofs.Laws.{Laws, laws_of_names, in_one, about, of_form_is, of_form_from, list_any-filter, list_any-weaker, processed_test}
use Rattle.path_search.specs.Authority.{AnswersFor}
use Rattle.path.specs.Conditions.{PermitNames, ExcludeNoName, ConstrainNoOtherForm}
use Rattle.path_issuers.specs.Factors.{AdmitNames}

module _ (laws : Laws) where
  -- the list of a form permits what the subtrees permit
  list_says : (form : Form) (carried : List SubtreeBase) (x : GeneralName) → form_of_general_name x ≡ form
      → (permits_in (changed None (change_of form None carried)) x ≡ true) ↔ (AreAbout carried (form_of_general_name x) → IsInOneOf carried x)
  list_says form carried x e =
      elim (cases_Bool (are_about carried form)) [
        | inl loud ↦ rw loud (
          λ t _. (in_one laws carried x).0 (of_form_from laws form [] carried x t),
          λ f. of_form_is laws form [] carried x e
              ((in_one laws carried x).1 (f (subst (λ g. AreAbout carried g) (sym e) ((about laws carried form).0 loud)))),
        )
        | inr quiet ↦ rw quiet (
          λ t s. absurd (false≢true (sym quiet ∙ (about laws carried form).1 (subst (λ g. AreAbout carried g) e s))),
          λ f. refl,
        )
      ]

  excluded_says : (carried : List SubtreeBase) (x : GeneralName) → (is_in_one_of (filter (λ base. is_processed_base base) carried) x ≡ true) ↔ IsInOneOf carried x
  excluded_says carried x = (
    λ t.
        (in_one laws carried x).0
        (list_any-weaker (λ s. is_processed_base s && is_covered x s) (λ s. is_covered x s) carried (λ s h. (and_parts (is_processed_base s) _ h).1)
        (sym (list_any-filter (λ s. is_covered x s) (λ s. is_processed_base s) carried) ∙ t)),
    λ h.
        list_any-filter (λ s. is_covered x s) (λ s. is_processed_base s) carried
        ∙ list_any-weaker (λ s. is_covered x s) (λ s. is_processed_base s && is_covered x s) carried
        (λ s t. and_from (is_processed_base s) (is_covered x s) (processed_test laws s _ refl (laws.processed x s ((laws.test x s).0 t))) t)
        ((in_one laws carried x).1 h),
  )

  forms_say : (carried : NameConstraints) (old new : FormSet) → ((number : ℕ) → has_number old number ≡ false) → AddsFormsOf carried old new
      → (number : ℕ) → ((has_number new number ≡ true) ↔ Constrains carried (F.Other number))
  forms_say carried old new none adds number = (
    λ t. elim (or_cases (has_number old number || are_about carried.permitted (F.Other number)) _ (sym (adds number) ∙ t)) [
      | inl a ↦ elim (or_cases _ _ a) [
        | inl before ↦ absurd (false≢true (sym (none number) ∙ before))
        | inr permitted ↦ inl ((about laws carried.permitted (F.Other number)).0 permitted)
      ]
      | inr excluded ↦ inr ((about laws carried.excluded (F.Other number)).0 excluded)
    ],
    λ s. adds number ∙ elim s [
      | inl permitted ↦ or_left _ _ (or_right _ _ ((about laws carried.permitted (F.Other number)).1 permitted))
      | inr excluded ↦ or_right _ _ ((about laws carried.excluded (F.Other number)).1 excluded)
    ],
  )

  permits_say : (carried : NameConstraints) (hosts : HostConstraints) (x : GeneralName) → IsProcessed (form_of_general_name x)
      → (permits_name (record (narrowed_by carried no_constraints) { hosts = hosts }) x ≡ true) ↔ Permits carried x
  permits_say carried hosts (directory_name n) p = list_says F.Directory carried.permitted (directory_name n) refl
  permits_say carried hosts (dns_name n) p = list_says F.Dns carried.permitted (dns_name n) refl
  permits_say carried hosts (ip_address n) p = list_says F.Ip carried.permitted (ip_address n) refl
  permits_say carried hosts (other_name m n) p = absurd p

pub answers : (c : Certificate) (none held : Constraints) → none ≡ no_constraints → AreNarrowed c none held
    → (old new : FormSet) → ((number : ℕ) → has_number old number ≡ false) → AddsFormsOf c.extensions.name_constraints old new → AnswersFor c held new
answers c none held empty narrowed old new no_forms adds =
    let carried = c.extensions.name_constraints in
    let lists : held ≡ record (narrowed_by carried no_constraints) { hosts = held.hosts } =
    narrowed.lists ∙ ap (λ (h : Constraints). record (narrowed_by carried h) { hosts = held.hosts }) empty in
    record {
      permits = λ x p. subst (λ h. (permits_name h x ≡ true) ↔ Permits carried x) (sym lists) (permits_say laws_of_names carried held.hosts x p);
      excludes = λ x. subst (λ (h : Constraints). (is_in_one_of h.excluded x ≡ true) ↔ Excludes carried x) (sym lists) (excluded_says laws_of_names carried.excluded x);
      constrains = forms_say laws_of_names carried old new no_forms adds;
      narrowed = subst (λ (h : Constraints). Narrows c.hosts h.hosts held.hosts) empty narrowed.hosts;
    }

-- what the answers say of all names of a certificate

pub through : {A B C : Type 0} → A ↔ B → B ↔ C → A ↔ C
through f g = (λ a. g.0 (f.0 a), λ c. f.1 (g.1 c))

module _ {v w : Certificate} (same : v ≡ w) (held : Constraints) (forms : FormSet) (given : AnswersFor v held forms) (c : Certificate) where
  abbrev carried : NameConstraints
  carried = w.extensions.name_constraints

  is : AnswersFor w held forms
  is = subst (λ d. AnswersFor d held forms) same given

  permits_unless : (x : GeneralName) → (IsProcessed (form_of_general_name x) → Permits carried x) → permits_name held x ≡ true
  permits_unless (directory_name n) f = (is.permits (directory_name n) tt).1 (f tt)
  permits_unless (dns_name n) f = (is.permits (dns_name n) tt).1 (f tt)
  permits_unless (ip_address n) f = (is.permits (ip_address n) tt).1 (f tt)
  permits_unless (other_name m n) f = refl

  permits_all : (permits_each held (names_of c) ≡ true) ↔ PermitsNamesOf carried c
  permits_all = (
    λ t x among p.
        let pass = AllPass-from_list_all (λ y. permits_name held y) (names_of c) t in
        (is.permits x p).0 (All-contains (λ y. permits_name held y ≡ true) (names_of c) x pass among),
    λ ok. list_all-from_AllPass (λ x. permits_name held x) (names_of c)
        (λ m d l. permits_unless _ (λ p. ok _ (Contains-get_or (names_of c) m d l) p)),
  )

  excludes_none : (excludes_one held (names_of c) ≡ false) ↔ ExcludesNoNameOf carried c
  excludes_none = (
    λ none x among ex.
        false≢true (sym none
        ∙ list_any-from_Any (λ y. is_in_one_of held.excluded y) (names_of c) (among.0, x, among.1, among.2, (is.excludes x).1 ex)),
    λ ok. false_from_ne_true _ (λ t.
        let a = Any-from_list_any (λ x. is_in_one_of held.excluded x) (names_of c) t in
        ok a.1 (a.0, a.2, a.3) ((is.excludes a.1).0 a.4)),
  )

  constrains_none : (BearsOneOf forms c → ⊥) ↔ ConstrainsNoFormOf carried c
  constrains_none = (
    λ none number bears constrains. none (number, (is.constrains number).1 constrains, bears),
    λ ok found. ok found.0 found.2 ((is.constrains found.0).0 found.1),
  )

  pub permits_exactly : PermitsEach held c ↔ PermitNames w c
  permits_exactly =
      let hosts = permit_alone w.hosts c.hosts held.hosts is.narrowed in (
        λ each. record { names = permits_all.0 each.names; hosts = hosts.0 each.hosts },
        λ all. record { names = permits_all.1 all.names; hosts = hosts.1 all.hosts },
      )

  pub excludes_exactly : ExcludesNone held c ↔ ExcludeNoName w c
  excludes_exactly =
      let hosts = exclude_alone w.hosts c.hosts held.hosts is.narrowed in (
        λ none. record { names = excludes_none.0 none.names; hosts = hosts.0 none.hosts },
        λ all. record { names = excludes_none.1 all.names; hosts = hosts.1 all.hosts },
      )

  pub constrains_exactly : ((BearsOneOf forms c → ⊥) × FindHosts held.hosts c.hosts) ↔ ConstrainNoOtherForm w c
  constrains_exactly =
      let hosts = find_hosts_alone w.hosts c.hosts held.hosts is.narrowed in (
        λ both. record { names = constrains_none.0 both.0; hosts = hosts.0 both.1 },
        λ all. (constrains_none.1 all.names, hosts.1 all.hosts),
      )

pub admits : (above c : Certificate) (permits excludes constrains : Bool)
    → ((permits ≡ true) ↔ PermitNames above c) → ((excludes ≡ true) ↔ ExcludeNoName above c) → ((constrains ≡ true) ↔ ConstrainNoOtherForm above c)
    → permits ≡ true → excludes ≡ true → ((constrains ≡ true) ↔ AdmitNames above c)
admits above c permits excludes constrains p e f tp te = (
  λ t. record { permitted = p.0 tp; not_excluded = e.0 te; processed = f.0 t },
  λ all. f.1 all.processed,
)

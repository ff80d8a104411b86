-- What is true of a validation under way stays true when one more certificate passes.
use Rattle.std.proofs.Common.{◌≡◌, ℕ, ◌+◌, ◌*◌, ◌<◌, ◌≤◌, List, [], ◌∷◌, ◌++◌, Bool, true, false, ◌&&◌, ◌||◌, map, filter, length, take, arith, refl, ap, subst, ◌∙◌, sym, inl, inr, length-append, length-take, ◌↔◌, Option, None, Some, sum_by}
use Rattle.std.proofs.lemmas.List.Folds.{list_any-append}
use Rattle.std.proofs.lemmas.Bool.{or_cases, or_left, or_right, cases_Bool, and_parts, and_from, false≢true, cases_order}
use Rattle.std.proofs.lemmas.List.{length-map}
use Rattle.std.proofs.lemmas.List.Sums.{sum_by_more, sum_by-cons}
use Rattle.names.specs.GeneralLayout.{NameContents, GeneralName, SubtreeBase, directory_name, dns_name, ip_address, other_name}
use Rattle.names.specs.GeneralView.{subtree_base}
use Rattle.names.specs.GeneralCoverage.{is_covered, form_of_general_name}
use Rattle.names.specs.declared.general.Form.{Form}
use Rattle.names.specs.declared.general.Form.TheVariants as F
use Rattle.cert.specs.Certificate.{Certificate, is_self_issued, seen_certificate}
use Rattle.cert.specs.declared.certificate.Certificate as code
use Rattle.path_conditions.specs.declared.form_set.FormSet.{FormSet}
use Rattle.path.specs.Query.{Query, count, certificate_numbered}
use Rattle.path_conditions.specs.NamesOf.{IsInOneOf, AreAbout, Permits, Excludes, Constrains}
use Rattle.cert.specs.NameConstraints.{NameConstraints}
use Rattle.path_host_constraints.specs.HostConstraints.{AreLeftBy, HostConstraints, Narrows}
use Rattle.path_host_constraints.proofs.Laws.{narrowed_is_left}
use Rattle.path.specs.Conditions.{constraints_at, hosts_at, IsWithinPathLength}
use Rattle.path_conditions.specs.CertificateConditions.{path_length_of}
use Rattle.path.specs.Validity.{IsServed}
use Rattle.path_conditions.specs.Narrowing.{is_in_one_of, are_about, is_processed_base, of_form, narrowed, narrowed_with, change_of, changed}
use Rattle.path_conditions.specs.Constraints.{Constraints, size_of, subtree_count, narrowed_by, AreNarrowed, has_number}
use Rattle.path.specs.State.{IsPermitted, IsExcluded, AdmitsExactly, Progress, subtrees_of, subtrees_up_to}
use Rattle.path.specs.Keeping.{spent, lesser, Represents, ListIs, IsConstrained}
use Rattle.path_conditions.proofs.Laws.{list_any-filter, list_any-weaker, length-filter-le, Laws, laws_of_names, in_one, about, narrowed_sound, narrowed_complete, of_form_is, of_form_from, length-narrowed, processed_test, three_forms}
use Rattle.path.proofs.Deciding.{take-map, below_of, here_of}
use Rattle.path.proofs.Rooms.{split_last, at_more, room_spent, room_lesser, room_left}

both : {A B C D : Type 0} → (A ↔ B) → (C ↔ D) → ((A × (C → ⊥)) ↔ (B × (D → ⊥)))
both f g = (λ p. (f.0 p.0, λ d. p.1 (g.1 d)), λ p. (f.1 p.0, λ c. p.1 (g.0 c)))

-- the constraints that are held admit exactly what they should
pub admits_exactly : (q : Query) (k : ℕ) (issuer : NameContents) (key : List ℕ) (room : Option ℕ) (held : Constraints) (forms : FormSet) → Represents q k issuer key room held forms → AdmitsExactly q k held
admits_exactly q k issuer key room held forms is (directory_name n) p = both (is.directory_is (directory_name n) refl) (is.excluded_is (directory_name n))
admits_exactly q k issuer key room held forms is (dns_name n) p = both (is.dns_is (dns_name n) refl) (is.excluded_is (dns_name n))
admits_exactly q k issuer key room held forms is (ip_address n) p = both (is.ip_is (ip_address n) refl) (is.excluded_is (ip_address n))
admits_exactly q k issuer key room held forms is (other_name m n) p = absurd p

-- permitted subtrees

permitted_more : (q : Query) (k : ℕ) (x : GeneralName) → IsPermitted q k x → Permits (constraints_at q (k + 1)) x → IsPermitted q (k + 1) x
permitted_more q k x before here = split_last (λ i. Permits (constraints_at q i) x) k before here

permitted_less : (q : Query) (k : ℕ) (x : GeneralName) → IsPermitted q (k + 1) x → IsPermitted q k x
permitted_less q k x f = λ i l h. f i l (omega arith)

permitted_last : (q : Query) (k : ℕ) (x : GeneralName) → IsPermitted q (k + 1) x → Permits (constraints_at q (k + 1)) x
permitted_last q k x f = f (k + 1) (omega arith) (omega arith)

module _ (laws : Laws) where
  about_from : (bases : List SubtreeBase) (x : GeneralName) (form : Form) → form_of_general_name x ≡ form → are_about bases form ≡ true → AreAbout bases (form_of_general_name x)
  about_from bases x form e h = subst (λ f. AreAbout bases f) (sym e) ((about laws bases form).0 h)

  about_is : (bases : List SubtreeBase) (x : GeneralName) (form : Form) → form_of_general_name x ≡ form → AreAbout bases (form_of_general_name x) → are_about bases form ≡ true
  about_is bases x form e h = (about laws bases form).1 (subst (λ f. AreAbout bases f) e h)

  module _ (q : Query) (k : ℕ) (form : Form) where
    -- the list stays, since the certificate has no subtree of the form
    list_stays : (list : Option (List SubtreeBase)) → ListIs q k form list → are_about (constraints_at q (k + 1)).permitted form ≡ false → ListIs q (k + 1) form list
    list_stays list is quiet x e = (
      λ a. permitted_more q k x ((is x e).0 a) (λ s. absurd (false≢true (sym quiet ∙ about_is (constraints_at q (k + 1)).permitted x form e s))),
      λ p. (is x e).1 (permitted_less q k x p),
    )

    list_begins : ListIs q k form None → are_about (constraints_at q (k + 1)).permitted form ≡ true → ListIs q (k + 1) form (Some (of_form form (constraints_at q (k + 1)).permitted))
    list_begins is loud x e =
        let carried = (constraints_at q (k + 1)).permitted in
        let all = of_form form carried in (
          λ a. permitted_more q k x ((is x e).0 tt) (λ s. (in_one laws carried x).0 (of_form_from laws form [] carried x ((in_one laws all x).1 a))),
          λ p. (in_one laws all x).0 (of_form_is laws form [] carried x e ((in_one laws carried x).1 (permitted_last q k x p (about_from carried x form e loud)))),
        )

    list_narrows : (held : List SubtreeBase) → ListIs q k form (Some held) → are_about (constraints_at q (k + 1)).permitted form ≡ true → ListIs q (k + 1) form (Some (narrowed form held (constraints_at q (k + 1)).permitted))
    list_narrows held is loud x e =
        let carried = (constraints_at q (k + 1)).permitted in
        let list = narrowed form held carried in (
          λ a. let two = narrowed_sound laws form held carried x ((in_one laws list x).1 a) in
              permitted_more q k x ((is x e).0 ((in_one laws held x).0 two.0)) (λ s. (in_one laws carried x).0 two.1),
          λ p. (in_one laws list x).0 (narrowed_complete laws form held carried x e ((in_one laws held x).1 ((is x e).1 (permitted_less q k x p)))
              ((in_one laws carried x).1 (permitted_last q k x p (about_from carried x form e loud)))),
        )

    list_joins : (list : Option (List SubtreeBase)) → ListIs q k form list → are_about (constraints_at q (k + 1)).permitted form ≡ true → ListIs q (k + 1) form (Some (narrowed_with form list (constraints_at q (k + 1)).permitted))
    list_joins None is loud = list_begins is loud
    list_joins (Some held) is loud = list_narrows held is loud

    list_more : (list : Option (List SubtreeBase)) → ListIs q k form list → ListIs q (k + 1) form (changed list (change_of form list (constraints_at q (k + 1)).permitted))
    list_more list is =
        elim (cases_Bool (are_about (constraints_at q (k + 1)).permitted form)) [
          | inl loud ↦ rw loud (list_joins list is loud)
          | inr quiet ↦ rw quiet (list_stays list is quiet)
        ]

  -- excluded subtrees
  module _ (q : Query) (k : ℕ) (list : List SubtreeBase) (is : (x : GeneralName) → IsInOneOf list x ↔ IsExcluded q k x) (x : GeneralName) where
    two_lists : is_in_one_of (list ++ filter (λ s. is_processed_base s) (constraints_at q (k + 1)).excluded) x
        ≡ (is_in_one_of list x || is_in_one_of (filter (λ s. is_processed_base s) (constraints_at q (k + 1)).excluded) x)
    two_lists = list_any-append (λ s. is_covered x s) list (filter (λ s. is_processed_base s) (constraints_at q (k + 1)).excluded)

    excluded_to : IsInOneOf (list ++ filter (λ s. is_processed_base s) (constraints_at q (k + 1)).excluded) x → IsExcluded q (k + 1) x
    excluded_to h =
        let carried = (constraints_at q (k + 1)).excluded in
        elim (or_cases _ _ (sym two_lists ∙ (in_one laws (list ++ filter (λ s. is_processed_base s) carried) x).1 h)) [
          | inl a ↦ let e = (is x).0 ((in_one laws list x).0 a) in (e.0, e.1, omega (arith, e.2), e.3)
          | inr b ↦ let c = sym (list_any-filter (λ s. is_covered x s) (λ s. is_processed_base s) carried) ∙ b in
              (k + 1, omega arith, omega arith, (in_one laws carried x).0 (list_any-weaker (λ s. is_processed_base s && is_covered x s) (λ s. is_covered x s) carried (λ s t. (and_parts (is_processed_base s) _ t).1) c))
        ]

    new_excluded : IsInOneOf (constraints_at q (k + 1)).excluded x → is_in_one_of (filter (λ s. is_processed_base s) (constraints_at q (k + 1)).excluded) x ≡ true
    new_excluded h =
        let carried = (constraints_at q (k + 1)).excluded in
        list_any-filter (λ s. is_covered x s) (λ s. is_processed_base s) carried
        ∙ list_any-weaker (λ s. is_covered x s) (λ s. is_processed_base s && is_covered x s) carried
        (λ s t. and_from (is_processed_base s) (is_covered x s) (processed_test laws s _ refl (laws.processed x s ((laws.test x s).0 t))) t) ((in_one laws carried x).1 h)

    excluded_from : IsExcluded q (k + 1) x → IsInOneOf (list ++ filter (λ s. is_processed_base s) (constraints_at q (k + 1)).excluded) x
    excluded_from e =
        let carried = (constraints_at q (k + 1)).excluded in
        (in_one laws (list ++ filter (λ s. is_processed_base s) carried) x).0 (two_lists ∙ elim (cases_order e.0 (k + 1)) [
          | inl same ↦ or_right _ _ (new_excluded (subst (λ i. Excludes (constraints_at q i) x) same e.3))
          | inr r ↦ elim r [
            | inl below ↦ or_left _ _ ((in_one laws list x).1 ((is x).1 (e.0, e.1, omega arith, e.3)))
            | inr above ↦ absurd (omega (arith, e.2))
          ]
        ])

    excluded_more : IsInOneOf (list ++ filter (λ s. is_processed_base s) (constraints_at q (k + 1)).excluded) x ↔ IsExcluded q (k + 1) x
    excluded_more = (excluded_to, excluded_from)

  -- forms that are not processed
  forms_more : (q : Query) (k : ℕ) (forms : FormSet) → ((number : ℕ) → ((has_number forms number ≡ true) ↔ IsConstrained q k number)) → (forms' : FormSet)
      → ((number : ℕ) → has_number forms' number ≡ ((has_number forms number || are_about (constraints_at q (k + 1)).permitted (F.Other number)) || are_about (constraints_at q (k + 1)).excluded (F.Other number)))
      → (number : ℕ) → ((has_number forms' number ≡ true) ↔ IsConstrained q (k + 1) number)
  forms_more q k forms is forms' more number =
      let here = constraints_at q (k + 1) in (
        λ h. elim (or_cases (has_number forms number || are_about here.permitted (F.Other number)) _ (sym (more number) ∙ h)) [
          | inl a ↦ elim (or_cases _ _ a) [
            | inl old ↦ let e = (is number).0 old in (e.0, e.1, omega (arith, e.2), e.3)
            | inr new ↦ (k + 1, omega arith, omega arith, inl ((about laws here.permitted (F.Other number)).0 new))
          ]
          | inr b ↦ (k + 1, omega arith, omega arith, inr ((about laws here.excluded (F.Other number)).0 b))
        ],
        λ e. more number ∙ elim (cases_order e.0 (k + 1)) [
          | inl same ↦ elim (subst (λ i. Constrains (constraints_at q i) (F.Other number)) same e.3) [
            | inl a ↦ or_left _ _ (or_right _ _ ((about laws here.permitted (F.Other number)).1 a))
            | inr b ↦ or_right _ _ ((about laws here.excluded (F.Other number)).1 b)
          ]
          | inr r ↦ elim r [
            | inl below ↦ or_left _ _ (or_left _ _ ((is number).1 (e.0, e.1, omega arith, e.3)))
            | inr above ↦ absurd (omega (arith, e.2))
          ]
        ],
      )

-- how many subtrees there are

size_joined : (form : Form) (list : Option (List SubtreeBase)) (carried : List SubtreeBase) → length (narrowed_with form list carried) ≤ size_of list + length (of_form form carried)
size_joined form None carried = omega arith
size_joined form (Some held) carried = length-narrowed form held carried

size_more : (form : Form) (list : Option (List SubtreeBase)) (carried : List SubtreeBase) → size_of (changed list (change_of form list carried)) ≤ size_of list + length (of_form form carried)
size_more form list carried =
    elim (cases_Bool (are_about carried form)) [
      | inl h ↦ rw h (size_joined form list carried)
      | inr h ↦ rw h (omega arith)
    ]

carried_more : (q : Query) (k : ℕ) → k < count q → subtrees_up_to q (k + 1) ≡ subtrees_up_to q k + subtrees_of (certificate_numbered q (k + 1))
carried_more q k h = rw at_more (sum_by_more subtrees_of q.certificates k q.anchor h)

bound_more : Laws → (q : Query) (k : ℕ) → k < count q → (held : Constraints) → subtree_count held ≤ subtrees_up_to q k → subtree_count (narrowed_by (constraints_at q (k + 1)) held) ≤ subtrees_up_to q (k + 1)
bound_more laws q k below held before =
    let here = constraints_at q (k + 1) in
    let a = size_more F.Directory held.directory here.permitted in
    let b = size_more F.Dns held.dns here.permitted in
    let d = size_more F.Ip held.ip here.permitted in
    let three = three_forms laws here.permitted in
    let more = carried_more q k below in
    let fewer = length-filter-le (λ s. is_processed_base s) here.excluded in
    let joined = length-append held.excluded (filter (λ s. is_processed_base s) here.excluded) in
    omega arith

-- the constraints behind a certificate, with these on mail addresses and hosts
abbrev behind : NameConstraints → Constraints → HostConstraints → Constraints
behind carried held hosts = record (narrowed_by carried held) { hosts = hosts }

-- one more certificate
pub keeps_more : Laws → (q : Query) (k : ℕ) (issuer : NameContents) (key : List ℕ) (room : Option ℕ) (held : Constraints) (forms : FormSet) → Represents q k issuer key room held forms
    → k < count q → count q ≤ 128 → (k + 1 < count q → IsWithinPathLength q (k + 1))
    → (hosts : HostConstraints) → Narrows (hosts_at q (k + 1)) held.hosts hosts
    → (forms' : FormSet) → ((number : ℕ) → has_number forms' number ≡ ((has_number forms number || are_about (constraints_at q (k + 1)).permitted (F.Other number)) || are_about (constraints_at q (k + 1)).excluded (F.Other number)))
    → Represents q (k + 1) (certificate_numbered q (k + 1)).subject (certificate_numbered q (k + 1)).key_info.value.octets
    (lesser (spent room (is_self_issued (certificate_numbered q (k + 1)))) (path_length_of (certificate_numbered q (k + 1)))) (behind (constraints_at q (k + 1)) held hosts) forms'
keeps_more laws q k issuer key room held forms is below few allow hosts narrows forms' more =
    record {
      within = omega arith;
      few = omega arith;
      issuer_is = refl;
      key_is = refl;
      room_is = λ next. room_lesser q k _ (room_spent q k room below (is.room_is below) (room_left q k room below (is.room_is below) (allow next)));
      directory_is = list_more laws q k F.Directory held.directory is.directory_is;
      dns_is = list_more laws q k F.Dns held.dns is.dns_is;
      ip_is = list_more laws q k F.Ip held.ip is.ip_is;
      excluded_is = λ x. excluded_more laws q k held.excluded is.excluded_is x;
      forms_are = forms_more laws q k forms is.forms_are forms' more;
      hosts_are = narrowed_is_left (hosts_at q) (k + 1) held.hosts hosts (omega arith) is.hosts_are narrows;
      bound = bound_more laws q k below held is.bound;
    }

-- the same at a state, whose fields give the view v

pub admits_of : {V : Type 0} {v w : Progress V} → v ≡ w → (issuer : NameContents) (key : List ℕ) (room : Option ℕ) (forms : FormSet) → Represents v.query v.done issuer key room v.constraints forms → AdmitsExactly w.query w.done w.constraints
admits_of {V} {v} {w} e issuer key room forms is = subst (λ u. AdmitsExactly u.query u.done u.constraints) e (admits_exactly v.query v.done issuer key room v.constraints forms is)

pub hosts_of : {V : Type 0} {v w : Progress V} → v ≡ w → (issuer : NameContents) (key : List ℕ) (room : Option ℕ) (forms : FormSet) → Represents v.query v.done issuer key room v.constraints forms
    → AreLeftBy (hosts_at w.query) (w.done + 1) w.constraints.hosts
hosts_of {V} {v} {w} e issuer key room forms is = subst (λ (u : Progress V). AreLeftBy (hosts_at u.query) (u.done + 1) u.constraints.hosts) e is.hosts_are

few_subtrees : (path : List code.Certificate) → sum_by subtrees_of (map seen_certificate path) ≤ 4096 * length path
few_subtrees [] = omega arith
few_subtrees (c ∷ path) =
    let rest = few_subtrees path in
    let carried = c.extensions.name_constraints in
    let step : sum_by subtrees_of (map seen_certificate (c ∷ path)) ≡ subtrees_of (seen_certificate c) + sum_by subtrees_of (map seen_certificate path) = sum_by-cons subtrees_of (seen_certificate c) (map seen_certificate path) in
    let a = length-map carried.permitted.items subtree_base in
    let b = length-map carried.excluded.items subtree_base in
    omega (arith, carried.served, carried.permitted.ok.0, carried.excluded.ok.0)

pub held_few : (q : Query) (k : ℕ) (issuer : NameContents) (key : List ℕ) (room : Option ℕ) (held : Constraints) (forms : FormSet) → Represents q k issuer key room held forms
    → (path : List code.Certificate) → q.certificates ≡ map seen_certificate path → subtree_count held ≤ 524288
held_few q k issuer key room held forms is path all =
    let some = few_subtrees (take k path) in
    let same : subtrees_up_to q k ≡ sum_by subtrees_of (map seen_certificate (take k path)) = ap (λ l. sum_by subtrees_of (take k l)) all ∙ ap (λ l. sum_by subtrees_of l) (take-map k path) in
    let len = length-take k path in
    let bound = is.bound in
    let few = is.few in
    let short : length (take k path) ≤ 128 = omega arith in
    omega arith

pub keeps_passed : {V : Type 0} {v w : Progress V} → v ≡ w → (issuer : NameContents) (key : List ℕ) (room : Option ℕ) (forms : FormSet) → Represents v.query v.done issuer key room v.constraints forms
    → w.done < count w.query → IsServed w.query → (w.done + 1 < count w.query → IsWithinPathLength w.query (w.done + 1))
    → (c : Certificate) → c ≡ certificate_numbered w.query (w.done + 1)
    → (self : Bool) → self ≡ is_self_issued c → (limit room' : Option ℕ) → limit ≡ path_length_of c → room' ≡ lesser (spent room self) limit
    → (held' : Constraints) → AreNarrowed c v.constraints held'
    → (forms' : FormSet) → ((number : ℕ) → has_number forms' number ≡ ((has_number forms number || are_about c.extensions.name_constraints.permitted (F.Other number)) || are_about c.extensions.name_constraints.excluded (F.Other number)))
    → Represents v.query (v.done + 1) c.subject c.key_info.value.octets room' held' forms'
keeps_passed {V} {v} {w} e issuer key room forms is below served allow c at self es limit room' el er held' eh forms' more =
    let here = here_of e c at in
    let allow' = subst (λ (u : Progress V). u.done + 1 < count u.query → IsWithinPathLength u.query (u.done + 1)) (sym e) allow in
    let few = subst (λ (u : Progress V). IsServed u.query) (sym e) served in
    let all = keeps_more laws_of_names v.query v.done issuer key room v.constraints forms is (below_of e below) few.few allow'
    held'.hosts (subst (λ (d : Certificate). Narrows d.hosts v.constraints.hosts held'.hosts) here eh.hosts) forms'
    (subst (λ (d : Certificate). (number : ℕ) → has_number forms' number ≡ ((has_number forms number || are_about d.extensions.name_constraints.permitted (F.Other number)) || are_about d.extensions.name_constraints.excluded (F.Other number))) here more) in
    let all' = subst (λ (d : Certificate). Represents v.query (v.done + 1) d.subject d.key_info.value.octets (lesser (spent room (is_self_issued d)) (path_length_of d)) (behind d.extensions.name_constraints v.constraints held'.hosts) forms') (sym here) all in
    subst (λ (h : Constraints). Represents v.query (v.done + 1) c.subject c.key_info.value.octets room' h forms') (sym eh.lists) (rw (er, el, es) all')

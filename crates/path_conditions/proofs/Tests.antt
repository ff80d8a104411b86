-- What the tests of the code say of a certificate: the forms of its names, and the purposes that it lists.
use Rattle.std.proofs.Common.{◌≡◌, ℕ, List, [], ◌++◌, Bool, true, false, ◌&&◌, ◌||◌, refl, ap, subst, ◌∙◌, sym, inl, inr, ◌⊎◌, Contains, ◌↔◌}
use Rattle.std.specs.List.{list_any, list_all}
use Rattle.std.proofs.lemmas.Slice.Eq.{bytes_eq-Decides}
use Rattle.std.proofs.lemmas.List.Folds.{Any-from_list_any, list_any-from_Any, list_any-append, list_all-append}
use Rattle.std.proofs.lemmas.Bool.{or_cases, or_left, or_right, false≢true}
use Rattle.names.specs.GeneralLayout.{GeneralName, directory_name, dns_name, ip_address, other_name}
use Rattle.names.specs.GeneralCoverage.{form_of_general_name}
use Rattle.names.specs.declared.general.Form.TheVariants as F
use Rattle.names.specs.DistinguishedName.{HasKind}
use Rattle.cert.specs.Certificate.{Certificate}
use Rattle.path_conditions.specs.declared.form_set.FormSet.{FormSet}
use Rattle.path_conditions.specs.NamesOf.{email_address}
use Rattle.path_conditions.specs.CertificateConditions.{any_purpose, lists_purpose}
use Rattle.path_conditions.specs.Constraints.{has_number, has_form_of, BearsOneOf}

-- forms of names

bears_other : (forms : FormSet) (x : GeneralName) → has_form_of forms x ≡ true → (number : ℕ) × (has_number forms number ≡ true) × (form_of_general_name x ≡ F.Other number)
bears_other forms (directory_name n) h = absurd (false≢true h)
bears_other forms (dns_name n) h = absurd (false≢true h)
bears_other forms (ip_address n) h = absurd (false≢true h)
bears_other forms (other_name m n) h = (m, h, refl)

other_number : (m n : ℕ) → F.Other m ≡ F.Other n → m ≡ n
other_number m n e = cc

has_other : (forms : FormSet) (x : GeneralName) (number : ℕ) → has_number forms number ≡ true → form_of_general_name x ≡ F.Other number → has_form_of forms x ≡ true
has_other forms (directory_name n) number h e = cc
has_other forms (dns_name n) number h e = cc
has_other forms (ip_address n) number h e = cc
has_other forms (other_name m n) number h e = ap (λ i. has_number forms i) (other_number m number e) ∙ h

pub bears_email : (forms : FormSet) (c : Certificate) → has_number forms 1 ≡ true → HasKind email_address c.subject.rdns → BearsOneOf forms c
bears_email forms c h kind = (1, h, inr (refl, kind))

pub bears_says : (b : Bool) (forms : FormSet) (c : Certificate) → b ≡ list_any (λ x. has_form_of forms x) c.extensions.alternative_names → (((has_number forms 1 ≡ true) × HasKind email_address c.subject.rdns) → ⊥)
    → (b ≡ true) ↔ BearsOneOf forms c
bears_says b forms c says lacks = (
  λ t.
      let a = Any-from_list_any (λ x. has_form_of forms x) c.extensions.alternative_names (sym says ∙ t) in
      let form = bears_other forms a.1 a.4 in
      (form.0, form.1, inl (a.0, a.1, a.2, a.3, form.2)),
  λ found. says ∙ elim found.2 [
    | inl a ↦ list_any-from_Any (λ x. has_form_of forms x) c.extensions.alternative_names (a.0, a.1, a.2, a.3, has_other forms a.1 found.0 found.1 a.4)
    | inr email ↦ absurd (lacks (subst (λ n. has_number forms n ≡ true) email.0 found.1, email.1))
  ],
)

-- two lists of names, one behind the other

pub all_both : {X : Type 0} (p : X → Bool) (xs ys : List X) (a b : Bool) → a ≡ list_all p xs → b ≡ list_all p ys → a ≡ true → b ≡ list_all p (xs ++ ys)
all_both p xs ys a b ea eb t = eb ∙ sym (list_all-append p xs ys ∙ ap (λ c. c && list_all p ys) (sym ea ∙ t))

pub any_both : {X : Type 0} (p : X → Bool) (xs ys : List X) (a b : Bool) → a ≡ list_any p xs → b ≡ list_any p ys → a ≡ false → b ≡ list_any p (xs ++ ys)
any_both p xs ys a b ea eb f = eb ∙ sym (list_any-append p xs ys ∙ ap (λ c. c || list_any p ys) (sym ea ∙ f))

-- purposes

pub purpose_says : (b : Bool) (purpose : List ℕ) (listed : List (List ℕ)) → b ≡ list_any (lists_purpose purpose) listed → (listed ≡ [] → ⊥)
    → (b ≡ true) ↔ ((listed ≡ []) ⊎ (Contains listed purpose ⊎ Contains listed any_purpose))
purpose_says b purpose listed says some = (
  λ t.
      let a = Any-from_list_any (lists_purpose purpose) listed (sym says ∙ t) in
      inr (elim (or_cases _ _ a.4) [
        | inl same ↦ inl (subst (λ p. Contains listed p) ((bytes_eq-Decides _ _).0 same) (a.0, a.2, a.3))
        | inr same ↦ inr (subst (λ p. Contains listed p) ((bytes_eq-Decides _ _).0 same) (a.0, a.2, a.3))
      ]),
  λ found. says ∙ elim found [
    | inl none ↦ absurd (some none)
    | inr two ↦ elim two [
      | inl c ↦ list_any-from_Any (lists_purpose purpose) listed (c.0, purpose, c.1, c.2, or_left _ _ ((bytes_eq-Decides purpose purpose).1 refl))
      | inr c ↦ list_any-from_Any (lists_purpose purpose) listed (c.0, any_purpose, c.1, c.2, or_right _ _ ((bytes_eq-Decides any_purpose any_purpose).1 refl))
    ]
  ],
)

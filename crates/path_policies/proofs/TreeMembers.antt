-- What lists contain, and tests of their members.
use Rattle.std.proofs.Common.{◌≡◌, ◌≢◌, ◌⊎◌, ℕ, zero, suc, List, [], ◌∷◌, Bool, true, not, cond, map, filter, length, arith, refl, ap, sym, ◌∙◌, subst, inl, inr}
use Rattle.std.specs.List.{Contains, list_any}
use Rattle.std.specs.Str.{bytes_eq}
use Rattle.std.proofs.lemmas.Bool.{cases_Bool, false≢true, not-true, not_from_false}
use Rattle.std.proofs.lemmas.List.{get_or-map, length-map}
use Rattle.std.proofs.lemmas.List.Elements.{Contains-append_right}
use Rattle.std.proofs.lemmas.List.Folds.{Any-from_list_any, list_any-from_Any}
use Rattle.std.proofs.lemmas.Slice.Eq.{bytes_eq-Decides}

module _ {X : Type 0} where
  pub in_none : {Y : Type 0} (x : X) → Contains [] x → Y
  in_none x h = absurd (omega (arith, h.1))

  pub in_first : (x : X) (xs : List X) → Contains (x ∷ xs) x
  in_first x xs = (0, omega arith, refl)

  pub in_rest : (y x : X) (xs : List X) → Contains xs x → Contains (y ∷ xs) x
  in_rest y x xs h = Contains-append_right (y ∷ []) xs x h

  pub in_cases : (y x : X) (xs : List X) → Contains (y ∷ xs) x → (y ≡ x) ⊎ Contains xs x
  in_cases y x xs (zero, less, is) = inl is
  in_cases y x xs (suc k, less, is) = inr (k, omega arith, is)

  pub in_one : (y x : X) → Contains (y ∷ []) x → y ≡ x
  in_one y x h = elim (in_cases y x [] h) [ inl e ↦ e | inr later ↦ in_none x later ]

  -- a list that is filtered
  pub in_filter : (test : X → Bool) (xs : List X) (x : X) → Contains xs x → test x ≡ true → Contains (filter test xs) x
  in_filter test [] x h passes = in_none x h
  in_filter test (y ∷ xs) x h passes = elim (in_cases y x xs h) [
    | inl e ↦
        let first : test y ≡ true = ap test e ∙ passes in
        subst (λ b. Contains (cond b (y ∷ filter test xs) (filter test xs)) x) (sym first)
        (subst (λ z. Contains (y ∷ filter test xs) z) e (in_first y (filter test xs)))
    | inr later ↦
        let rest = in_filter test xs x later passes in
        elim (cases_Bool (test y)) [
          | inl t ↦ subst (λ b. Contains (cond b (y ∷ filter test xs) (filter test xs)) x) (sym t) (in_rest y x (filter test xs) rest)
          | inr f ↦ subst (λ b. Contains (cond b (y ∷ filter test xs) (filter test xs)) x) (sym f) rest
        ]
  ]

  pub from_filter : (test : X → Bool) (xs : List X) (x : X) → Contains (filter test xs) x → Contains xs x × (test x ≡ true)
  from_filter test [] x h = in_none x h
  from_filter test (y ∷ xs) x h = elim (cases_Bool (test y)) [
    | inl t ↦ elim (in_cases y x (filter test xs) (subst (λ b. Contains (cond b (y ∷ filter test xs) (filter test xs)) x) t h)) [
      | inl e ↦ (subst (λ z. Contains (y ∷ xs) z) e (in_first y xs), sym (ap test e) ∙ t)
      | inr later ↦ let rest = from_filter test xs x later in (in_rest y x xs rest.0, rest.1)
    ]
    | inr f ↦
        let rest = from_filter test xs x (subst (λ b. Contains (cond b (y ∷ filter test xs) (filter test xs)) x) f h) in
        (in_rest y x xs rest.0, rest.1)
  ]

  -- a test of some member
  pub some_passes : (test : X → Bool) (xs : List X) → list_any test xs ≡ true → (x : X) × Contains xs x × (test x ≡ true)
  some_passes test xs h = let a = Any-from_list_any test xs h in (a.1, (a.0, a.2, a.3), a.4)

  pub passed_by : (test : X → Bool) (xs : List X) (x : X) → Contains xs x → test x ≡ true → list_any test xs ≡ true
  passed_by test xs x h t = list_any-from_Any test xs (h.0, x, h.1, h.2, t)

  pub none_passes : (test : X → Bool) (xs : List X) (x : X) → Contains xs x → not (list_any test xs) ≡ true → test x ≡ true → ⊥
  none_passes test xs x h none t = false≢true (sym (not-true (list_any test xs) none) ∙ passed_by test xs x h t)

  pub not_any : (test : X → Bool) (xs : List X) → ((x : X) → Contains xs x → test x ≡ true → ⊥) → not (list_any test xs) ≡ true
  not_any test xs fails = elim (cases_Bool (list_any test xs)) [
    | inl t ↦ let some = some_passes test xs t in absurd (fails some.0 some.1 some.2)
    | inr f ↦ not_from_false (list_any test xs) f
  ]

-- a list that is mapped
pub in_map : {A X : Type 0} (f : A → X) (xs : List A) (a : A) → Contains xs a → Contains (map f xs) (f a)
in_map f xs a h =
    let size : length (map f xs) ≡ length xs = length-map xs f in
    let within = h.1 in
    (h.0, omega arith, get_or-map f xs h.0 a (f a) within ∙ ap f h.2)

pub from_map : {A X : Type 0} (f : A → X) (xs : List A) (x : X) → Contains (map f xs) x → (a : A) × Contains xs a × (f a ≡ x)
from_map f [] x h = in_none x h
from_map f (a ∷ xs) x h = elim (in_cases (f a) x (map f xs) h) [
  | inl e ↦ (a, in_first a xs, e)
  | inr later ↦ let rest = from_map f xs x later in (rest.0, in_rest a rest.0 xs rest.1, rest.2)
]

-- policies
pub same : (a b : List ℕ) → bytes_eq a b ≡ true → a ≡ b
same a b t = (bytes_eq-Decides a b).0 t

pub equal : (a b : List ℕ) → a ≡ b → bytes_eq a b ≡ true
equal a b e = (bytes_eq-Decides a b).1 e

pub same_or_other : (a b : List ℕ) → (a ≡ b) ⊎ (a ≢ b)
same_or_other a b = elim (cases_Bool (bytes_eq a b)) [
  | inl t ↦ inl (same a b t)
  | inr f ↦ inr (λ e. false≢true (sym f ∙ equal a b e))
]

pub differ : (a b : List ℕ) → not (bytes_eq a b) ≡ true → a ≢ b
differ a b t e = false≢true (sym (not-true (bytes_eq a b) t) ∙ equal a b e)

pub unequal : (a b : List ℕ) → a ≢ b → not (bytes_eq a b) ≡ true
unequal a b other = elim (cases_Bool (bytes_eq a b)) [
  | inl t ↦ absurd (other (same a b t))
  | inr f ↦ not_from_false (bytes_eq a b) f
]

pub among : (xs : List (List ℕ)) (policy : List ℕ) → list_any (bytes_eq policy) xs ≡ true → Contains xs policy
among xs policy h =
    let some = some_passes (bytes_eq policy) xs h in
    subst (λ p. Contains xs p) (sym (same policy some.0 some.2)) some.1

pub found : (xs : List (List ℕ)) (policy : List ℕ) → Contains xs policy → list_any (bytes_eq policy) xs ≡ true
found xs policy h = passed_by (bytes_eq policy) xs policy h (equal policy policy refl)

-- Lists whose members pass tests.
use Rattle.std.proofs.Common.{◌≡◌, ◌+◌, ◌≤◌, ℕ, List, [], ◌∷◌, map, Bool, true, false, not, ◌&&◌, ◌||◌, cond, filter, length, arith, refl, ap, sym, ◌∙◌, inl, inr, ◌↔◌, Any}
use Rattle.std.specs.List.{list_any}
use Rattle.std.proofs.lemmas.List.Folds.{Any-from_list_any, list_any-from_Any}
use Rattle.std.proofs.lemmas.Bool.{or_cases, or_left, or_right, cases_Bool, or_parts, false≢true}

-- a member that passes a test, with what it is to be a member: each test that it passes is passed by some member
pub record Member {X : Type 0} (p : X → Bool) (xs : List X) : Type 0 where
  pub item : X
  pub passes : p item ≡ true
  pub among : (q : X → Bool) → q item ≡ true → list_any q xs ≡ true

member_behind : {X : Type 0} (p : X → Bool) (x : X) (xs : List X) → Member p xs → Member p (x ∷ xs)
member_behind p x xs m = record { item = m.item; passes = m.passes; among = λ q h. or_right (q x) _ (m.among q h) }

pub pick : {X : Type 0} (p : X → Bool) (xs : List X) → list_any p xs ≡ true → Member p xs
pick p [] h = cc
pick p (x ∷ xs) h =
    elim (or_cases (p x) (list_any p xs) h) [
      | inl a ↦ record { item = x; passes = a; among = λ q b. or_left (q x) _ b }
      | inr b ↦ member_behind p x xs (pick p xs b)
    ]

-- one test follows from another
pub list_any-weaker : {X : Type 0} (p q : X → Bool) (xs : List X) → ((x : X) → p x ≡ true → q x ≡ true) → list_any p xs ≡ true → list_any q xs ≡ true
list_any-weaker p q xs f h = let m = pick p xs h in m.among q (f m.item m.passes)

-- where no member passes the wider test, none passes the narrower one
pub none_weaker : {X : Type 0} (p q : X → Bool) (xs : List X) → ((x : X) → p x ≡ true → q x ≡ true) → list_any q xs ≡ false → list_any p xs ≡ false
none_weaker p q xs f h =
    elim (cases_Bool (list_any p xs)) [ inl a ↦ (let b = list_any-weaker p q xs f a in cc) | inr a ↦ a ]

-- a test that decides a fact decides whether some member has it
pub any_decides : {X : Type 0} (p : X → Bool) (P : X → Type 0) → ((x : X) → (p x ≡ true) ↔ P x) → (xs : List X) → (list_any p xs ≡ true) ↔ Any P xs
any_decides p P f xs = (
  λ h. let a = Any-from_list_any p xs h in (a.0, a.1, a.2, a.3, (f a.1).0 a.4),
  λ a. list_any-from_Any p xs (a.0, a.1, a.2, a.3, (f a.1).1 a.4),
)

pub list_any-map : {X Y : Type 0} (p : Y → Bool) (f : X → Y) (xs : List X) → list_any p (map f xs) ≡ list_any (λ x. p (f x)) xs
list_any-map p f [] = refl
list_any-map p f (x ∷ xs) = ap (λ b. p (f x) || b) (list_any-map p f xs)

-- filters

filter_cons : {X : Type 0} (p q : X → Bool) (x : X) (xs : List X) → list_any p (filter q xs) ≡ list_any (λ y. q y && p y) xs → list_any p (filter q (x ∷ xs)) ≡ list_any (λ y. q y && p y) (x ∷ xs)
filter_cons p q x xs e =
    elim (cases_Bool (q x)) [ inl h ↦ rw (h, e) refl | inr h ↦ rw (h, e) refl ]

-- some member that a filter keeps passes the test
pub list_any-filter : {X : Type 0} (p q : X → Bool) (xs : List X) → list_any p (filter q xs) ≡ list_any (λ x. q x && p x) xs
list_any-filter p q [] = refl
list_any-filter p q (x ∷ xs) = filter_cons p q x xs (list_any-filter p q xs)

-- a filter by a test on what members are seen as
pub map-filter : {X Y : Type 0} (p : Y → Bool) (f : X → Y) (xs : List X) → map f (filter (λ x. p (f x)) xs) ≡ filter p (map f xs)
map-filter p f [] = refl
map-filter p f (x ∷ xs) =
    let rest = map-filter p f xs in
    elim (cases_Bool (p (f x))) [ inl h ↦ rw h (ap (λ l. f x ∷ l) rest) | inr h ↦ rw h rest ]

-- a filter that nothing passes leaves nothing
pub filter_none : {X : Type 0} (p : X → Bool) (xs : List X) → list_any p xs ≡ false → filter p xs ≡ []
filter_none p [] h = refl
filter_none p (x ∷ xs) h =
    let parts = or_parts (p x) (list_any p xs) h in
    let first = parts.0 in
    rw first (filter_none p xs parts.1)

pub length-filter-cons : {X : Type 0} (p : X → Bool) (x : X) (xs : List X) → length (filter p (x ∷ xs)) ≡ cond (p x) 1 0 + length (filter p xs)
length-filter-cons p x xs = elim (cases_Bool (p x)) [ inl h ↦ rw h (omega arith) | inr h ↦ rw h (omega arith) ]

pub length-filter-le : {X : Type 0} (p : X → Bool) (xs : List X) → length (filter p xs) ≤ length xs
length-filter-le p [] = omega arith
length-filter-le p (x ∷ xs) =
    let ih = length-filter-le p xs in
    elim (cases_Bool (p x)) [ inl h ↦ rw h (omega arith) | inr h ↦ rw h (omega arith) ]

pub length-filter-and : {X : Type 0} (p q : X → Bool) (xs : List X) → length (filter (λ x. p x && q x) xs) ≤ length (filter p xs)
length-filter-and p q [] = omega arith
length-filter-and p q (x ∷ xs) =
    let ih = length-filter-and p q xs in
    elim (cases_Bool (p x)) [
      | inl h ↦ elim (cases_Bool (q x)) [ inl k ↦ rw (h, k) (omega arith) | inr k ↦ rw (h, k) (omega arith) ]
      | inr h ↦ rw h (omega arith)
    ]

-- a filter that leaves as many is passed by all
pub none_fails : {X : Type 0} (p : X → Bool) (xs : List X) → length (filter p xs) ≡ length xs → list_any (λ x. not (p x)) xs ≡ false
none_fails p [] e = refl
none_fails p (x ∷ xs) e =
    let less = length-filter-le p xs in
    let whole = length-filter-cons p x xs in
    elim (cases_Bool (p x)) [
      | inl h ↦ (let one : ◌≡◌ {A = ℕ} (cond (p x) 1 0) 1 = ap (λ (b : Bool). cond b 1 0) h in
          let rest : length (filter p xs) ≡ length xs = omega (arith, e, whole, one) in
          rw h (none_fails p xs rest))
      | inr h ↦ (let no : ◌≡◌ {A = ℕ} (cond (p x) 1 0) 0 = ap (λ (b : Bool). cond b 1 0) h in absurd (omega (arith, e, whole, no, less)))
    ]

-- and leaves all
pub filter_all : {X : Type 0} (p : X → Bool) (xs : List X) → list_any (λ x. not (p x)) xs ≡ false → filter p xs ≡ xs
filter_all p [] h = refl
filter_all p (x ∷ xs) h =
    let parts = or_parts (not (p x)) (list_any (λ y. not (p y)) xs) h in
    elim (cases_Bool (p x)) [
      | inl e ↦ rw e (ap (λ l. x ∷ l) (filter_all p xs parts.1))
      | inr e ↦ absurd (false≢true (sym parts.0 ∙ ap not e))
    ]

-- Lists that are mapped, or stand one behind the other: what they contain, and which pairs come in their order.
use Rattle.std.proofs.Common.{◌≡◌, ◌<◌, ◌≤◌, ◌+◌, ◌-◌, ℕ, zero, suc, List, [], ◌∷◌, ◌++◌, length, map, get_or, arith, ap, refl, sym, ◌∙◌, subst, inl, inr, length-append}
use Rattle.std.specs.List.{AllPairs, Contains}
use Rattle.std.specs.List.Sorted.{IsStrictlyIncreasing}
use Rattle.std.proofs.lemmas.Bool.{cases_lt}
use Rattle.std.proofs.lemmas.List.{append_assoc, length-map, get_or-map, get_or_append_left, get_or-append-add}
use Rattle.std.proofs.lemmas.List.Elements.{Contains-get_or, Contains-append_left, Contains-append_right, Contains-append_cases}
use Rattle.std.proofs.lemmas.List.Kept.{AllPairs-from_increasing}
use Rattle.path_issuers.specs.Asking.{joined_below}

module _ {A X : Type 0} (f : A → X) where
  pub map_has : (xs : List A) (a : A) → Contains xs a → Contains (map f xs) (f a)
  map_has xs a h =
      let size : length (map f xs) ≡ length xs = length-map xs f in
      let within = h.1 in
      (h.0, omega arith, get_or-map f xs h.0 a (f a) within ∙ ap f h.2)

  pub among_map : (xs : List A) (x : X) → Contains (map f xs) x → (a : A) × Contains xs a × (f a ≡ x)
  among_map [] x h = absurd (omega (arith, h.1))
  among_map (first ∷ xs) x h =
      let all = first ∷ xs in
      let size : length (map f all) ≡ length all = length-map all f in
      let within : h.0 < length all = omega (arith, h.1, size) in
      (get_or all h.0 first, Contains-get_or all h.0 first within, sym (get_or-map f all h.0 first x within) ∙ h.2)

module _ {X : Type 0} where
  joined_more : (lists : ℕ → List X) (n : ℕ) → joined_below lists (n + 1) ≡ joined_below lists n ++ lists n
  joined_more lists n =
      let e : suc n ≡ n + 1 = omega arith in
      subst (λ (m : ℕ). joined_below lists m ≡ joined_below lists n ++ lists n) e refl

  pub joined_another : (lists : ℕ → List X) (start old new row : List X) (n : ℕ) → old ≡ start ++ joined_below lists n → new ≡ old ++ row → row ≡ lists n
      → new ≡ start ++ joined_below lists (n + 1)
  joined_another lists start old new row n was is same =
      is
      ∙ (ap (λ (l : List X). l ++ row) was
      ∙ (append_assoc start (joined_below lists n) row
      ∙ ap (λ (l : List X). start ++ l) (ap (λ (l : List X). joined_below lists n ++ l) same ∙ sym (joined_more lists n))))

  pub among_joined : (lists : ℕ → List X) (n : ℕ) (x : X) → Contains (joined_below lists n) x → (k : ℕ) × (k < n) × Contains (lists k) x
  among_joined lists zero x h = absurd (omega (arith, h.1))
  among_joined lists (suc n) x h =
      elim (Contains-append_cases (joined_below lists n) (lists n) x h) [
        | inl early ↦ let at = among_joined lists n x early in (at.0, omega (arith, at.1), at.2)
        | inr last ↦ (n, omega arith, last)
      ]

  pub joined_has : (lists : ℕ → List X) (n k : ℕ) (x : X) → k < n → Contains (lists k) x → Contains (joined_below lists n) x
  joined_has lists zero k x less h = absurd (omega arith)
  joined_has lists (suc n) k x less h =
      elim (cases_lt k n) [
        | inl early ↦ Contains-append_left (joined_below lists n) (lists n) x (joined_has lists n k x early h)
        | inr last ↦
            let e : k ≡ n = omega arith in
            Contains-append_right (joined_below lists n) (lists n) x (subst (λ (m : ℕ). Contains (lists m) x) e h)
      ]

  module _ (R : X → X → Type 0) where
    pub pairs_append : (xs ys : List X) → AllPairs R xs → AllPairs R ys → ((x y : X) → Contains xs x → Contains ys y → R x y) → AllPairs R (xs ++ ys)
    pairs_append xs ys front back across i j d less within =
        let size : length (xs ++ ys) ≡ length xs + length ys = length-append xs ys in
        let later = λ (k : ℕ) (behind : length xs ≤ k).
        let e : length xs + (k - length xs) ≡ k = omega arith in
        subst (λ (n : ℕ). get_or (xs ++ ys) n d ≡ get_or ys (k - length xs) d) e (get_or-append-add xs ys (k - length xs) d) in
        elim (cases_lt j (length xs)) [
          | inl both ↦
              let one : get_or (xs ++ ys) i d ≡ get_or xs i d = get_or_append_left xs ys d i (omega arith) in
              let other : get_or (xs ++ ys) j d ≡ get_or xs j d = get_or_append_left xs ys d j both in
              subst (λ (x : X). R x (get_or (xs ++ ys) j d)) (sym one) (subst (λ (y : X). R (get_or xs i d) y) (sym other) (front i j d less both))
          | inr behind ↦
              let other = later j (omega arith) in
              let inside : j - length xs < length ys = omega arith in
              subst (λ (y : X). R (get_or (xs ++ ys) i d) y) (sym other) (elim (cases_lt i (length xs)) [
                | inl early ↦
                    let one : get_or (xs ++ ys) i d ≡ get_or xs i d = get_or_append_left xs ys d i early in
                    subst (λ (x : X). R x (get_or ys (j - length xs) d)) (sym one)
                    (across (get_or xs i d) (get_or ys (j - length xs) d) (Contains-get_or xs i d early) (Contains-get_or ys (j - length xs) d inside))
                | inr late ↦
                    let one = later i (omega arith) in
                    subst (λ (x : X). R x (get_or ys (j - length xs) d)) (sym one) (back (i - length xs) (j - length xs) d (omega arith) inside)
              ])
        ]

    pub pairs_joined : (lists : ℕ → List X) (n : ℕ) → ((k : ℕ) → k < n → AllPairs R (lists k))
        → ((j k : ℕ) → j < k → (x y : X) → Contains (lists j) x → Contains (lists k) y → R x y) → AllPairs R (joined_below lists n)
    pairs_joined lists zero each across = λ i j d less within. absurd (omega arith)
    pairs_joined lists (suc n) each across =
        pairs_append (joined_below lists n) (lists n) (pairs_joined lists n (λ k less. each k (omega arith)) across) (each n (omega arith))
        (λ x y early last. let at = among_joined lists n x early in across at.0 n at.1 x y at.2 last)

    -- numbers that rise, each mapped
    pub pairs_map : (f : ℕ → X) (xs : List ℕ) → IsStrictlyIncreasing xs → ((a b : ℕ) → a < b → R (f a) (f b)) → AllPairs R (map f xs)
    pairs_map f xs up ordered i j d less within =
        let size : length (map f xs) ≡ length xs = length-map xs f in
        let one : get_or (map f xs) i d ≡ f (get_or xs i 0) = get_or-map f xs i 0 d (omega arith) in
        let other : get_or (map f xs) j d ≡ f (get_or xs j 0) = get_or-map f xs j 0 d (omega arith) in
        subst (λ (x : X). R x (get_or (map f xs) j d)) (sym one) (subst (λ (y : X). R (f (get_or xs i 0)) y) (sym other)
        (ordered (get_or xs i 0) (get_or xs j 0) (AllPairs-from_increasing xs up i j 0 less (omega arith))))

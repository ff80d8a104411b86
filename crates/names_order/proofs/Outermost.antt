-- Of things in order, those that do not lie in the last one that is kept: they are in order and apart, and hold what all hold.
use Rattle.std.proofs.Common.{◌≡◌, ◌+◌, ◌<◌, ◌≤◌, ℕ, zero, suc, List, [], ◌∷◌, length, Bool, true, false, ◌||◌, cond, refl, ap, subst, sym, ◌∙◌, arith, get_or}
use Rattle.std.specs.List.{AllByRecursion, list_any, dedup, dedup_from}
use Rattle.std.specs.List.Sorted.{IsSortedBy}
use Rattle.std.specs.Cmp.{IsStrictWeakOrder}
use Rattle.std.proofs.lemmas.Bool.{false≢true}
use Rattle.std.proofs.lemmas.List.Sorted.{sorted_far}

module _ {X : Type 0} (inside : X → X → Bool) where
  -- those that are kept behind the last one that is kept
  abbrev kept_behind : X → List X → List X
  kept_behind last [] = []
  kept_behind last (s ∷ list) = cond (inside s last) (kept_behind last list) (s ∷ kept_behind s list)

  kept_if : (b : Bool) (last s : X) (list : List X) → dedup_from inside last list ≡ last ∷ kept_behind last list → dedup_from inside s list ≡ s ∷ kept_behind s list
      → cond b (dedup_from inside last list) (last ∷ dedup_from inside s list) ≡ last ∷ cond b (kept_behind last list) (s ∷ kept_behind s list)
  kept_if true last s list e f = e
  kept_if false last s list e f = ap (λ (l : List X). last ∷ l) f

  kept_is : (last : X) (list : List X) → dedup_from inside last list ≡ last ∷ kept_behind last list
  kept_is last [] = refl
  kept_is last (s ∷ list) = kept_if (inside s last) last s list (kept_is last list) (kept_is s list)

  -- a test that one passes if something inside it does
  module _ (test : X → Bool) (each : (s t : X) → inside s t ≡ true → test s ≡ true → test t ≡ true) where
    dropped : (a b c d : Bool) → (b ≡ true → a ≡ true) → (a || c) ≡ (a || d) → (a || c) ≡ (a || (b || d))
    dropped true b c d h e = refl
    dropped false true c d h e = absurd (false≢true (h refl))
    dropped false false c d h e = e

    passed_if : (b : Bool) (last s : X) (list : List X) → inside s last ≡ b
        → (test last || list_any test (kept_behind last list)) ≡ (test last || list_any test list)
        → (test s || list_any test (kept_behind s list)) ≡ (test s || list_any test list)
        → (test last || list_any test (cond b (kept_behind last list) (s ∷ kept_behind s list))) ≡ (test last || (test s || list_any test list))
    passed_if false last s list e a b = ap (λ t. test last || t) b
    passed_if true last s list e a b = dropped (test last) (test s) _ _ (each s last e) a

    passed : (last : X) (list : List X) → (test last || list_any test (kept_behind last list)) ≡ (test last || list_any test list)
    passed last [] = refl
    passed last (s ∷ list) = passed_if (inside s last) last s list refl (passed last list) (passed s list)

    pub outermost_pass : (list : List X) → list_any test (dedup inside list) ≡ list_any test list
    outermost_pass [] = refl
    outermost_pass (s ∷ list) = ap (list_any test) (kept_is s list) ∙ passed s list

  module _ (before : X → X → Bool) (rank : IsStrictWeakOrder before) where
    -- each stands before none of those before it
    abbrev Behind : X → List X → Type 0
    Behind s list = AllByRecursion (λ t. before t s ≡ false) list

    abbrev Rises : List X → Type 0
    Rises [] = Unit {0}
    Rises (s ∷ list) = Behind s list × Rises list

    behind_of : (s : X) (list : List X) → ((k : ℕ) → k < length list → before (get_or list k s) s ≡ false) → Behind s list
    behind_of s [] h = tt
    behind_of s (t ∷ list) h = (h 0 (omega arith), behind_of s list (λ k lt. h (suc k) (omega arith)))

    rises_of : (list : List X) → ((i j : ℕ) (d : X) → i ≤ j → j < length list → before (get_or list j d) (get_or list i d) ≡ false) → Rises list
    rises_of [] h = tt
    rises_of (s ∷ list) h = (behind_of s list (λ k lt. h 0 (suc k) s (omega arith) (omega arith)), rises_of list (λ i j d le lt. h (suc i) (suc j) d (omega arith) (omega arith)))

    -- each stands behind the one before it, and doesn't lie in it
    record Follows (t s : X) : Type 0 where
      behind : before t s ≡ false
      apart : inside t s ≡ false

    abbrev Linked : X → List X → Type 0
    Linked last [] = Unit {0}
    Linked last (s ∷ list) = Follows s last × Linked s list

    linked_if : (b : Bool) (last s : X) (rest more : List X) → inside s last ≡ b → before s last ≡ false → Linked last rest → Linked s more → Linked last (cond b rest (s ∷ more))
    linked_if true last s rest more e up a b = a
    linked_if false last s rest more e up a b = (record { behind = up; apart = e }, b)

    linked : (last : X) (list : List X) → Behind last list → Rises list → Linked last (kept_behind last list)
    linked last [] h k = tt
    linked last (s ∷ list) h k =
        linked_if (inside s last) last s (kept_behind last list) (kept_behind s list) refl h.0 (linked last list h.1 k.1) (linked s list k.0 k.1)

    follows_at : (last : X) (list : List X) → Linked last list → (k : ℕ) (d : X) → k + 1 < length (last ∷ list) → Follows (get_or (last ∷ list) (k + 1) d) (get_or (last ∷ list) k d)
    follows_at last [] h k d lt = absurd (omega arith)
    follows_at last (s ∷ list) h zero d lt = h.0
    follows_at last (s ∷ list) h (suc k) d lt =
        let e : suc (k + 1) ≡ suc k + 1 = omega arith in
        subst (λ (n : ℕ). Follows (get_or (last ∷ s ∷ list) n d) (get_or (s ∷ list) k d)) e (follows_at s list h.1 k d (omega arith))

    outermost_follow : (list : List X) → IsSortedBy before list → (k : ℕ) (d : X) → k + 1 < length (dedup inside list) → Follows (get_or (dedup inside list) (k + 1) d) (get_or (dedup inside list) k d)
    outermost_follow [] h k d lt = absurd (omega arith)
    outermost_follow (s ∷ list) h k d lt =
        let up = rises_of (s ∷ list) (λ i j e a b. sorted_far before rank (s ∷ list) h i j e a b) in
        subst (λ (l : List X). Follows (get_or l (k + 1) d) (get_or l k d)) (sym (kept_is s list))
        (follows_at s (kept_behind s list) (linked s list up.0 up.1) k d (omega (arith, ap length (kept_is s list))))

    pub outermost_sorted : (list : List X) → IsSortedBy before list → IsSortedBy before (dedup inside list)
    outermost_sorted list h k d low lt = (outermost_follow list h k d lt).behind

    pub outermost_apart : (list : List X) → IsSortedBy before list → (k : ℕ) (d : X) → k + 1 < length (dedup inside list)
        → inside (get_or (dedup inside list) (k + 1) d) (get_or (dedup inside list) k d) ≡ false
    outermost_apart list h k d lt = (outermost_follow list h k d lt).apart

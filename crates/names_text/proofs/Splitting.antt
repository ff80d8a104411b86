use Rattle.std.proofs.Common.{◌≡◌, ℕ, ◌<◌, List, [], ◌∷◌, ◌++◌, length, Bool, true, refl, sym, ◌∙◌, ap, inl, inr, arith, append_assoc, length-append, take, drop}
use Rattle.std.specs.List.{slice_split, onto_first, join_with_byte}
use Rattle.std.proofs.lemmas.Bool.{cases_Bool}
use Rattle.std.proofs.lemmas.List.{take_at, drop_at}
use Rattle.std.proofs.lemmas.List.Splits.{slice_split-cons_yes, slice_split-cons_no, length-slice_split}

module _ {X : Type 0} (p : X → Bool) where
  onto_first-append : (x : X) (l r : List (List X)) → 0 < length l → onto_first x (l ++ r) ≡ onto_first x l ++ r
  onto_first-append x [] r h = absurd (omega arith)
  onto_first-append x (a ∷ l) r h = refl

  pub slice_split_nonempty : (xs : List X) → 0 < length (slice_split p xs)
  slice_split_nonempty xs = omega (arith, length-slice_split p xs)

  pub slice_split-append : (xs : List X) (y : X) (ys : List X) → p y ≡ true → slice_split p (xs ++ y ∷ ys) ≡ slice_split p xs ++ slice_split p ys
  slice_split-append [] y ys h = slice_split-cons_yes p y ys h
  slice_split-append (x ∷ xs) y ys h =
      elim (cases_Bool (p x)) [
        | inl e ↦ slice_split-cons_yes p x (xs ++ y ∷ ys) e
            ∙ (ap (λ (l : List (List X)). [] ∷ l) (slice_split-append xs y ys h)
            ∙ ap (λ (l : List (List X)). l ++ slice_split p ys) (sym (slice_split-cons_yes p x xs e)))
        | inr e ↦ slice_split-cons_no p x (xs ++ y ∷ ys) e
            ∙ (ap (λ (l : List (List X)). onto_first x l) (slice_split-append xs y ys h)
            ∙ (onto_first-append x (slice_split p xs) (slice_split p ys) (slice_split_nonempty xs)
            ∙ ap (λ (l : List (List X)). l ++ slice_split p ys) (sym (slice_split-cons_no p x xs e))))
      ]

pub join-append : (c : ℕ) (ls rs : List (List ℕ)) → 0 < length ls → 0 < length rs → join_with_byte c (ls ++ rs) ≡ join_with_byte c ls ++ (c ∷ join_with_byte c rs)
join-append c [] rs h k = absurd (omega arith)
join-append c (x ∷ []) [] h k = absurd (omega arith)
join-append c (x ∷ []) (r ∷ rs) h k = refl
join-append c (x ∷ y ∷ ls) rs h k =
    ap (λ (l : List ℕ). x ++ (c ∷ l)) (join-append c (y ∷ ls) rs (omega arith) k)
    ∙ sym (append_assoc x (c ∷ join_with_byte c (y ∷ ls)) (c ∷ join_with_byte c rs))

-- two equal joined lists whose second parts are of one length
pub same_ends : {X : Type 0} (a b c d : List X) → a ++ b ≡ c ++ d → length b ≡ length d → (a ≡ c) × (b ≡ d)
same_ends a b c d e h =
    let n : length a ≡ length c = omega (arith, ap length e, length-append a b, length-append c d) in (
      sym (take_at a b (length a) refl) ∙ (ap (λ (l : List _). take (length a) l) e ∙ take_at c d (length a) (sym n)),
      sym (drop_at a b (length a) refl) ∙ (ap (λ (l : List _). drop (length a) l) e ∙ drop_at c d (length a) (sym n)),
    )

-- Of two candidates one is before the other, so the first valid one is one.
use Rattle.std.proofs.Common.{◌≡◌, ◌⊎◌, ℕ, List, [], ◌∷◌, length, arith, refl, ap, ◌∙◌, sym, inl, inr}
use Rattle.std.proofs.lemmas.Bool.{cases_order}
use Rattle.path_issuers.specs.Search.{Candidate, ArePlacesBefore, IsBefore, CandidatesAreOrdered, FirstValidIsOne}

same_places : (m n : ℕ) (ms ns : List ℕ) → m ≡ n → ms ≡ ns → m ∷ ms ≡ n ∷ ns
same_places m n ms ns e f = cc

places_order : (one other : List ℕ) → length one ≡ length other → ArePlacesBefore one other ⊎ ((one ≡ other) ⊎ ArePlacesBefore other one)
places_order [] [] same = inr (inl refl)
places_order [] (n ∷ ns) same = absurd (omega arith)
places_order (m ∷ ms) [] same = absurd (omega arith)
places_order (m ∷ ms) (n ∷ ns) same =
    elim (cases_order m n) [
      | inl e ↦ elim (places_order ms ns (omega arith)) [
        | inl before ↦ inl (inr (e, before))
        | inr o ↦ elim o [
          | inl equal ↦ inr (inl (same_places m n ms ns e equal))
          | inr after ↦ inr (inr (inr (sym e, after)))
        ]
      ]
      | inr o ↦ elim o [ inl less ↦ inl (inl less) | inr more ↦ inr (inr (inl more)) ]
    ]

same_candidate : (one other : Candidate) → one.above ≡ other.above → one.anchor ≡ other.anchor → one ≡ other
same_candidate one other e f = ap (λ above. record one { above = above }) e ∙ ap (λ anchor. record other { anchor = anchor }) f

anchor_order : (one other : Candidate) → one.above ≡ other.above → IsBefore one other ⊎ ((one ≡ other) ⊎ IsBefore other one)
anchor_order one other e =
    let same = ap (λ l. length l) e in
    elim (cases_order one.anchor other.anchor) [
      | inl f ↦ inr (inl (same_candidate one other e f))
      | inr o ↦ elim o [
        | inl less ↦ inl (inr (same, inr (e, less)))
        | inr more ↦ inr (inr (inr (sym same, inr (sym e, more))))
      ]
    ]

pub candidates_are_ordered : CandidatesAreOrdered
candidates_are_ordered one other =
    elim (cases_order (length one.above) (length other.above)) [
      | inl same ↦ elim (places_order one.above other.above same) [
        | inl before ↦ inl (inr (same, inl before))
        | inr o ↦ elim o [ inl e ↦ anchor_order one other e | inr after ↦ inr (inr (inr (sym same, inl after))) ]
      ]
      | inr o ↦ elim o [ inl less ↦ inl (inl less) | inr more ↦ inr (inr (inl more)) ]
    ]

pub first_valid_is_one : FirstValidIsOne
first_valid_is_one accepts s one other a b =
    elim (candidates_are_ordered one other) [
      | inl before ↦ absurd (b.first one before a.valid)
      | inr o ↦ elim o [ inl same ↦ same | inr after ↦ absurd (a.first other after b.valid) ]
    ]

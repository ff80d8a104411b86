-- Traces are the ways to a valid policy.
use Rattle.std.proofs.Common.{◌≡◌, ℕ, zero, suc, List, [], ◌∷◌, length, refl, ap, sym, subst}
use Rattle.path_policies.specs.Query.{PolicyQuery}
use Rattle.path_policies.specs.Policies.{Follows, IsFollowing, IsValidPolicy, IsBelow}
use Rattle.path_policies.specs.TreeLaws.{IsTrace}

module _ (q : PolicyQuery) where
  -- of a policy with its parent and those above: the certificate has it below the parent
  abbrev pub IsReached : List (List ℕ) → Type 0
  IsReached [] = ⊥
  IsReached (policy ∷ []) = ⊥
  IsReached (policy ∷ parent ∷ above) = IsTrace q (parent ∷ above) × Follows q (length above) (IsValidPolicy q (length above)) parent policy

  pub trace_to : (i : ℕ) (policy : List ℕ) → IsValidPolicy q i policy → (above : List (List ℕ)) × (length above ≡ i) × IsTrace q (policy ∷ above)
  trace_to zero policy e = ([], refl, e)
  trace_to (suc i) policy h =
      let up = trace_to i h.0 h.1 in
      (h.0 ∷ up.0, ap suc up.1, (up.2, subst (λ n. IsBelow q n h.0 policy) (sym up.1) (h.1, h.2)))

  pub trace_valid : (above : List (List ℕ)) (policy : List ℕ) → IsTrace q (policy ∷ above) → IsValidPolicy q (length above) policy
  trace_valid [] policy e = e
  trace_valid (parent ∷ above) policy h = (parent, h.1.0, h.1.1)

  pub valid_at : (i : ℕ) (above : List (List ℕ)) (policy : List ℕ) → length above ≡ i → IsTrace q (policy ∷ above) → IsValidPolicy q i policy
  valid_at i above policy d h = subst (λ n. IsValidPolicy q n policy) d (trace_valid above policy h)

  -- what follows somewhere follows below some trace
  pub following_trace : (i : ℕ) (policy : List ℕ) → IsFollowing q i (IsValidPolicy q i) policy
      → (parent : List ℕ) × (above : List (List ℕ)) × (length above ≡ i) × IsTrace q (parent ∷ above) × Follows q i (IsValidPolicy q i) parent policy
  following_trace i policy h = let up = trace_to i h.0 h.1 in (h.0, up.0, up.1, up.2, h.2)

  pub trace_following : (i : ℕ) (above : List (List ℕ)) (parent policy : List ℕ) → length above ≡ i → IsTrace q (parent ∷ above)
      → Follows q i (IsValidPolicy q i) parent policy → IsFollowing q i (IsValidPolicy q i) policy
  trace_following i above parent policy d up follows = (parent, valid_at i above parent d up, follows)

  pub reached_at : (i : ℕ) (above : List (List ℕ)) (parent policy : List ℕ) → length above ≡ i → IsReached (policy ∷ parent ∷ above)
      → IsTrace q (parent ∷ above) × Follows q i (IsValidPolicy q i) parent policy
  reached_at i above parent policy d h = (h.0, subst (λ n. Follows q n (IsValidPolicy q n) parent policy) d h.1)

  pub at_reached : (i : ℕ) (above : List (List ℕ)) (parent policy : List ℕ) → length above ≡ i → IsTrace q (parent ∷ above)
      → Follows q i (IsValidPolicy q i) parent policy → IsReached (policy ∷ parent ∷ above)
  at_reached i above parent policy d up follows = (up, subst (λ n. Follows q n (IsValidPolicy q n) parent policy) (sym d) follows)

-- What counts of the certificates of a path, from below the anchor downward.
use Rattle.std.proofs.Common.{◌≡◌, ℕ, ◌+◌, ◌<◌, List, [], ◌∷◌, ◌++◌, length, take, map, get_or, reverse, arith, sym, ap, subst, ◌∙◌, append_assoc, Result, IfOk}
use Rattle.std.proofs.lemmas.List.{get_or-map, length-map, reverse-append, take_all, take_more}
use Rattle.path_issuers.specs.Search.{Candidate}
use Rattle.path_policies.specs.Outcome.{IsPolicyOutcome}
use Rattle.path_policies.specs.Query.{PolicyCertificate}
use Rattle.path_policies.specs.declared.reason.PolicyOutcome.{PolicyOutcome}
use Rattle.relying_policies.specs.SearchPolicies.{SearchPolicies, policies_about, policies_at, policies_down_to_target}

-- what was made, and what is left, given from the target upward
abbrev pub with_left : List PolicyCertificate → PolicyCertificate → List PolicyCertificate → List PolicyCertificate
with_left made target left = made ++ reverse (target ∷ left)

-- of those that are left the last one stands at the top
top_first : (target : PolicyCertificate) (certs : List PolicyCertificate) (k : ℕ) (c : PolicyCertificate) → k < length certs → get_or certs k target ≡ c
    → reverse (target ∷ take (k + 1) certs) ≡ c ∷ reverse (target ∷ take k certs)
top_first target certs k c below is =
    ap (λ left. reverse (target ∷ left)) (take_more certs k target below ∙ ap (λ one. take k certs ++ one ∷ []) is)
    ∙ reverse-append (target ∷ take k certs) (c ∷ [])

module _ (p : SearchPolicies) (places : List ℕ) where
  abbrev pub left_at : ℕ → List PolicyCertificate
  left_at k = take k (map (policies_at p) places)

  pub one_more : (made now : List PolicyCertificate) (left next after : ℕ) → next < length places → left ≡ next + 1 → after ≡ next
      → now ≡ made ++ policies_at p (get_or places next 0) ∷ [] → with_left made p.target (left_at left) ≡ policies_down_to_target p places
      → with_left now p.target (left_at after) ≡ policies_down_to_target p places
  one_more made now left next after below left_is after_is pushed so_far =
      let count = length-map places (policies_at p) in
      let c : PolicyCertificate = policies_at p (get_or places next 0) in
      let here : get_or (map (policies_at p) places) next p.target ≡ c = get_or-map (policies_at p) places next 0 p.target below in
      ap (λ l. l ++ reverse (p.target ∷ left_at after)) pushed
      ∙ append_assoc made (c ∷ []) (reverse (p.target ∷ left_at after))
      ∙ ap (λ n. made ++ c ∷ reverse (p.target ∷ left_at n)) after_is
      ∙ ap (λ l. made ++ l) (sym (top_first p.target (map (policies_at p) places) next c (omega (arith, below, count)) here))
      ∙ ap (λ n. with_left made p.target (left_at n)) (sym left_is)
      ∙ so_far

  -- the last one is that of the target
  pub last_one : (made now : List PolicyCertificate) (left : ℕ) → left ≡ 0 → now ≡ made ++ p.target ∷ []
      → with_left made p.target (left_at left) ≡ policies_down_to_target p places → now ≡ policies_down_to_target p places
  last_one made now left none pushed so_far = pushed ∙ ap (λ n. with_left made p.target (left_at n)) (sym none) ∙ so_far

  -- before the first one all are left
  pub none_yet : (made : List PolicyCertificate) (count : ℕ) → made ≡ [] → count ≡ length places
      → with_left made p.target (left_at count) ≡ policies_down_to_target p places
  none_yet made count none is =
      let all = length-map places (policies_at p) in
      ap (λ l. with_left l p.target (left_at count)) none
      ∙ ap (λ left. reverse (p.target ∷ left)) (take_all count (map (policies_at p) places) (omega (arith, is, all)))

-- what is answered of such certificates is answered of the policies of the path
pub about : {E : Type 0} (p : SearchPolicies) (c : Candidate) (certificates : List PolicyCertificate) (result : Result PolicyOutcome E)
    → certificates ≡ policies_down_to_target p c.above
    → IfOk result (IsPolicyOutcome (record (policies_about p c) { certificates = certificates })) → IfOk result (IsPolicyOutcome (policies_about p c))
about p c certificates result is = subst (λ all. IfOk result (IsPolicyOutcome (record (policies_about p c) { certificates = all }))) is

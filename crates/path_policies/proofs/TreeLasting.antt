-- After the last certificate, each node of the tree leads to one of the last depth.
use Rattle.std.proofs.Common.{◌≡◌, ◌↔◌, ◌+◌, ◌-◌, ℕ, zero, suc, List, ◌∷◌, length, Option, Some, None, arith, refl, sym, subst, add-one}
use Rattle.path_policies.specs.Query.{PolicyQuery, count}
use Rattle.path_policies.specs.Policies.{Expects, Lasts}
use Rattle.path_policies.specs.Nodes.{PolicyTree, valid_policy}
use Rattle.path_policies.specs.Tree.{tree_after}
use Rattle.path_policies.specs.TreeLaws.{IsNodeOf, HasBranch, IsTrace, BranchesLast}
use Rattle.path_policies.proofs.Known.{Stands, StandsOrNull}
use Rattle.path_policies.proofs.Branching.{HaveChildrenAbove, IsBranching, after_branching}
use Rattle.path_policies.proofs.Trees.{after_stands}

module _ (q : PolicyQuery) where
  abbrev pub IsKnown : PolicyTree → Type 0
  IsKnown t = Stands (count q) (IsTrace q) (Expects q (count q)) t

  -- a node leads to one of the last depth
  pub leads : (t : PolicyTree) → IsKnown t → HaveChildrenAbove (count q) t → (more : ℕ) (above : List (List ℕ)) (u : PolicyTree)
      → length above + more ≡ count q → IsNodeOf t above u
      → IsTrace q (valid_policy u ∷ above) × Lasts q more (length above) (valid_policy u)
  leads t s have zero above u d is = let last : length above ≡ count q = omega arith in (s.sound above u last is, last)
  leads t s have (suc more) above u d is =
      let c = have above u (omega arith) is in
      let size : length (valid_policy u ∷ above) + more ≡ count q = omega arith in
      let below = leads t s have more (valid_policy u ∷ above) c.0 size (u, is, refl, c.1) in
      (below.0.0, (valid_policy c.0, below.0.1, subst (λ n. Lasts q more n (valid_policy c.0)) (sym (add-one (length above))) below.1))

  -- a trace whose policy lasts is there
  pub lasting : (t : PolicyTree) → IsKnown t → (more : ℕ) (above : List (List ℕ)) (policy : List ℕ) → IsTrace q (policy ∷ above)
      → Lasts q more (length above) policy → (u : PolicyTree) × IsNodeOf t above u × (valid_policy u ≡ policy)
  lasting t s zero above policy trace lasts = s.complete above policy lasts trace
  lasting t s (suc more) above policy trace lasts =
      let further = subst (λ n. Lasts q more n lasts.0) (add-one (length above)) lasts.2 in
      let child = lasting t s more (policy ∷ above) lasts.0 (trace, lasts.1) further in
      (child.1.0, child.1.1, child.1.2)

  -- where the tree is NULL there is no such trace
  pub never_lasting : ((above : List (List ℕ)) (policy : List ℕ) → length above ≡ count q → IsTrace q (policy ∷ above) → ⊥)
      → (more : ℕ) (above : List (List ℕ)) (policy : List ℕ) → IsTrace q (policy ∷ above) → Lasts q more (length above) policy → ⊥
  never_lasting none zero above policy trace lasts = none above policy lasts trace
  never_lasting none (suc more) above policy trace lasts =
      never_lasting none more (policy ∷ above) lasts.0 (trace, lasts.1) (subst (λ n. Lasts q more n lasts.0) (add-one (length above)) lasts.2)

  branch_lasts : (tree : Option PolicyTree) → StandsOrNull (count q) (IsTrace q) (Expects q (count q)) tree → IsBranching (count q) tree
      → (policy : List ℕ) (above : List (List ℕ)) (more : ℕ) → length above + more ≡ count q
      → HasBranch tree (policy ∷ above) ↔ (IsTrace q (policy ∷ above) × Lasts q more (length above) policy)
  branch_lasts None s have policy above more d = (λ h. absurd h.1, λ h. absurd (never_lasting (s.none refl) more above policy h.0 h.1))
  branch_lasts (Some t) s have policy above more d = (
    λ h. subst (λ p. IsTrace q (p ∷ above) × Lasts q more (length above) p) h.2 (leads t (s.stands t refl) (have t refl) more above h.0 d h.1),
    λ h. lasting t (s.stands t refl) more above policy h.0 h.1,
  )

pub branches_last : BranchesLast
branches_last q plain policy above short =
    branch_lasts q (tree_after q (count q)) (after_stands q (count q) (omega arith) plain) (after_branching q (count q)) policy above
    (count q - length above) (omega arith)

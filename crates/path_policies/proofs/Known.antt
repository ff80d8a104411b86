-- What is known of a tree: the nodes of its last depth are those at the end of the right branches.
use Rattle.std.proofs.Common.{◌≡◌, ◌↔◌, ℕ, List, [], ◌∷◌, length, Option, Some, None, subst}
use Rattle.std.specs.List.{Contains}
use Rattle.path_policies.specs.Nodes.{PolicyTree, valid_policy, expected_policy_set, children}
use Rattle.path_policies.specs.TreeLaws.{IsNodeOf}
use Rattle.path_policies.proofs.Growing.{AtEach}

-- the nodes of one depth are those at the end of the right branches, and expect this
pub record Stands (depth : ℕ) (IsRight : List (List ℕ) → Type 0) (IsExpected : List ℕ → List ℕ → Type 0) (t : PolicyTree) : Type 0 where
  pub last : AtEach depth t (λ u. children u ≡ [])
  pub sound : (above : List (List ℕ)) (u : PolicyTree) → length above ≡ depth → IsNodeOf t above u → IsRight (valid_policy u ∷ above)
  pub complete : (above : List (List ℕ)) (policy : List ℕ) → length above ≡ depth → IsRight (policy ∷ above)
      → (u : PolicyTree) × IsNodeOf t above u × (valid_policy u ≡ policy)
  pub expected : AtEach depth t (λ u. (policy : List ℕ) → Contains (expected_policy_set u) policy ↔ IsExpected (valid_policy u) policy)

abbrev pub HasNodeAt : ℕ → PolicyTree → Type 0
HasNodeAt depth t = (above : List (List ℕ)) × (u : PolicyTree) × (length above ≡ depth) × IsNodeOf t above u

-- and the tree is NULL exactly if there is no right branch
pub record StandsOrNull (depth : ℕ) (IsRight : List (List ℕ) → Type 0) (IsExpected : List ℕ → List ℕ → Type 0) (tree : Option PolicyTree) : Type 0 where
  pub stands : (t : PolicyTree) → tree ≡ Some t → Stands depth IsRight IsExpected t
  pub some : (t : PolicyTree) → tree ≡ Some t → HasNodeAt depth t
  pub none : tree ≡ None → (above : List (List ℕ)) (policy : List ℕ) → length above ≡ depth → IsRight (policy ∷ above) → ⊥

-- each node of a depth has a child
abbrev pub HaveChildren : ℕ → Option PolicyTree → Type 0
HaveChildren depth tree = (t : PolicyTree) → tree ≡ Some t → AtEach depth t (λ u. (c : PolicyTree) × Contains (children u) c)

-- the same in other words
module _ (depth : ℕ) (First Second : List (List ℕ) → Type 0) (Expects Other : List ℕ → List ℕ → Type 0)
    (right : (above : List (List ℕ)) (policy : List ℕ) → length above ≡ depth → First (policy ∷ above) ↔ Second (policy ∷ above))
    (expect : (above : List (List ℕ)) (own policy : List ℕ) → length above ≡ depth → Second (own ∷ above) → Expects own policy ↔ Other own policy) where
  pub stands_as : (t : PolicyTree) → Stands depth First Expects t → Stands depth Second Other t
  stands_as t s = record {
    last = s.last;
    sound = λ above u d is. (right above (valid_policy u) d).0 (s.sound above u d is);
    complete = λ above policy d h. s.complete above policy d ((right above policy d).1 h);
    expected = λ above u d is policy.
        let here = expect above (valid_policy u) policy d ((right above (valid_policy u) d).0 (s.sound above u d is)) in
        (λ h. here.0 ((s.expected above u d is policy).0 h), λ h. (s.expected above u d is policy).1 (here.1 h));
  }

  pub null_as : (tree : Option PolicyTree) → StandsOrNull depth First Expects tree → StandsOrNull depth Second Other tree
  null_as tree s = record {
    stands = λ t e. stands_as t (s.stands t e);
    some = s.some;
    none = λ e above policy d h. s.none e above policy d ((right above policy d).1 h);
  }

pub is_null : (depth : ℕ) (IsRight : List (List ℕ) → Type 0) (IsExpected : List ℕ → List ℕ → Type 0)
    → ((above : List (List ℕ)) (policy : List ℕ) → length above ≡ depth → IsRight (policy ∷ above) → ⊥) → StandsOrNull depth IsRight IsExpected None
is_null depth IsRight IsExpected never = record { stands = λ t e. cc; some = λ t e. cc; none = λ e. never }

-- a tree that is there
pub is_there : (depth : ℕ) (IsRight : List (List ℕ) → Type 0) (IsExpected : List ℕ → List ℕ → Type 0) (t : PolicyTree)
    → Stands depth IsRight IsExpected t → HasNodeAt depth t → StandsOrNull depth IsRight IsExpected (Some t)
is_there depth IsRight IsExpected t s h = record {
  stands = λ other e. let same : t ≡ other = cc in subst (λ x. Stands depth IsRight IsExpected x) same s;
  some = λ other e. let same : t ≡ other = cc in subst (λ x. HasNodeAt depth x) same h;
  none = λ e. absurd (cc e);
}

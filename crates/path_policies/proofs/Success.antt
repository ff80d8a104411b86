-- The laws of the end of the processing.
use Rattle.std.proofs.Common.{◌≡◌, ◌≢◌, ◌↔◌, ◌⊎◌, ◌≤◌, ◌+◌, ◌-◌, ℕ, suc, List, [], ◌∷◌, cond, length, Option, Some, None, arith, refl, sym, ◌∙◌, subst, inl, inr}
use Rattle.std.specs.Prelude.{option_and_then}
use Rattle.std.specs.List.{list_any}
use Rattle.std.specs.Str.{bytes_eq}
use Rattle.std.proofs.lemmas.Bool.{cases_Bool, cases_eq, false≢true}
use Rattle.path_policies.specs.Query.{PolicyQuery, any_policy, count}
use Rattle.path_policies.specs.Policies.{Expects, Lasts}
use Rattle.path_policies.specs.Acceptance.{IsAuthorityPolicy, TakesAny, IsUserPolicy}
use Rattle.path_policies.specs.Nodes.{PolicyTree, without_childless}
use Rattle.path_policies.specs.Tree.{explicit_policy_at_end, tree_after}
use Rattle.path_policies.specs.Intersection.{chosen_tree, intersection}
use Rattle.path_policies.specs.TreeLaws.{IsNodeOf, IsTrace, MapNoAny, FirstNamedAreNodes, IntersectionIsExact, SuccessIsExact}
use Rattle.path_policies.proofs.TreeCounting.{explicit_policy_is_exact_at_end}
use Rattle.path_policies.proofs.TreeMembers.{among, found}
use Rattle.path_policies.proofs.Depths.{left_was, none_left, some_left}
use Rattle.path_policies.proofs.Known.{StandsOrNull}
use Rattle.path_policies.proofs.Branching.{HaveChildrenAbove, IsBranching, after_branching}
use Rattle.path_policies.proofs.Trees.{after_stands}
use Rattle.path_policies.proofs.TreeLasting.{IsKnown, branches_last}
use Rattle.path_policies.proofs.Accepting.{named_lasts, authority_there, some_authority, final, left_is_user, user_is_left}

-- nodes whose parent has anyPolicy

pub first_named_are_nodes : FirstNamedAreNodes
first_named_are_nodes q plain policy = (
  λ first.
      let l = named_lasts q plain policy first in
      let deep = l.2 in
      let more : l.1 ≡ count q - length (any_policy ∷ l.0) = omega arith in (
        first.named,
        (
          l.0,
          omega arith,
          (branches_last q plain policy (any_policy ∷ l.0) (omega arith)).1
              (l.3, subst (λ m. Lasts q m (length (any_policy ∷ l.0)) policy) more l.4),
        ),
      ),
  λ h.
      let above = h.1.0 in
      let inside = h.1.1 in
      let known = (branches_last q plain policy (any_policy ∷ above) (omega arith)).0 h.1.2 in
      let depth : suc (length above) ≡ length above + 1 = omega arith in
      record {
        depth = length above;
        above_end = inside;
        named = h.0;
        below = known.0.1;
        lasts = subst (λ n. Lasts q (count q - n) n policy) depth known.1;
      },
)

-- NULL

null_or_some : {X : Type 0} (o : Option X) → (o ≡ None) ⊎ ((x : X) × (o ≡ Some x))
null_or_some None = inl refl
null_or_some (Some x) = inr (x, refl)

module _ (q : PolicyQuery) (some : 1 ≤ count q) (plain : MapNoAny q (count q)) where
  abbrev HasPolicy : Type 0
  HasPolicy = (policy : List ℕ) × IsUserPolicy q policy

  abbrev IsKnownTree : Option PolicyTree → Type 0
  IsKnownTree tree = StandsOrNull (count q) (IsTrace q) (Expects q (count q)) tree

  authority : (policy : List ℕ) → IsUserPolicy q policy → (own : List ℕ) × IsAuthorityPolicy q own
  authority policy (inl every) = (policy, every.1)
  authority policy (inr (mine, inl own)) = (policy, own)
  authority policy (inr (mine, inr any)) = (any_policy, any)

  not_null_if : (tree : Option PolicyTree) → IsKnownTree tree → HasPolicy → tree ≢ None
  not_null_if tree s h = let own = authority h.0 h.1 in authority_there q plain tree s own.0 own.1

  -- the user takes every policy
  whole : TakesAny q → (tree : Option PolicyTree) → IsKnownTree tree → (tree ≢ None) ↔ HasPolicy
  whole takes tree s = (
    λ there. elim (null_or_some tree) [
      | inl null ↦ absurd (there null)
      | inr t ↦
          let node = s.some t.0 t.1 in
          let own = some_authority q plain t.0 (s.stands t.0 t.1) node.0 node.1 node.2 node.3 in
          (own.0, inl (takes, own.1))
    ],
    not_null_if tree s,
  )

  -- the user does not

  module _ (takes : ¬ TakesAny q) (t : PolicyTree) (known : IsKnown q t) (have : HaveChildrenAbove (count q) t) where
    abbrev depth : ℕ
    depth = count q - 1

    at_end : count q ≡ suc depth
    at_end = omega arith

    abbrev end : PolicyTree
    end = final q plain depth at_end takes t known have

    user_of : (left : PolicyTree) → without_childless depth end ≡ Some left → (above : List (List ℕ)) (u : PolicyTree) → length above ≡ suc depth
        → IsNodeOf left above u → HasPolicy
    user_of left e [] u d is = absurd (omega arith)
    user_of left e (parent ∷ above) u d is =
        let at : length above ≡ depth = omega arith in
        let was = left_was parent above end left u (subst (λ n. without_childless n end ≡ Some left) (sym at) e) is in
        left_is_user q plain depth at_end takes t known have above parent u at was

    part_of : (chosen_tree q.initial_policies depth t ≢ None) ↔ HasPolicy
    part_of = (
      λ there. elim (null_or_some (without_childless depth end)) [
        | inl null ↦ absurd (there null)
        | inr left ↦
            let node = some_left depth end left.0 left.1 in
            user_of left.0 left.1 node.0 node.1 node.2 node.3
      ],
      λ h null.
          let l = user_is_left q plain depth at_end takes t known have h.0 h.1 in
          none_left l.1 l.0 end l.2 (subst (λ n. without_childless n end ≡ None) (sym l.3) null) l.4,
    )

  part : ¬ TakesAny q → (tree : Option PolicyTree) → IsKnownTree tree → IsBranching (count q) tree
      → (option_and_then (chosen_tree q.initial_policies (count q - 1)) tree ≢ None) ↔ HasPolicy
  part takes None s have = (λ there. absurd (there refl), λ h. absurd (not_null_if None s h refl))
  part takes (Some t) s have = part_of takes t (s.stands t refl) (have t refl)

  pub intersected : (tree : Option PolicyTree) → IsKnownTree tree → IsBranching (count q) tree → (intersection q tree ≢ None) ↔ HasPolicy
  intersected tree s have =
      let rest = option_and_then (chosen_tree q.initial_policies (count q - 1)) tree in
      elim (cases_Bool (list_any (bytes_eq any_policy) q.initial_policies)) [
        | inl takes ↦ subst (λ b. (cond b tree rest ≢ None) ↔ HasPolicy) (sym takes) (whole (among q.initial_policies any_policy takes) tree s)
        | inr not_takes ↦ subst (λ b. (cond b tree rest ≢ None) ↔ HasPolicy) (sym not_takes)
            (part (λ takes. false≢true (sym not_takes ∙ found q.initial_policies any_policy takes)) tree s have)
      ]

pub intersection_is_exact : IntersectionIsExact
intersection_is_exact q some plain =
    intersected q some plain (tree_after q (count q)) (after_stands q (count q) (omega arith) plain) (after_branching q (count q))

pub success_is_exact : SuccessIsExact
success_is_exact q some plain =
    let required = explicit_policy_is_exact_at_end q some in
    let user = intersection_is_exact q some plain in
    let tree = intersection q (tree_after q (count q)) in (
      λ h is_required. elim h [
        | inl greater ↦ let none = required.1 is_required in absurd (omega arith)
        | inr there ↦ user.0 there
      ],
      λ h. elim (cases_eq (explicit_policy_at_end q) 0) [
        | inl none ↦ inr (user.1 (h (required.0 none)))
        | inr more ↦ inl (omega arith)
      ],
    )

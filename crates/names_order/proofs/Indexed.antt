-- What is kept of a list of subtrees.
use Rattle.std.proofs.Common.{◌≡◌, ℕ, List, [], ◌∷◌, Bool, true, false, ◌||◌, cond, map, refl, ap, subst, sym, ◌∙◌}
use Rattle.std.specs.Global.{Vec}
use Rattle.std.specs.List.Sorted.{IsSortedBy, IsPermutation}
use Rattle.std.proofs.lemmas.Bool.{false≢true, false_from_ne_true}
use Rattle.std.proofs.lemmas.List.Sorted.{list_any-IsPermutation}
use Rattle.std.proofs.lemmas.List.Kept.{IsSortedBy-filter}
use Rattle.names.specs.declared.subtree.Subtree.{Subtree}
use Rattle.names.specs.GeneralView.{subtree_base}
use Rattle.names.specs.GeneralLayout.{SubtreeBase}
use Rattle.names.specs.GeneralCoverage.{is_base_inside}
use Rattle.names_order.specs.Order.{is_ordered}
use Rattle.names_order.specs.Index.{is_in_one, lies_in_one, stands_before, lies_in_other, outermost_subtrees, ordered, unordered, IsApart, HasNoLonger, AreUnorderedOf, AreKeysIfMany, IsIndexed}
use Rattle.names_order.proofs.Members.{any_map, unordered_hold}
use Rattle.names_order.proofs.Halving.{subtrees_rank, ordered_held, inside_each}
use Rattle.names_order.proofs.Outermost.{outermost_pass, outermost_sorted, outermost_apart}

-- what has an order lies in subtrees that have one

one_in_order : (has_order : Bool) (base : SubtreeBase) (s : Subtree) (list : List Subtree) → is_ordered base ≡ true → has_order ≡ is_ordered (subtree_base s) → is_in_one (ordered list) base ≡ is_in_one list base
    → is_in_one (cond has_order (s ∷ ordered list) (ordered list)) base ≡ (is_base_inside base (subtree_base s) || is_in_one list base)
one_in_order true base s list h e more = ap (λ b. is_base_inside base (subtree_base s) || b) more
one_in_order false base s list h e more =
    let apart = false_from_ne_true (is_base_inside base (subtree_base s)) (λ t. false≢true (e ∙ ordered_held base (subtree_base s) h t)) in
    more ∙ ap (λ b. b || is_in_one list base) (sym apart)

ordered_hold : (base : SubtreeBase) → is_ordered base ≡ true → (list : List Subtree) → is_in_one (ordered list) base ≡ is_in_one list base
ordered_hold base h [] = refl
ordered_hold base h (s ∷ list) = one_in_order (is_ordered (subtree_base s)) base s list h refl (ordered_hold base h list)

outermost_hold : (q : SubtreeBase) → is_ordered q ≡ true → (list : List Subtree) → is_in_one (outermost_subtrees list) q ≡ is_in_one list q
outermost_hold q h list =
    outermost_pass lies_in_other (λ s. is_base_inside q (subtree_base s)) (λ s t inner held. inside_each q (subtree_base s) (subtree_base t) h held inner) list

pub unordered_of : (list rest : List Subtree) (bases : List SubtreeBase) → rest ≡ unordered list → map subtree_base list ≡ bases → AreUnorderedOf rest bases
unordered_of list rest bases rest_are are base h =
    ap (λ (l : List Subtree). is_in_one l base) rest_are
    ∙ (unordered_hold base list h
    ∙ (sym (any_map (λ other. is_base_inside base other) list) ∙ ap (λ (l : List SubtreeBase). lies_in_one l base) are))

pub indexed : (list all tops rest : List Subtree) (keys : List (Vec ℕ)) (longest : ℕ) → IsPermutation list all → IsSortedBy stands_before all → tops ≡ outermost_subtrees (ordered all) → rest ≡ unordered list
    → AreKeysIfMany rest keys → HasNoLonger longest all → IsIndexed all tops rest keys longest
indexed list all tops rest keys longest same sorted tops_are rest_are keys_are no_longer =
    let in_order = IsSortedBy-filter stands_before subtrees_rank (λ s. is_ordered (subtree_base s)) all sorted in
    record {
      sorted = subst (IsSortedBy stands_before) (sym tops_are) (outermost_sorted lies_in_other stands_before subtrees_rank (ordered all) in_order);
      apart = subst IsApart (sym tops_are) (outermost_apart lies_in_other stands_before subtrees_rank (ordered all) in_order);
      in_tops = λ base h. ap (λ (l : List Subtree). is_in_one l base) tops_are ∙ (outermost_hold base h (ordered all) ∙ ordered_hold base h all);
      in_rest = λ base unlike.
          ap (λ (l : List Subtree). is_in_one l base) rest_are
          ∙ (unordered_hold base list unlike ∙ list_any-IsPermutation (λ s. is_base_inside base (subtree_base s)) list all same);
      in_keys = keys_are;
      no_longer = no_longer;
    }

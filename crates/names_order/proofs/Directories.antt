-- Directory names by their keys.
use Rattle.std.proofs.Common.{◌≡◌, ℕ, List, [], ◌∷◌, Bool, false, ◌++◌, ◌||◌, ◌&&◌, Option, Some, None, nat_eq, map, refl, ap, ap₂, subst, sym, ◌∙◌}
use Rattle.std.specs.Global.{Vec}
use Rattle.std.specs.List.{list_any, cons_option, dedup, starts_with}
use Rattle.std.specs.List.Sorted.{IsSortedBy, IsPermutation}
use Rattle.std.proofs.lemmas.Cmp.{nat_list_cmp_total}
use Rattle.std.proofs.lemmas.List.Folds.{list_any-append}
use Rattle.std.proofs.lemmas.List.Sorted.{ranks_by, list_any-IsPermutation}
use Rattle.names_distinguished.specs.NameKey.{rdns_key}
use Rattle.names_distinguished.specs.NameOctets.{rdns_of}
use Rattle.names_distinguished.proofs.Laws.{keys_decide_within}
use Rattle.names.specs.declared.subtree.Subtree.{Subtree}
use Rattle.names.specs.declared.subtree.Subtree.TheVariants as S
use Rattle.names.specs.GeneralView.{subtree_base}
use Rattle.names.specs.GeneralLayout.{SubtreeBase}
use Rattle.names.specs.GeneralCoverage.{is_base_inside}
use Rattle.names_order.specs.Order.{begins_with, is_ordered}
use Rattle.names_order.specs.Index.{is_in_one, lies_in_one, directory_key, directory_keys, key_octets, is_key_before, AreOutermost, AreKeysOf, KeysDecide, AreUnorderedOf}
use Rattle.names_order.proofs.KeyLists.{begins_with_each}
use Rattle.names_order.proofs.Members.{any_mapped, any_map}
use Rattle.names_order.proofs.Outermost.{outermost_pass, outermost_sorted, outermost_apart}

pub begins_is : (xs ys : List ℕ) → starts_with nat_eq xs ys ≡ begins_with xs ys
begins_is xs [] = refl
begins_is [] (y ∷ ys) = refl
begins_is (x ∷ xs) (y ∷ ys) = ap (λ b. nat_eq y x && b) (begins_is xs ys)

-- whether the octets begin with a key, if there is one
abbrev begins_with_key : List ℕ → Option (List ℕ) → Bool
begins_with_key octets None = false
begins_with_key octets (Some key) = begins_with octets key

inside_by_key : (s t : Subtree) (octets : List ℕ) → directory_key (subtree_base s) ≡ Some octets → is_base_inside (subtree_base s) (subtree_base t) ≡ begins_with_key octets (directory_key (subtree_base t))
unfolding is_base_inside
inside_by_key (S.Directory n) (S.Directory m) octets e =
    let is : rdns_key (rdns_of n) ≡ octets = cc in
    keys_decide_within n m ∙ (begins_is (rdns_key (rdns_of n)) (rdns_key (rdns_of m)) ∙ ap (λ (l : List ℕ). begins_with l (rdns_key (rdns_of m))) is)
inside_by_key (S.Directory n) (S.Dns t) octets e = refl
inside_by_key (S.Directory n) (S.Ip t) octets e = refl
inside_by_key (S.Directory n) (S.Other k t) octets e = refl
inside_by_key (S.Dns s) t octets e = cc
inside_by_key (S.Ip s) t octets e = cc
inside_by_key (S.Other k s) t octets e = cc

one_more : (octets : List ℕ) (key : Option (List ℕ)) (keys : List (List ℕ)) → list_any (begins_with octets) (cons_option key keys) ≡ (begins_with_key octets key || list_any (begins_with octets) keys)
one_more octets None keys = refl
one_more octets (Some key) keys = refl

in_one_by_keys : (s : Subtree) (octets : List ℕ) → directory_key (subtree_base s) ≡ Some octets → (list : List Subtree) → is_in_one list (subtree_base s) ≡ list_any (begins_with octets) (directory_keys list)
in_one_by_keys s octets e [] = refl
in_one_by_keys s octets e (t ∷ list) =
    ap (λ b. b || is_in_one list (subtree_base s)) (inside_by_key s t octets e)
    ∙ (ap (λ b. begins_with_key octets (directory_key (subtree_base t)) || b) (in_one_by_keys s octets e list)
    ∙ sym (one_more octets (directory_key (subtree_base t)) (directory_keys list)))

-- keys in order, without those that begin with the last one that is kept
pub outermost_keys : (all sorted keys : List (Vec ℕ)) → IsPermutation all sorted → IsSortedBy is_key_before sorted → keys ≡ dedup (λ one other. begins_with (key_octets one) (key_octets other)) sorted → AreOutermost all keys
outermost_keys all sorted keys same up is =
    let rank = ranks_by nat_list_cmp_total key_octets in
    let inside = λ (one other : Vec ℕ). begins_with (key_octets one) (key_octets other) in
    rw is record {
      searchable = record { sorted = outermost_sorted inside is_key_before rank sorted up; apart = outermost_apart inside is_key_before rank sorted up };
      same = λ octets.
          outermost_pass inside (λ key. begins_with octets (key_octets key)) (λ s t inner begun. begins_with_each octets (key_octets s) (key_octets t) begun inner) sorted
          ∙ sym (list_any-IsPermutation (λ key. begins_with octets (key_octets key)) all sorted same);
    }

pub keys_of_list : (list : List Subtree) (all keys : List (Vec ℕ)) → map key_octets all ≡ directory_keys list → AreOutermost all keys → AreKeysOf list keys
keys_of_list list all keys are kept = record {
  searchable = kept.searchable;
  decide = λ s octets e.
      kept.same octets
      ∙ (sym (any_mapped key_octets (begins_with octets) all)
      ∙ (ap (list_any (begins_with octets)) are ∙ sym (in_one_by_keys s octets e list)));
}

-- keys that decide

unlike : (s : Subtree) (octets : List ℕ) → directory_key (subtree_base s) ≡ Some octets → is_ordered (subtree_base s) ≡ false
unlike (S.Directory n) octets e = refl
unlike (S.Dns t) octets e = cc
unlike (S.Ip t) octets e = cc
unlike (S.Other k t) octets e = refl

by_bases : (base : SubtreeBase) (list : List Subtree) → is_in_one list base ≡ lies_in_one (map subtree_base list) base
by_bases base list = sym (any_map (λ other. is_base_inside base other) list)

pub keys_decide : (list : List Subtree) (keys : List (Vec ℕ)) → map key_octets keys ≡ directory_keys list → KeysDecide keys (map subtree_base list)
keys_decide list keys are s octets e =
    sym (any_mapped key_octets (begins_with octets) keys)
    ∙ (ap (list_any (begins_with octets)) are ∙ (sym (in_one_by_keys s octets e list) ∙ by_bases (subtree_base s) list))

pub copies_decide : (rest : List Subtree) (keys copies : List (Vec ℕ)) → AreKeysOf rest keys → map key_octets copies ≡ map key_octets keys → KeysDecide copies (map subtree_base rest)
copies_decide rest keys copies of same s octets e =
    sym (any_mapped key_octets (begins_with octets) copies)
    ∙ (ap (list_any (begins_with octets)) same
    ∙ (any_mapped key_octets (begins_with octets) keys ∙ (of.decide s octets e ∙ by_bases (subtree_base s) rest)))

pub decide_same : (keys : List (Vec ℕ)) (one other : List SubtreeBase) → one ≡ other → KeysDecide keys one → KeysDecide keys other
decide_same keys one other are decide = subst (KeysDecide keys) are decide

-- what has no order lies in one of all just if it lies in one of the rest
pub rest_decides : (all rest : List Subtree) (keys : List (Vec ℕ)) → ((base : SubtreeBase) → is_ordered base ≡ false → is_in_one rest base ≡ is_in_one all base) → KeysDecide keys (map subtree_base rest) → KeysDecide keys (map subtree_base all)
rest_decides all rest keys alike decide s octets e =
    decide s octets e
    ∙ (sym (by_bases (subtree_base s) rest) ∙ (alike (subtree_base s) (unlike s octets e) ∙ by_bases (subtree_base s) all))

-- the keys of two lists
pub two_decide : (front back all : List (Vec ℕ)) (one other bases : List SubtreeBase) → all ≡ front ++ back → one ++ other ≡ bases → KeysDecide front one → KeysDecide back other → KeysDecide all bases
two_decide front back all one other bases both are front_decide back_decide s octets e =
    ap (list_any (λ key. begins_with octets (key_octets key))) both
    ∙ (list_any-append (λ key. begins_with octets (key_octets key)) front back
    ∙ (ap₂ ◌||◌ (front_decide s octets e) (back_decide s octets e)
    ∙ (sym (list_any-append (λ base. is_base_inside (subtree_base s) base) one other) ∙ ap (λ (l : List SubtreeBase). lies_in_one l (subtree_base s)) are)))

pub keys_kept : (rest : List Subtree) (all keys : List (Vec ℕ)) (bases : List SubtreeBase) → KeysDecide all bases → AreUnorderedOf rest bases → AreOutermost all keys → AreKeysOf rest keys
keys_kept rest all keys bases decide are kept = record {
  searchable = kept.searchable;
  decide = λ s octets e. kept.same octets ∙ (decide s octets e ∙ sym (are (subtree_base s) (unlike s octets e)));
}

-- Of subtrees in order, of which none lies in the one before it, the last that does not stand behind a base is the one that may hold it.
use Rattle.std.proofs.Common.{◌≡◌, ◌+◌, ◌-◌, ◌<◌, ◌≤◌, ℕ, List, length, Bool, true, false, not, refl, sym, ◌∙◌, get_or}
use Rattle.std.specs.List.{list_any}
use Rattle.std.specs.List.Sorted.{IsSortedBy, IsPartitionedBy, IsPartitionPoint}
use Rattle.std.specs.Cmp.{IsStrictWeakOrder}
use Rattle.std.proofs.lemmas.Bool.{false≢true, false_from_ne_true}
use Rattle.std.proofs.lemmas.Cmp.{nat_list_cmp_total}
use Rattle.std.proofs.lemmas.List.Sorted.{ranks_by}
use Rattle.names.specs.declared.subtree.Subtree.{Subtree}
use Rattle.names.specs.GeneralView.{subtree_base}
use Rattle.names.specs.GeneralLayout.{SubtreeBase, directory_base, dns_base, ip_base, other_base}
use Rattle.names.specs.GeneralCoverage.{is_base_inside}
use Rattle.names_order.specs.Order.{begins_with, base_key, is_ordered}
use Rattle.names_order.specs.Index.{is_in_one, stands_before, IsApart}
use Rattle.names_order.proofs.KeyLists.{comes_before, begins_with_each}
use Rattle.names_order.proofs.BaseKeys.{inside_begins}
use Rattle.names_order.proofs.Members.{any_alike}
use Rattle.names_order.proofs.KeySearch.{upto_first_key, begins_with_none, last_key_decides}

-- forms

ordered_of : (a b : SubtreeBase) → is_ordered b ≡ true → begins_with (base_key a) (base_key b) ≡ true → is_ordered a ≡ true
ordered_of (dns_base a) b h k = refl
ordered_of (ip_base a) b h k = refl
ordered_of (directory_base a) (dns_base b) h k = absurd (false≢true k)
ordered_of (directory_base a) (ip_base b) h k = absurd (false≢true k)
ordered_of (directory_base a) (directory_base b) h k = absurd (false≢true h)
ordered_of (directory_base a) (other_base n b) h k = absurd (false≢true h)
ordered_of (other_base m a) (dns_base b) h k = absurd (false≢true k)
ordered_of (other_base m a) (ip_base b) h k = absurd (false≢true k)
ordered_of (other_base m a) (directory_base b) h k = absurd (false≢true h)
ordered_of (other_base m a) (other_base n b) h k = absurd (false≢true h)

pub ordered_held : (q b : SubtreeBase) → is_ordered q ≡ true → is_base_inside q b ≡ true → is_ordered b ≡ true
unfolding is_base_inside
ordered_held q (dns_base b) h k = refl
ordered_held q (ip_base b) h k = refl
ordered_held (dns_base q) (directory_base b) h k = absurd (false≢true k)
ordered_held (ip_base q) (directory_base b) h k = absurd (false≢true k)
ordered_held (directory_base q) (directory_base b) h k = absurd (false≢true h)
ordered_held (other_base m q) (directory_base b) h k = absurd (false≢true h)
ordered_held (dns_base q) (other_base n b) h k = absurd (false≢true k)
ordered_held (ip_base q) (other_base n b) h k = absurd (false≢true k)
ordered_held (directory_base q) (other_base n b) h k = absurd (false≢true h)
ordered_held (other_base m q) (other_base n b) h k = absurd (false≢true h)

-- what lies in a subtree that lies in another lies in that one
pub inside_each : (q s t : SubtreeBase) → is_ordered q ≡ true → is_base_inside q s ≡ true → is_base_inside s t ≡ true → is_base_inside q t ≡ true
inside_each q s t h a b =
    inside_begins q t h
    ∙ begins_with_each (base_key q) (base_key s) (base_key t) (sym (inside_begins q s h) ∙ a) (sym (inside_begins s t (ordered_held q s h a)) ∙ b)

pub subtrees_rank : IsStrictWeakOrder stands_before
subtrees_rank = ranks_by nat_list_cmp_total (λ (s : Subtree). base_key (subtree_base s))

-- a subtree by its key
abbrev key_of : Subtree → List ℕ
key_of s = base_key (subtree_base s)

-- the base does not stand before the subtree
abbrev pub is_upto : SubtreeBase → Subtree → Bool
is_upto q s = not (comes_before (base_key q) (key_of s))

pub upto_first : (q : Subtree) (tops : List Subtree) → IsSortedBy stands_before tops → IsPartitionedBy (is_upto (subtree_base q)) tops
upto_first q tops sorted = upto_first_key key_of (key_of q) tops sorted

module _ (q : SubtreeBase) (tops : List Subtree) (ordered : is_ordered q ≡ true) (sorted : IsSortedBy stands_before tops) (apart : IsApart tops) where
  -- what holds the base has an order, and so the next one does not lie in it by its key either
  keys_apart : (k : ℕ) (d : Subtree) → k + 1 < length tops → begins_with (base_key q) (key_of (get_or tops k d)) ≡ true → begins_with (key_of (get_or tops (k + 1) d)) (key_of (get_or tops k d)) ≡ false
  keys_apart k d within h =
      let s = subtree_base (get_or tops k d) in
      let t = subtree_base (get_or tops (k + 1) d) in
      let holds : is_ordered s ≡ true = ordered_held q s ordered (inside_begins q s ordered ∙ h) in
      false_from_ne_true (begins_with (base_key t) (base_key s))
      (λ begins. false≢true (sym (apart k d within) ∙ (inside_begins t s (ordered_of t s holds begins) ∙ begins)))

  in_one_by_keys : is_in_one tops q ≡ list_any (λ s. begins_with (base_key q) (key_of s)) tops
  in_one_by_keys = any_alike (λ s. is_base_inside q (subtree_base s)) (λ s. begins_with (base_key q) (key_of s)) (λ s. inside_begins q (subtree_base s) ordered) tops

  module _ (place : ℕ) (bound : place ≤ length tops) (point : IsPartitionPoint (λ s. is_upto q s ≡ true) (λ s. is_upto q s ≡ false) tops place) where
    pub none_at_all : place ≡ 0 → false ≡ is_in_one tops q
    none_at_all zero_is = begins_with_none key_of (base_key q) tops sorted keys_apart place bound point zero_is ∙ sym in_one_by_keys

    pub last_decides : (top : Subtree) → 0 < place → get_or tops (place - 1) top ≡ top → is_base_inside q (subtree_base top) ≡ is_in_one tops q
    last_decides top some is =
        inside_begins q (subtree_base top) ordered
        ∙ (last_key_decides key_of (base_key q) tops sorted keys_apart place bound point top some is ∙ sym in_one_by_keys)

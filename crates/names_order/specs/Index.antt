-- Lists of subtrees in which names are found by halving.
use Rattle.std.specs.Prelude.{◌≡◌, ◌<◌, ◌≤◌, ◌+◌, ℕ, List, [], ◌∷◌, ◌++◌, Bool, true, false, not, filter, length, Option, None, Some}
use Rattle.std.specs.Global.{Vec}
use Rattle.std.specs.List.{list_any, dedup, cons_option, AllByRecursion, slice_index_or}
use Rattle.std.specs.List.Sorted.{IsSortedBy}
use Rattle.std.specs.Ordering.{nat_cmp, is_lt}
use Rattle.std.specs.Cmp.Lexicographic.{slice_cmp}
use Rattle.names_distinguished.specs.NameKey.{rdns_key}
use Rattle.names.specs.declared.subtree.Subtree.{Subtree}
use Rattle.names.specs.GeneralView.{subtree_base}
use Rattle.names.specs.GeneralLayout.{GeneralName, SubtreeBase, directory_base, dns_base, ip_base, other_base}
use Rattle.names.specs.GeneralCoverage.{is_covered, is_base_inside}
use Rattle.names_order.specs.Order.{base_order, begins_with, is_ordered}

-- each test that a member of the one passes, a member of the other passes
abbrev pub HasSameMembers : List SubtreeBase → List SubtreeBase → Type 0
HasSameMembers one other = (test : SubtreeBase → Bool) → list_any test one ≡ list_any test other

-- the members of several lists
abbrev pub all_of : List (List SubtreeBase) → List SubtreeBase
all_of [] = []
all_of (list ∷ lists) = list ++ all_of lists

abbrev pub lies_in_one : List SubtreeBase → SubtreeBase → Bool
lies_in_one bases base = list_any (λ other. is_base_inside base other) bases

abbrev pub holds_name : List SubtreeBase → GeneralName → Bool
holds_name bases name = list_any (λ base. is_covered name base) bases

-- the same of subtrees
abbrev pub is_in_one : List Subtree → SubtreeBase → Bool
is_in_one list base = list_any (λ s. is_base_inside base (subtree_base s)) list

abbrev pub one_covers : List Subtree → GeneralName → Bool
one_covers list name = list_any (λ s. is_covered name (subtree_base s)) list

abbrev pub stands_before : Subtree → Subtree → Bool
stands_before s t = is_lt (base_order (subtree_base s) (subtree_base t))

abbrev pub lies_in : SubtreeBase → SubtreeBase → Bool
lies_in base other = is_base_inside base other

abbrev pub lies_within : GeneralName → SubtreeBase → Bool
lies_within name base = is_covered name base

abbrev pub lies_in_other : Subtree → Subtree → Bool
lies_in_other s t = is_base_inside (subtree_base s) (subtree_base t)

-- of subtrees in order, those that do not lie in the last one that is kept
abbrev pub outermost_subtrees : List Subtree → List Subtree
outermost_subtrees list = dedup lies_in_other list

-- those that have an order
abbrev pub ordered : List Subtree → List Subtree
ordered list = filter (λ s. is_ordered (subtree_base s)) list

-- those that have no order
abbrev pub unordered : List Subtree → List Subtree
unordered list = filter (λ s. not (is_ordered (subtree_base s))) list

-- none lies in the one before it
abbrev pub IsApart : List Subtree → Type 0
IsApart list = (k : ℕ) (d : Subtree) → k + 1 < length list
    → is_base_inside (subtree_base (slice_index_or list (k + 1) d)) (subtree_base (slice_index_or list k d)) ≡ false

-- the number of bits of a range
abbrev pub prefix_in : SubtreeBase → ℕ
prefix_in (ip_base range) = range.prefix
prefix_in (dns_base names) = 0
prefix_in (directory_base name) = 0
prefix_in (other_base number contents) = 0

abbrev pub HasNoLonger : ℕ → List Subtree → Type 0
HasNoLonger longest list = AllByRecursion (λ s. prefix_in (subtree_base s) ≤ longest) list

-- the key of a subtree of directory names
abbrev pub directory_key : SubtreeBase → Option (List ℕ)
directory_key (directory_base name) = Some (rdns_key name.rdns)
directory_key (dns_base names) = None
directory_key (ip_base range) = None
directory_key (other_base number contents) = None

abbrev pub directory_keys : List Subtree → List (List ℕ)
directory_keys [] = []
directory_keys (s ∷ list) = cons_option (directory_key (subtree_base s)) (directory_keys list)

abbrev pub key_octets : Vec ℕ → List ℕ
key_octets key = key.items

-- the octets begin with one of the keys
abbrev pub begins_with_one : List (Vec ℕ) → List ℕ → Bool
begins_with_one keys octets = list_any (λ key. begins_with octets (key_octets key)) keys

abbrev pub is_key_before : Vec ℕ → Vec ℕ → Bool
is_key_before one other = is_lt (slice_cmp nat_cmp (key_octets one) (key_octets other))

-- keys that ascend, of which none begins with the one before it
pub record AreSearchable (keys : List (Vec ℕ)) : Type 0 where
  pub sorted : IsSortedBy is_key_before keys
  pub apart : (k : ℕ) (d : Vec ℕ) → k + 1 < length keys → begins_with (key_octets (slice_index_or keys (k + 1) d)) (key_octets (slice_index_or keys k d)) ≡ false

-- some of the keys, with which the same octets begin as with all of them
pub record AreOutermost (all keys : List (Vec ℕ)) : Type 0 where
  pub searchable : AreSearchable keys
  pub same : (octets : List ℕ) → begins_with_one keys octets ≡ begins_with_one all octets

-- the keys by which it is decided whether directory names lie in one of the subtrees
pub record AreKeysOf (list : List Subtree) (keys : List (Vec ℕ)) : Type 0 where
  pub searchable : AreSearchable keys
  pub decide : (s : Subtree) (octets : List ℕ) → directory_key (subtree_base s) ≡ Some octets
      → begins_with_one keys octets ≡ is_in_one list (subtree_base s)

-- the octets of a directory name's key begin with one of the keys just if the name lies in one of the subtrees
abbrev pub KeysDecide : List (Vec ℕ) → List SubtreeBase → Type 0
KeysDecide keys bases = (s : Subtree) (octets : List ℕ) → directory_key (subtree_base s) ≡ Some octets
    → begins_with_one keys octets ≡ lies_in_one bases (subtree_base s)

-- what has no order lies in one of the list just if it lies in one of the subtrees
abbrev pub AreUnorderedOf : List Subtree → List SubtreeBase → Type 0
AreUnorderedOf list bases = (base : SubtreeBase) → is_ordered base ≡ false → is_in_one list base ≡ lies_in_one bases base

-- a few are gone over
abbrev pub AreKeysIfMany : List Subtree → List (Vec ℕ) → Type 0
AreKeysIfMany list keys = 12 < length list → AreKeysOf list keys

-- what is kept of a list: those that are searched for bases that have an order, and for others, and the keys of those
pub record IsIndexed (all tops rest : List Subtree) (keys : List (Vec ℕ)) (longest : ℕ) : Type 0 where
  pub sorted : IsSortedBy stands_before tops
  pub apart : IsApart tops
  pub in_tops : (base : SubtreeBase) → is_ordered base ≡ true → is_in_one tops base ≡ is_in_one all base
  pub in_rest : (base : SubtreeBase) → is_ordered base ≡ false → is_in_one rest base ≡ is_in_one all base
  pub in_keys : AreKeysIfMany rest keys
  pub no_longer : HasNoLonger longest all

-- a short list is gone over
abbrev pub IsIndexedIfLong : List Subtree → List Subtree → List Subtree → List (Vec ℕ) → ℕ → Type 0
IsIndexedIfLong all tops rest keys longest = 12 < length all → IsIndexed all tops rest keys longest

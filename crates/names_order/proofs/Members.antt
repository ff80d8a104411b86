-- Members of lists, sorted or selected, and tests that they pass.
use Rattle.std.proofs.Common.{◌≡◌, ◌<◌, ◌≤◌, ◌+◌, ℕ, zero, suc, get_or, take, append-nil, List, [], ◌∷◌, ◌++◌, length, Bool, true, false, not, ◌&&◌, ◌||◌, ◌==◌, cond, map, refl, ap, ap₂, sym, ◌∙◌, arith}
use Rattle.std.specs.List.{list_any}
use Rattle.std.specs.List.Sorted.{IsPermutation}
use Rattle.std.proofs.lemmas.Bool.{false≢true, le-leb}
use Rattle.std.proofs.lemmas.List.{map-append, append_assoc}
use Rattle.std.proofs.lemmas.List.Sorted.{list_any-IsPermutation, IsPermutation-map}
use Rattle.names.specs.declared.subtree.Subtree.{Subtree}
use Rattle.names.specs.GeneralView.{subtree_base}
use Rattle.names.specs.Ip.{agree}
use Rattle.names.specs.Bases.{DomainNames, every_name, names_within, names_below, AddressRange}
use Rattle.names.specs.GeneralLayout.{SubtreeBase, NameContents, directory_name, dns_name, ip_address, other_name, directory_base, dns_base, ip_base, other_base}
use Rattle.names.specs.GeneralCoverage.{is_covered, is_base_inside, is_domain_among, are_among, is_address_of, is_range_of}
use Rattle.names_order.specs.Order.{is_ordered}
use Rattle.names_order.specs.Index.{HasSameMembers, all_of, lies_in_one, holds_name, is_in_one, unordered, prefix_in, HasNoLonger}

pub any_mapped : {X Y : Type 0} (f : X → Y) (test : Y → Bool) (list : List X) → list_any test (map f list) ≡ list_any (λ x. test (f x)) list
any_mapped f test [] = refl
any_mapped f test (x ∷ list) = ap (λ b. test (f x) || b) (any_mapped f test list)

pub any_map : (test : SubtreeBase → Bool) (list : List Subtree) → list_any test (map subtree_base list) ≡ list_any (λ s. test (subtree_base s)) list
any_map test list = any_mapped subtree_base test list

pub any_alike : {X : Type 0} (p q : X → Bool) → ((x : X) → p x ≡ q x) → (list : List X) → list_any p list ≡ list_any q list
any_alike p q h [] = refl
any_alike p q h (x ∷ list) = ap (λ a. a || list_any p list) (h x) ∙ ap (λ a. q x || a) (any_alike p q h list)

-- sorted

pub permuted : (list all : List Subtree) → IsPermutation list all → HasSameMembers (map subtree_base all) (map subtree_base list)
permuted list all same test = sym (list_any-IsPermutation test (map subtree_base list) (map subtree_base all) (IsPermutation-map subtree_base list all same))

-- several lists

all_next : (lists : List (List SubtreeBase)) (i : ℕ) (list : List SubtreeBase) → i < length lists → list ≡ get_or lists i list → all_of (take (suc i) lists) ≡ all_of (take i lists) ++ list
all_next [] i list lt is = absurd (omega arith)
all_next (first ∷ lists) zero list lt is = append-nil first ∙ sym is
all_next (first ∷ lists) (suc i) list lt is =
    ap (λ (l : List SubtreeBase). first ++ l) (all_next lists i list (omega arith) is) ∙ sym (append_assoc first (all_of (take i lists)) list)

-- the first lists, and one more
pub all_upto : (lists : List (List SubtreeBase)) (i : ℕ) (list : List SubtreeBase) → i < length lists → list ≡ get_or lists i list → all_of (take i lists) ++ list ≡ all_of (take (i + 1) lists)
all_upto lists i list lt is =
    let next : suc i ≡ i + 1 = omega arith in
    sym (all_next lists i list lt is) ∙ ap (λ (n : ℕ). all_of (take n lists)) next

-- the subtrees of the first lists, and of one more
pub gathered : (lists : List (List SubtreeBase)) (i : ℕ) (list : List SubtreeBase) → i < length lists → list ≡ get_or lists i list
    → (all more new : List Subtree) → map subtree_base all ≡ all_of (take i lists) → map subtree_base more ≡ list → new ≡ all ++ more → map subtree_base new ≡ all_of (take (i + 1) lists)
gathered lists i list lt is all more new all_are more_are made =
    ap (map subtree_base) made ∙ (map-append subtree_base all more ∙ (ap₂ ◌++◌ all_are more_are ∙ all_upto lists i list lt is))

-- those that have no order

not_ordered : (base other : SubtreeBase) → is_ordered base ≡ false → is_ordered other ≡ true → is_base_inside base other ≡ false
unfolding is_base_inside
not_ordered (directory_base b) (dns_base o) h k = refl
not_ordered (directory_base b) (ip_base o) h k = refl
not_ordered (other_base n b) o h k = refl
not_ordered (dns_base b) o h k = absurd (false≢true (sym h))
not_ordered (ip_base b) o h k = absurd (false≢true (sym h))
not_ordered (directory_base b) (directory_base o) h k = absurd (false≢true k)
not_ordered (directory_base b) (other_base n o) h k = absurd (false≢true k)

one_kept : (has_order : Bool) (base : SubtreeBase) (s : Subtree) (list : List Subtree) → is_ordered base ≡ false → has_order ≡ is_ordered (subtree_base s) → is_in_one (unordered list) base ≡ is_in_one list base
    → is_in_one (cond (not has_order) (s ∷ unordered list) (unordered list)) base ≡ (is_base_inside base (subtree_base s) || is_in_one list base)
one_kept false base s list h e more = ap (λ b. is_base_inside base (subtree_base s) || b) more
one_kept true base s list h e more = more ∙ ap (λ b. b || is_in_one list base) (sym (not_ordered base (subtree_base s) h (sym e)))

pub unordered_hold : (base : SubtreeBase) (list : List Subtree) → is_ordered base ≡ false → is_in_one (unordered list) base ≡ is_in_one list base
unordered_hold base [] h = refl
unordered_hold base (s ∷ list) h = one_kept (is_ordered (subtree_base s)) base s list h refl (unordered_hold base list h)

-- a name lies where the subtree of just its names does

pub directory_is : (name : NameContents) (b : SubtreeBase) → is_base_inside (directory_base name) b ≡ is_covered (directory_name name) b
unfolding is_base_inside is_covered
directory_is name (directory_base b) = refl
directory_is name (dns_base b) = refl
directory_is name (ip_base b) = refl
directory_is name (other_base n b) = refl

among_is : (name : List ℕ) (names : DomainNames) → are_among (names_within name) names ≡ is_domain_among name names
unfolding are_among is_domain_among
among_is name every_name = refl
among_is name (names_within b) = refl
among_is name (names_below b) = refl

pub dns_is : (name : List ℕ) (b : SubtreeBase) → is_base_inside (dns_base (names_within name)) b ≡ is_covered (dns_name name) b
unfolding is_base_inside is_covered
dns_is name (dns_base b) = among_is name b
dns_is name (directory_base b) = refl
dns_is name (ip_base b) = refl
dns_is name (other_base n b) = refl

address_range_of : List ℕ → ℕ → AddressRange
address_range_of address prefix = record { address = address; prefix = prefix }

address_is : (address : List ℕ) (longest : ℕ) (range : AddressRange) → range.prefix ≤ longest → is_range_of (record { address = address; prefix = longest }) range ≡ is_address_of address range
unfolding is_range_of is_address_of
address_is address longest range le = ap (λ b. (length address == length range.address) && (b && agree range.prefix range.address address)) (le-leb range.prefix longest le)

ip_is : (address : List ℕ) (longest : ℕ) (b : SubtreeBase) → prefix_in b ≤ longest → is_base_inside (ip_base (record { address = address; prefix = longest })) b ≡ is_covered (ip_address address) b
unfolding is_base_inside is_covered
ip_is address longest (ip_base b) le = address_is address longest b le
ip_is address longest (directory_base b) le = refl
ip_is address longest (dns_base b) le = refl
ip_is address longest (other_base n b) le = refl

pub addresses_are : (address : List ℕ) (longest : ℕ) (list : List Subtree) → HasNoLonger longest list
    → lies_in_one (map subtree_base list) (ip_base (record { address = address; prefix = longest })) ≡ holds_name (map subtree_base list) (ip_address address)
addresses_are address longest [] h = refl
addresses_are address longest (s ∷ list) h =
    ap (λ b. b || lies_in_one (map subtree_base list) (ip_base (record { address = address; prefix = longest }))) (ip_is address longest (subtree_base s) h.0)
    ∙ ap (λ b. is_covered (ip_address address) (subtree_base s) || b) (addresses_are address longest list h.1)

other_is : (number : ℕ) (contents : List ℕ) (b : SubtreeBase) → is_covered (other_name number contents) b ≡ false
unfolding is_covered
other_is number contents b = refl

pub others_are : (number : ℕ) (contents : List ℕ) (list : List SubtreeBase) → false ≡ holds_name list (other_name number contents)
others_are number contents [] = refl
others_are number contents (b ∷ list) = others_are number contents list ∙ ap (λ a. a || holds_name list (other_name number contents)) (sym (other_is number contents b))

-- the longest prefix

pub no_longer_more : (m n : ℕ) (list : List Subtree) → m ≤ n → HasNoLonger m list → HasNoLonger n list
no_longer_more m n [] le h = tt
no_longer_more m n (s ∷ list) le h = (omega (arith, h.0), no_longer_more m n list le h.1)

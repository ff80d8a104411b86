-- Sets of octet strings kept by references: the first ones in a list, the others in a tree.
use Rattle.std.proofs.Common.{◌≡◌, ℕ, Bool, true, false, ◌||◌, List, [], ◌∷◌, ◌++◌, ◌+◌, ◌<◌, length, take, get_or, map, arith, Bor, Ordering, refl, sym, ap, ◌∙◌}
use Rattle.std.specs.List.{list_any}
use Rattle.std.specs.Str.{bytes_eq}
use Rattle.std.specs.Ordering.{nat_cmp, eq_by_cmp, match_ordering}
use Rattle.std.specs.declared.cmp.Ordering.TheVariants.{Less, Equal, Greater}
use Rattle.std.specs.Cmp.{Equal-is}
use Rattle.std.specs.Cmp.Lexicographic.{slice_cmp, texts_ties}
use Rattle.std.specs.BTreeSet.{insert_key}
use Rattle.std.specs.FinSet.{contains, insert, contains_tied, contains-insert, contains-from_list, same_set}
use Rattle.std.specs.FinMap.{nat_cmp-IsAntisymmetric, slice_cmp-IsAntisymmetric}
use Rattle.std.proofs.lemmas.Cmp.{nat_list_cmp_total}
use Rattle.std.proofs.lemmas.List.Folds.{list_any-append, list_any_more, list_any_at}
use Rattle.cert.specs.OidSet.{Oids, oids_from}

abbrev by_octets : Bor (List ℕ) → Bor (List ℕ) → Ordering
by_octets x y = slice_cmp nat_cmp x.now y.now

abbrev has_octets : List ℕ → Bor (List ℕ) → Bool
has_octets octets x = eq_by_cmp (slice_cmp nat_cmp) octets x.now

or_same : (a b : Bool) → (a || b) ≡ (a || (a || b))
or_same true b = refl
or_same false b = refl

or_swap : (a b c : Bool) → (a || (b || c)) ≡ (b || (a || c))
or_swap true true c = refl
or_swap true false c = refl
or_swap false b c = refl

or_last : (a b c : Bool) → ((a || (b || false)) || c) ≡ (b || (a || c))
or_last true true c = refl
or_last true false c = refl
or_last false true c = refl
or_last false false c = refl

any_inserted : (octets : List ℕ) (keys : List (Bor (List ℕ))) (key : Bor (List ℕ)) → list_any (has_octets octets) (insert_key by_octets keys key) ≡ (has_octets octets key || list_any (has_octets octets) keys)
any_inserted octets [] key = refl
any_inserted octets (x ∷ keys) key = by (any_inserted octets keys key) (by_octets key x) refl where
  by : list_any (has_octets octets) (insert_key by_octets keys key) ≡ (has_octets octets key || list_any (has_octets octets) keys) → (o : Ordering) → by_octets key x ≡ o → list_any (has_octets octets) (match_ordering o (key ∷ x ∷ keys) (x ∷ keys) (x ∷ insert_key by_octets keys key)) ≡ (has_octets octets key || (has_octets octets x || list_any (has_octets octets) keys))
  by behind Less is = refl
  by behind Equal is =
      let same : key.now ≡ x.now = slice_cmp-IsAntisymmetric nat_cmp-IsAntisymmetric key.now x.now is in
      rw same (or_same (has_octets octets x) (list_any (has_octets octets) keys))
  by behind Greater is =
      ap (λ b. has_octets octets x || b) behind
      ∙ or_swap (has_octets octets x) (has_octets octets key) (list_any (has_octets octets) keys)

any_mapped : (octets : List ℕ) (keys : List (Bor (List ℕ))) → list_any (eq_by_cmp (slice_cmp nat_cmp) octets) (map (λ key. key.now) keys) ≡ list_any (has_octets octets) keys
any_mapped octets [] = refl
any_mapped octets (x ∷ keys) = ap (λ b. has_octets octets x || b) (any_mapped octets keys)

in_list : (octets : List ℕ) (oids : List (Bor (List ℕ))) → contains (oids_from oids) octets ≡ list_any (has_octets octets) oids
in_list octets oids = contains-from_list nat_list_cmp_total (map (λ oid. oid.now) oids) octets ∙ any_mapped octets oids

-- the search through a list
pub is_in_list : (octets : List ℕ) (oids : List (Bor (List ℕ))) (i : ℕ) (d : Bor (List ℕ)) → i < length oids → bytes_eq octets (get_or oids i d).now ≡ true → contains (oids_from oids) octets ≡ true
is_in_list octets oids i d lt same = in_list octets oids ∙ list_any_at (has_octets octets) oids i d lt (sym (texts_ties octets (get_or oids i d).now) ∙ same)

pub is_in_no_more : (octets : List ℕ) (oids : List (Bor (List ℕ))) (i : ℕ) (d : Bor (List ℕ)) → i < length oids → contains (oids_from (take i oids)) octets ≡ false → bytes_eq octets (get_or oids i d).now ≡ false
    → contains (oids_from (take (i + 1) oids)) octets ≡ false
is_in_no_more octets oids i d lt none differ =
    in_list octets (take (i + 1) oids)
    ∙ list_any_more (has_octets octets) oids i d lt
    ∙ (λ k. (sym (in_list octets (take i oids)) ∙ none) k || (sym (texts_ties octets (get_or oids i d).now) ∙ differ) k)

-- what is in the set is in the list or in the tree
in_either : (octets : List ℕ) (few keys : List (Bor (List ℕ))) → contains (oids_from (few ++ keys)) octets ≡ (list_any (has_octets octets) few || list_any (has_octets octets) keys)
in_either octets few keys = in_list octets (few ++ keys) ∙ list_any-append (has_octets octets) few keys

-- what the search through the list says of the whole set
pub is_found : (octets : List ℕ) (few slice keys : List (Bor (List ℕ))) → slice ≡ few → true ≡ contains (oids_from slice) octets → contains (oids_from (few ++ keys)) octets ≡ true
is_found octets few slice keys same is =
    in_either octets few keys ∙ ap (λ b. b || list_any (has_octets octets) keys) (sym (is ∙ ap (λ oids. contains (oids_from oids) octets) same ∙ in_list octets few))

pub is_not_found : (octets : List ℕ) (few slice keys : List (Bor (List ℕ))) → slice ≡ few → false ≡ contains (oids_from slice) octets → contains (oids_from (few ++ keys)) octets ≡ list_any (has_octets octets) keys
is_not_found octets few slice keys same is =
    in_either octets few keys ∙ ap (λ b. b || list_any (has_octets octets) keys) (sym (is ∙ ap (λ oids. contains (oids_from oids) octets) same ∙ in_list octets few))

-- where the tree is empty
pub is_new : (octets : List ℕ) (few slice keys : List (Bor (List ℕ))) → slice ≡ few → false ≡ contains (oids_from slice) octets → length keys ≡ 0 → contains (oids_from (few ++ keys)) octets ≡ false
is_new octets few slice [] same is none = is_not_found octets few slice [] same is
is_new octets few slice (x ∷ keys) same is none = absurd (omega arith)

-- one more: it was there, it goes into the tree, it goes behind the list
pub with_known : (types : Oids) (octets : List ℕ) → contains types octets ≡ true → types ≡ insert types octets
with_known types octets is =
    same_set nat_list_cmp_total (slice_cmp-IsAntisymmetric nat_cmp-IsAntisymmetric) _ _
    (λ other. sym (contains-insert nat_list_cmp_total types octets other ∙ by other (eq_by_cmp (slice_cmp nat_cmp) other octets) refl))
  where
    by : (other : List ℕ) (b : Bool) → eq_by_cmp (slice_cmp nat_cmp) other octets ≡ b → (b || contains types other) ≡ contains types other
    by other true same = sym is ∙ contains_tied nat_list_cmp_total types other octets ((Equal-is (slice_cmp nat_cmp other octets)).0 same)
    by other false same = refl

pub with_inserted : (few keys : List (Bor (List ℕ))) (key : Bor (List ℕ)) → oids_from (few ++ insert_key by_octets keys key) ≡ insert (oids_from (few ++ keys)) key.now
with_inserted few keys key =
    same_set nat_list_cmp_total (slice_cmp-IsAntisymmetric nat_cmp-IsAntisymmetric) _ _
    (λ octets. in_either octets few (insert_key by_octets keys key)
    ∙ ap (λ b. list_any (has_octets octets) few || b) (any_inserted octets keys key)
    ∙ or_swap (list_any (has_octets octets) few) (has_octets octets key) (list_any (has_octets octets) keys)
    ∙ sym (contains-insert nat_list_cmp_total (oids_from (few ++ keys)) key.now octets ∙ ap (λ b. has_octets octets key || b) (in_either octets few keys)))

pub with_pushed : (few keys : List (Bor (List ℕ))) (key : Bor (List ℕ)) → oids_from ((few ++ key ∷ []) ++ keys) ≡ insert (oids_from (few ++ keys)) key.now
with_pushed few keys key =
    same_set nat_list_cmp_total (slice_cmp-IsAntisymmetric nat_cmp-IsAntisymmetric) _ _
    (λ octets. in_either octets (few ++ key ∷ []) keys
    ∙ ap (λ b. b || list_any (has_octets octets) keys) (list_any-append (has_octets octets) few (key ∷ []))
    ∙ or_last (list_any (has_octets octets) few) (has_octets octets key) (list_any (has_octets octets) keys)
    ∙ sym (contains-insert nat_list_cmp_total (oids_from (few ++ keys)) key.now octets ∙ ap (λ b. has_octets octets key || b) (in_either octets few keys)))

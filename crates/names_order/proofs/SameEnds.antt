-- Texts that end in the same octets are compared by what stands before these.
use Rattle.std.proofs.Common.{◌≡◌, ℕ, List, [], ◌∷◌, ◌++◌, refl, ap, sym, ◌∙◌, take, drop, reverse}
use Rattle.std.specs.Ordering.{ordering_then}
use Rattle.std.specs.Cmp.Lexicographic.{slice_cmp}
use Rattle.std.proofs.lemmas.List.{reverse-append, take-append-drop}
use Rattle.names_order.specs.Order.{octet_order, octet_rank}
use Rattle.names_order.proofs.KeyLists.{cmp_same}

same_front : (c xs ys : List ℕ) → slice_cmp octet_order (c ++ xs) (c ++ ys) ≡ slice_cmp octet_order xs ys
same_front [] xs ys = refl
same_front (x ∷ c) xs ys = ap (λ o. ordering_then o (slice_cmp octet_order (c ++ xs) (c ++ ys))) (cmp_same (octet_rank x)) ∙ same_front c xs ys

same_end : (xs ys c : List ℕ) → slice_cmp octet_order (reverse (xs ++ c)) (reverse (ys ++ c)) ≡ slice_cmp octet_order (reverse xs) (reverse ys)
same_end xs ys c = rw (reverse-append xs c, reverse-append ys c) (same_front (reverse c) (reverse xs) (reverse ys))

-- the last octets of both, from these places on, are the same
pub before_same_end : (i j : ℕ) (xs ys : List ℕ) → drop i xs ≡ drop j ys
    → slice_cmp octet_order (reverse xs) (reverse ys) ≡ slice_cmp octet_order (reverse (take i xs)) (reverse (take j ys))
before_same_end i j xs ys same =
    ap (λ l. slice_cmp octet_order (reverse l) (reverse ys)) (sym (take-append-drop i xs))
    ∙ (ap (λ l. slice_cmp octet_order (reverse (take i xs ++ drop i xs)) (reverse l)) (sym (take-append-drop j ys) ∙ ap (λ e. take j ys ++ e) (sym same))
    ∙ same_end (take i xs) (take j ys) (drop i xs))

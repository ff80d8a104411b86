-- Pieces of printed lines.
use Rattle.std.proofs.Common.{◌≡◌, ℕ, ◌+◌, ◌*◌, ◌/◌, ◌%◌, ◌≤◌, List, [], ◌∷◌, ◌++◌, refl, sym, ap, ◌∙◌, slice_index, take, drop, replicate, append_assoc, arith}
use Rattle.std.proofs.lemmas.List.{replicate-append-replicate, take-replicate, take-append-drop}
use Rattle.hex.specs.Hex.{encode_with, encode_lower}
use Rattle.std.specs.Fmt.{decimal}
use Rattle.cli_printing.specs.Printed.{indent, line}

pub encode_with-append : (t xs ys : List ℕ) → encode_with t (xs ++ ys) ≡ encode_with t xs ++ encode_with t ys
unfolding encode_with
encode_with-append t [] ys = refl
encode_with-append t (x ∷ xs) ys = ap (λ l. slice_index t (x / 16) ∷ slice_index t (x % 16) ∷ l) (encode_with-append t xs ys)

pub nothing_encoded : (t : List ℕ) → encode_with t [] ≡ []
unfolding encode_with
nothing_encoded t = refl

abbrev space : ℕ
space = 32

-- sixty-four spaces more
pub spaces_more : (n : ℕ) → replicate (64 * (n + 1)) space ≡ replicate (64 * n) space ++ replicate 64 space
spaces_more n =
    let e : 64 * (n + 1) ≡ 64 * n + 64 = omega arith in
    ap (λ (k : ℕ). replicate k space) e ∙ sym (replicate-append-replicate (64 * n) 64 space)

-- the spaces of n levels: whole turns, and what is left
pub spaces_all : (level turns : ℕ) → turns ≡ level / 32 → indent level ≡ replicate (64 * turns) space ++ take (2 * (level % 32)) (replicate 64 space)
spaces_all level turns whole =
    let e : 2 * level ≡ 64 * turns + 2 * (level % 32) = omega arith in
    let few : 2 * (level % 32) ≤ 64 = omega arith in
    ap (λ (k : ℕ). replicate k space) e ∙ sym (replicate-append-replicate (64 * turns) (2 * (level % 32)) space)
    ∙ ap (λ (xs : List ℕ). replicate (64 * turns) 32 ++ xs) (sym (take-replicate (2 * (level % 32)) 64 space few))

-- a chunk more of the octets is behind
pub chunk_more : (octets front rest chunk others : List ℕ) (n : ℕ) → octets ≡ front ++ rest → chunk ≡ take n rest → others ≡ drop n rest → octets ≡ (front ++ chunk) ++ others
chunk_more octets front rest chunk others n whole first second =
    whole ∙ ap (λ (xs : List ℕ). front ++ xs) (sym (take-append-drop n rest)) ∙ rw (first, second) (sym (append_assoc front (take n rest) (drop n rest)))

-- a line, piece by piece
pub line_pieces : (level identifier size : ℕ) (shown : List ℕ) → line level identifier size shown ≡ indent level ++ (encode_lower (identifier ∷ []) ++ ((32 ∷ decimal size) ++ (shown ++ (10 ∷ []))))
line_pieces level identifier size shown = simp append_assoc

-- Words behind others.
use Rattle.std.proofs.Common.{◌≡◌, ◌≤◌, ◌∙◌, ◌+◌, ◌-◌, ◌∷◌, Bor, ℕ, List, [], length, map, take, take_all, drop, get_or, ap, arith, refl, sym}
use Rattle.std.proofs.lemmas.List.{take_rest}
use lib.Seq.{drop-drop}
use Rattle.cli_words.specs.RunOptions.{EndsWith}

pub behind_first : {A : Type 0} (words : List A) → EndsWith words (take (length words - 1) (drop 1 words))
behind_first words = (1, take_rest words 1)

pub behind_both : {A : Type 0} (words middle left : List A) → EndsWith words middle → EndsWith middle left → EndsWith words left
behind_both words middle left (n, is) (m, also) = (n + m, also ∙ ap (drop m) is ∙ drop-drop m n words)

pub behind_nothing : {A : Type 0} (words : List A) → EndsWith words words
behind_nothing words = (0, refl)

-- words of which there is one are the first and those behind it
pub first_of : (words : List (Bor (List ℕ))) (d : Bor (List ℕ)) → 1 ≤ length words
    → map (λ w. w.now) words ≡ (get_or words 0 d).now ∷ map (λ w. w.now) (take (length words - 1) (drop 1 words))
first_of [] d some = absurd (omega (arith, some))
first_of (word ∷ words) d some =
    let all : take (length (word ∷ words) - 1) words ≡ words = take_all (length (word ∷ words) - 1) words (omega arith) in
    ap (λ (rest : List (Bor (List ℕ))). word.now ∷ map (λ w. w.now) rest) (sym all)

-- The words of a run, and its command.
use Rattle.std.proofs.Common.{◌≡◌, ◌∙◌, ap, subst, suc, ℕ, List, [], ◌∷◌, ◌++◌, length, map, min, take, drop, arith}
use Rattle.clap.specs.Words.{Text}
use Rattle.cli_words.specs.RunOptions.{TakesOptions}
use Rattle.cli_words.specs.declared.leading.RunOptions.{RunOptions}
use Rattle.cli.specs.OnMachine.{IsCommandOf}

one : (n : ℕ) → min (suc n) 1 ≡ 1
one n = omega arith

first_word : {A : Type 0} (word : A) (words name : List A) → name ≡ take (min (length (word ∷ words)) 1) (word ∷ words) → name ≡ word ∷ []
first_word word words name is = subst (λ (n : ℕ). name ≡ take n (word ∷ words)) (one (length words)) is

other_words : {A : Type 0} (word : A) (words behind : List A) → behind ≡ drop (min (length (word ∷ words)) 1) (word ∷ words) → behind ≡ words
other_words word words behind is = subst (λ (n : ℕ). behind ≡ drop n (word ∷ words)) (one (length words)) is

pub command_is : {A : Type 0} (text_of : A → Text) (words name behind left command : List A) (options : RunOptions)
    → name ≡ take (min (length words) 1) words → behind ≡ drop (min (length words) 1) words
    → TakesOptions (map text_of behind) options (map text_of left) → command ≡ name ++ left → IsCommandOf (map text_of words) options (map text_of command)
command_is text_of [] name behind left command options named rest taken is =
    (map text_of left, subst (λ (l : List _). TakesOptions (map text_of l) options (map text_of left)) rest taken, ap (map text_of) (is ∙ ap (λ (l : List _). l ++ left) named))
command_is text_of (word ∷ words) name behind left command options named rest taken is = (
  map text_of left,
  subst (λ (l : List _). TakesOptions (map text_of l) options (map text_of left)) (other_words word words behind rest) taken,
  ap (map text_of) (is ∙ ap (λ (l : List _). l ++ left) (first_word word words name named)),
)

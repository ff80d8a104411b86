-- The tests of strings say what their definitions say.
use Rattle.std.proofs.Common.{◌≡◌, ℕ, suc, Bool, true, false, List, [], ◌∷◌, length, get_or, refl, sym, arith, inl, inr}
use Rattle.std.specs.Bool.{MatchBool}
use Rattle.std.specs.Str.{IsUtf8, is_utf8, IsAscii, IsNotAscii}
use Rattle.std.specs.Char.{is_ascii}
use Rattle.std.specs.List.{list_all}
use Rattle.std.proofs.lemmas.Str.{IsUtf8-from_is_utf8}
use Rattle.std.proofs.lemmas.Bool.{lt-ltb, ltb-true, le-ltb, cases_lt, and_parts}
use Rattle.std.proofs.lemmas.Str.Ascii.{IsAscii-cons}
use Rattle.std.proofs.lemmas.List.{get_or_past}
use Rattle.std.proofs.lemmas.List.Folds.{list_all_at}

not_true : (b : Bool) → (b ≡ true → ⊥) → b ≡ false
not_true true never = absurd (never refl)
not_true false never = refl

pub no_utf8 : (xs : List ℕ) → (IsUtf8 xs → ⊥) → is_utf8 xs ≡ false
no_utf8 xs never = not_true (is_utf8 xs) (λ e. never (IsUtf8-from_is_utf8 xs e))

pub all_ascii : (xs : List ℕ) → IsAscii xs → list_all is_ascii xs ≡ true
all_ascii [] is = refl
all_ascii (x ∷ xs) is = rw (lt-ltb x 128 (is 0)) (all_ascii xs (λ i. is (suc i)))

pub ascii_all : (xs : List ℕ) → list_all is_ascii xs ≡ true → IsAscii xs
ascii_all [] e = λ i. omega arith
ascii_all (x ∷ xs) e = let both = and_parts (is_ascii x) (list_all is_ascii xs) e in IsAscii-cons x xs (ltb-true x 128 both.0) (ascii_all xs both.1)

not_all : (xs : List ℕ) → IsNotAscii xs → list_all is_ascii xs ≡ false
not_all xs (i, high) =
    elim (cases_lt i (length xs)) [
      | inl lt ↦ list_all_at is_ascii xs i 0 lt (le-ltb (get_or xs i 0) 128 high)
      | inr ge ↦ absurd (let past = get_or_past xs i 0 ge in omega arith)
    ]

pub ascii_is : (xs : List ℕ) (b : Bool) → MatchBool b (IsAscii xs) (IsNotAscii xs) → b ≡ list_all is_ascii xs
ascii_is xs true is = sym (all_ascii xs is)
ascii_is xs false is = sym (not_all xs is)

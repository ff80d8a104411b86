-- Lines of files of verdicts.
use Rattle.std.proofs.Common.{◌≡◌, ◌<◌, ◌≤◌, ◌+◌, ◌-◌, ◌∙◌, ℕ, Bool, true, false, List, [], ◌∷◌, ◌++◌, Option, Some, None, Result, Err, length, take, drop, map, get_or, sym, ap, subst, inl, inr, refl, arith, if◌then◌else◌, ◌==◌, ◌/◌, ◌%◌}
use Rattle.std.specs.List.{filter}
use Rattle.std.specs.Result.{result_ok}
use Rattle.std.proofs.lemmas.Bool.Decides.{nat_tests}
use Rattle.std.proofs.lemmas.List.{append-nil, get_or_default, length-take, map-append}
use Rattle.std.proofs.lemmas.List.Elements.{filter-append}
use Rattle.std.proofs.lemmas.Bool.{cases_lt}
use Rattle.hex.specs.Hex.{decode_pairs}
use Rattle.hex.specs.declared.error.FromHexError.{FromHexError}
use Rattle.hex.specs.declared.error.FromHexError.TheVariants.{OddLength, InvalidStringLength}
use Rattle.cli_operands.specs.VerdictLines.{IsBad, IsFirstBadLine, NamePrints, is_remark, is_written, line_at, text_lines, print_on_line}

-- a line of less than 64 octets names nothing
size_differs : (n : ℕ) → n < 64 → (n / 2 == 32) ≡ false
size_differs n short = grind (arith, nat_tests)

refused : (remark odd : Bool) (decoded : Result (List ℕ) FromHexError) → (if remark then result_ok (if odd then Err OddLength else (if false then decoded else Err InvalidStringLength)) else None) ≡ None
refused true true decoded = refl
refused true false decoded = refl
refused false odd decoded = refl

pub too_short : (line : List ℕ) → length line < 64 → print_on_line line ≡ None
too_short line short =
    let size : length (take 64 line) < 64 = grind (arith, length-take 64 line) in
    rw (size_differs (length (take 64 line)) size) (refused (is_remark (drop 64 line)) (length (take 64 line) % 2 == 1) (decode_pairs 0 (take 64 line)))

-- one line more, on which nothing is written, or a fingerprint
pub name_nothing : (lines prints : List (List ℕ)) (line : List ℕ) → length line ≡ 0 → NamePrints lines prints → NamePrints (lines ++ line ∷ []) prints
name_nothing lines prints line nothing named =
    let none : filter is_written (line ∷ []) ≡ [] = rw nothing refl in
    ap (map print_on_line) (filter-append is_written lines (line ∷ []))
    ∙ ap (λ (xs : List (List ℕ)). map print_on_line (filter is_written lines ++ xs)) none
    ∙ ap (map print_on_line) (append-nil (filter is_written lines)) ∙ named

is_there : (line : List ℕ) → 0 < length line → is_written line ≡ true
is_there line some = grind (arith, nat_tests)

written_one : (line : List ℕ) → 0 < length line → filter is_written (line ∷ []) ≡ line ∷ []
written_one line some = rw (is_there line some) refl

pub name_one : (lines prints : List (List ℕ)) (line print : List ℕ) → 0 < length line → print_on_line line ≡ Some print → NamePrints lines prints → NamePrints (lines ++ line ∷ []) (prints ++ print ∷ [])
name_one lines prints line print some is named =
    ap (map print_on_line) (filter-append is_written lines (line ∷ []))
    ∙ ap (λ (xs : List (List ℕ)). map print_on_line (filter is_written lines ++ xs)) (written_one line some)
    ∙ map-append print_on_line (filter is_written lines) (line ∷ [])
    ∙ ap (λ (xs : List (Option (List ℕ))). xs ++ print_on_line line ∷ []) named
    ∙ ap (λ (x : Option (List ℕ)). map Some prints ++ x ∷ []) is
    ∙ sym (map-append Some prints (print ∷ []))

-- the line at the next number
pub at_next : (octets line : List ℕ) (number k : ℕ) → number ≡ k → (k < length (text_lines octets)) × (line ≡ get_or (text_lines octets) k line) → line_at octets (number + 1) ≡ line
at_next octets line number k is at =
    let same : number + 1 - 1 ≡ k = omega (arith, is) in
    ap (λ (n : ℕ). get_or (text_lines octets) n []) same ∙ get_or_default (text_lines octets) k [] line at.0 ∙ sym at.1

-- no line so far was bad, nor is this one
pub good_more : (octets line : List ℕ) (number : ℕ) → line_at octets (number + 1) ≡ line → (IsBad line → ⊥)
    → ((earlier : ℕ) → 1 ≤ earlier → earlier ≤ number → IsBad (line_at octets earlier) → ⊥)
    → (earlier : ℕ) → 1 ≤ earlier → earlier ≤ number + 1 → IsBad (line_at octets earlier) → ⊥
good_more octets line number here good before earlier counted most bad =
    elim (cases_lt number earlier) [
      | inl last ↦
          let is : earlier ≡ number + 1 = omega (arith, last, most) in
          good (subst IsBad (ap (line_at octets) is ∙ here) bad)
      | inr first ↦ before earlier counted first bad
    ]

-- the first bad line
pub first_bad : (octets line : List ℕ) (number : ℕ) → line_at octets (number + 1) ≡ line → IsBad line
    → ((earlier : ℕ) → 1 ≤ earlier → earlier ≤ number → IsBad (line_at octets earlier) → ⊥) → IsFirstBadLine octets (number + 1)
first_bad octets line number here bad before =
    record {
      counted = omega arith;
      bad = subst IsBad (sym here) bad;
      first = λ earlier counted less. before earlier counted (omega (arith, less));
    }

-- a line that is not bad
pub nothing_is_good : (line : List ℕ) → length line ≡ 0 → IsBad line → ⊥
nothing_is_good [] nothing bad = bad.0 refl
nothing_is_good (octet ∷ octets) nothing bad = absurd (omega (arith, nothing))

pub print_is_good : (line print : List ℕ) → print_on_line line ≡ Some print → IsBad line → ⊥
print_is_good line print is bad = let both = sym is ∙ bad.1 in cc

pub is_bad : (line : List ℕ) → 0 < length line → print_on_line line ≡ None → IsBad line
is_bad line some none = (λ empty. omega (arith, some, ap length empty), none)

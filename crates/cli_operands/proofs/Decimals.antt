-- Numbers in decimal, as they are printed and as they are parsed.
use Rattle.std.proofs.Common.{◌≡◌, ◌<◌, ◌^◌, ◌∙◌, ℕ, zero, suc, List, [], ◌∷◌, Result, Ok, Err, length, map, decimal, sym, ap, refl, arith, slice_index}
use Rattle.std.specs.List.{All}
use Rattle.std.specs.Str.Parse.{AllDigits, ParsesUnsigned, digits_value}
use Rattle.std.proofs.lemmas.Str.Parse.{IsNumeralModel, numerals_by_value, parse_plain, tells_digits, digit_at}
use Rattle.std.proofs.lemmas.Fmt.{decimal-digits_value, decimal_digit, decimal_injective, decimal_nonempty, digits_decimal, first_decimal, parse-decimal}
use Rattle.cli_operands.specs.Purpose.{IsPlain, IsServedArc}

own : IsNumeralModel (AllDigits 10) (digits_value 10)
own = numerals_by_value (AllDigits 10) tells_digits

-- what is parsed of a plain text is the number that the text is
pub parsed_is : {E : Type 0} (text : List ℕ) (r : Result ℕ E) (arc : ℕ) → IsPlain text → ParsesUnsigned 64 10 text r → r ≡ Ok arc → text ≡ decimal arc
parsed_is text (Err e) arc plain parses is = cc
parsed_is {E} text (Ok found) arc plain parses is =
    let read = parse_plain own {E = E} 64 text (Ok found) parses plain.unsigned in
    let same : decimal (digits_value 10 text) ≡ text = decimal-digits_value own text read.0.0 plain.some plain.short read.0.2 in
    let value : arc ≡ digits_value 10 text = cc in
    sym (ap decimal value ∙ same)

-- a number's decimal is parsed to it
pub parsed_again : {E : Type 0} (text : List ℕ) (r : Result ℕ E) (arc : ℕ) → ParsesUnsigned 64 10 text r → IsServedArc arc → text ≡ decimal arc → r ≡ Ok arc
parsed_again text r arc parses served is = parse-decimal 64 arc text r (omega (arith, served)) (omega (arith, served)) is parses

-- and it stands plainly
zero_is : (arc : ℕ) → arc ≡ 0 → length (decimal arc) ≡ 1
zero_is arc is = ap (λ (n : ℕ). length (decimal n)) is ∙ ap length (decimal_digit 0 (omega arith))

zero_first : (arc : ℕ) → arc < 2 ^ 64 → slice_index (decimal arc) 0 ≡ 48 → length (decimal arc) ≡ 1
zero_first zero fits e = zero_is 0 refl
zero_first (suc n) fits e = absurd (omega (arith, first_decimal (suc n) (omega arith) fits, e))

pub decimal_is_plain : (arc : ℕ) → IsServedArc arc → IsPlain (decimal arc)
decimal_is_plain arc served =
    let fits : arc < 2 ^ 64 = omega (arith, served) in
    let some : 0 < length (decimal arc) = decimal_nonempty arc fits in
    let digit = digit_at (decimal arc) 0 (digits_decimal own arc fits) some in
    record {
      some = some;
      unsigned = λ e. omega (arith, e, digit);
      short = zero_first arc fits;
    }

-- numbers that have the same decimals are the same
pub same_decimals : (arcs others : List ℕ) → All IsServedArc arcs → All IsServedArc others → map decimal arcs ≡ map decimal others → arcs ≡ others
same_decimals [] [] served fits is = refl
same_decimals [] (other ∷ others) served fits is = cc
same_decimals (arc ∷ arcs) [] served fits is = cc
same_decimals (arc ∷ arcs) (other ∷ others) served fits is =
    let first : decimal arc ≡ decimal other = cc in
    let rest : map decimal arcs ≡ map decimal others = cc in
    let small : arc < 2 ^ 63 = served 0 0 (omega arith) in
    let fit : other < 2 ^ 63 = fits 0 0 (omega arith) in
    let one : arc ≡ other = decimal_injective arc other (omega (arith, small)) (omega (arith, fit)) first in
    let all : arcs ≡ others = same_decimals arcs others (λ k d less. served (suc k) d (omega (arith, less))) (λ k d less. fits (suc k) d (omega (arith, less))) rest in
    cc

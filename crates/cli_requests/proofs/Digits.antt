-- Digits that are octets.
use Rattle.std.proofs.Common.{◌≡◌, ◌≢◌, ◌%◌, ◌==◌, ◌∙◌, ℕ, Bool, true, false, List, Result, Ok, Err, is_some, length, option_map, refl, sym, arith}
use Rattle.std.specs.List.{list_all}
use Rattle.std.specs.Result.{result_ok}
use Rattle.std.proofs.lemmas.Bool.Decides.{nat_tests}
use Rattle.std.proofs.lemmas.List.Sums.{AllPass-from_list_all, list_all-from_AllPass}
use Rattle.hex.specs.Hex.{decode_of, is_hex_digit}
use Rattle.hex.specs.declared.error.FromHexError.{FromHexError}
use Rattle.hex.proofs.HexLemmas.{decode_of-digits, decode_of-odd, decode_of-ok}
use Rattle.cli_requests.specs.Operands.{in_line, operand_of_digits}

not_even : (digits : List ℕ) → length digits % 2 ≢ 0 → (length digits % 2 == 0) ≡ false
not_even digits is = grind (arith, nat_tests, is)

refused : (digits : List ℕ) → length digits % 2 ≡ 1 → is_some (operand_of_digits digits) ≡ false
refused digits is = rw (decode_of-odd digits is) refl

pub odd : (digits : List ℕ) → length digits % 2 ≢ 0 → (length digits % 2 == 0) ≡ is_some (operand_of_digits digits)
odd digits is = not_even digits is ∙ sym (refused digits (omega (arith, is)))

other : (digits : List ℕ) (decoded : Result (List ℕ) FromHexError) → decode_of digits ≡ decoded → list_all is_hex_digit digits ≡ false
    → is_some (option_map in_line (result_ok decoded)) ≡ false
other digits (Ok octets) is fails = cc (sym fails ∙ list_all-from_AllPass is_hex_digit digits (decode_of-ok digits octets is).1)
other digits (Err fault) is fails = refl

pub even : (digits : List ℕ) (test : Bool) → length digits % 2 ≡ 0 → list_all is_hex_digit digits ≡ test → is_some (operand_of_digits digits) ≡ test
even digits true is all = let (octets, read) = decode_of-digits digits is (AllPass-from_list_all is_hex_digit digits all) in rw read refl
even digits false is all = other digits (decode_of digits) refl all

-- The operands of a request, as they are written in its line.
use Rattle.std.specs.Prelude.{◌&&◌, ◌==◌, ℕ, nat_lt, nat_le, Bool, not, List, [], ◌∷◌, Option, Some, None, codes, take, drop, option_and_then, option_map, string_bytes, if◌then◌else◌}
use Rattle.std.specs.Str.{bytes_eq, is_utf8}
use Rattle.std.specs.Result.{result_ok}
use Rattle.hex.specs.Hex.{decode_of, pair_value}
use Rattle.cli_requests.specs.declared.operand.Operand.{Operand as Owned}
use Rattle.cli_requests.specs.declared.operand.Operand.TheVariants.{File, Octets}

-- an operand: the name of a file, or octets that stand in the line
pub data Operand : Type 0 where
  in_file : List ℕ → Operand
  in_line : List ℕ → Operand

-- ---- names of files

-- an octet that stands for itself: a graphic one (21 to 7E) that is no backslash
abbrev pub is_plain : ℕ → Bool
is_plain octet = nat_lt 32 octet && nat_le octet 126 && not (octet == 92)

-- this octet, and then the octets of the rest, where it has any
abbrev pub with_octet : Option ℕ → Option (List ℕ) → Option (List ℕ)
with_octet (Some octet) (Some name) = Some (octet ∷ name)
with_octet _ _ = None

-- the octet that stands for itself
abbrev pub plain_octet : ℕ → Option ℕ
plain_octet octet = if is_plain octet then Some octet else None

-- the octet of two hexadecimal digits, of either case
abbrev pub octet_of_digits : ℕ → ℕ → Option ℕ
octet_of_digits high low = result_ok (pair_value high low 0)

-- the name that the word writes: a backslash and two hexadecimal digits are that octet
unfoldable pub name_in : List ℕ → Option (List ℕ)
name_in [] = Some []
name_in (octet ∷ []) = with_octet (plain_octet octet) (Some [])
name_in (first ∷ second ∷ []) = with_octet (plain_octet first) (name_in (second ∷ []))
name_in (first ∷ second ∷ third ∷ rest) =
    if first == 92 then with_octet (octet_of_digits second third) (name_in rest)
    else with_octet (plain_octet first) (name_in (second ∷ third ∷ rest))

-- octets that are a text: UTF-8
abbrev pub text_of : List ℕ → Option (List ℕ)
text_of octets = if is_utf8 octets then Some octets else None

-- the text that the word writes, in the same way
abbrev pub text_in : List ℕ → Option (List ℕ)
text_in word = option_and_then text_of (name_in word)

-- ---- operands

-- octets that are the name of a file: a text, and not empty
abbrev pub file_name : List ℕ → Option (List ℕ)
file_name [] = None
file_name (octet ∷ octets) = text_of (octet ∷ octets)

abbrev pub file_of : Option (List ℕ) → Option Operand
file_of None = None
file_of (Some octets) = option_map in_file (file_name octets)

-- the file whose name the word writes
abbrev pub file_in : List ℕ → Option Operand
file_in word = file_of (name_in word)

-- two hexadecimal digits for each octet
abbrev pub operand_of_digits : List ℕ → Option Operand
operand_of_digits digits = option_map in_line (result_ok (decode_of digits))

-- `hex:` and octets, or the name of a file
abbrev pub operand_in : List ℕ → Option Operand
operand_in word =
    if bytes_eq (take 4 word) (codes "hex:") then operand_of_digits (drop 4 word) else file_in word

-- what the code holds
abbrev pub seen_operand : Owned → Operand
seen_operand (File name) = in_file (string_bytes name)
seen_operand (Octets held) = in_line held.items

-- A file of verdicts: the fingerprints of the signatures that were found good, one a line.
use Rattle.std.specs.Prelude.{◌≡◌, ◌≢◌, ◌<◌, ◌≤◌, ◌-◌, ◌&&◌, ◌||◌, ◌==◌, ℕ, Bool, not, List, [], Option, Some, None, map, length, take, drop, slice_index, slice_index_or, if◌then◌else◌}
use Rattle.std.specs.List.{filter, slice_split}
use Rattle.std.specs.Result.{result_ok}
use Rattle.hex.specs.Hex.{decode_sized}
use Rattle.cli_operands.specs.declared.verdict_lines.FingerprintsFault.{FingerprintsFault}
use Rattle.cli_operands.specs.declared.verdict_lines.FingerprintsFault.TheVariants.{Line, Memory}

-- what stands between line feeds
abbrev pub text_lines : List ℕ → List (List ℕ)
text_lines octets = slice_split (λ octet. octet == 10) octets

-- there is something on the line
abbrev pub is_written : List ℕ → Bool
is_written line = not (length line == 0)

-- nothing, or a space and any text that a carriage return does not end
abbrev pub is_remark : List ℕ → Bool
is_remark behind =
    (length behind == 0)
    || ((slice_index behind 0 == 32) && not (slice_index behind (length behind - 1) == 13))

-- the 32 octets that the line names: 64 hexadecimal digits of either case, with nothing or a remark behind them
abbrev pub print_on_line : List ℕ → Option (List ℕ)
print_on_line line = if is_remark (drop 64 line) then result_ok (decode_sized (take 64 line) 32) else None

-- the lines on which something is written name these fingerprints, in order
abbrev pub NamePrints : List (List ℕ) → List (List ℕ) → Type 0
NamePrints lines prints = map print_on_line (filter is_written lines) ≡ map Some prints

-- something is written on the line, and no fingerprint
abbrev pub IsBad : List ℕ → Type 0
IsBad line = (line ≢ []) × (print_on_line line ≡ None)

-- the line of that number, counted from 1
abbrev pub line_at : List ℕ → ℕ → List ℕ
line_at octets number = slice_index_or (text_lines octets) (number - 1) []

-- the line of that number is bad, and none before it
pub record IsFirstBadLine (octets : List ℕ) (number : ℕ) : Type 0 where
  pub counted : 1 ≤ number
  pub bad : IsBad (line_at octets number)
  pub first : (earlier : ℕ) → 1 ≤ earlier → earlier < number → IsBad (line_at octets earlier) → ⊥

-- the octets are refused for their first bad line, or memory ran out
abbrev pub IsRefusedForLine : List ℕ → FingerprintsFault → Type 0
IsRefusedForLine octets (Line number) = IsFirstBadLine octets number
IsRefusedForLine octets Memory = Unit {0}

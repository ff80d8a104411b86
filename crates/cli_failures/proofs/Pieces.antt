-- Pieces of the line of a failure.
use Rattle.std.proofs.Common.{◌≡◌, ℕ, List, ◌++◌, Option, codes, append_assoc}
use Rattle.std.specs.Fmt.{decimal}
use Rattle.cli_failures.specs.Report.{place_text, refusal_line}

-- a refusal's line, piece by piece
pub refusal_pieces : (file : List ℕ) (number : ℕ) (name : List ℕ) (place : Option ℕ) → refusal_line file number name place ≡ (file ++ (codes ": refused " ++ (decimal number ++ (codes " " ++ name)))) ++ (place_text place ++ codes "\n")
refusal_pieces file number name place = simp append_assoc

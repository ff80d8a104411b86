-- What the operands of a session's lines hold.
use Rattle.std.specs.Prelude.{◌≡◌, ℕ, List, Option, Some, None}
use Rattle.cli_failures.specs.Failures.{Holding}
use Rattle.cli_requests.specs.Operands.{Operand, in_file, in_line, operand_in}

-- an operand holds what the file of its name holds, or the octets that stand in the line; a word that is none cannot be read
abbrev pub OperandHolds : Holding → Option Operand → Option (List ℕ) → Type 0
OperandHolds holds (Some (in_file name)) found = holds.has name found
OperandHolds holds (Some (in_line octets)) found = found ≡ Some octets
OperandHolds holds None found = found ≡ None

-- the same of a word; what it holds is read in the same profile
abbrev pub holding_of : Holding → Holding
holding_of holds = record { has = λ word found. OperandHolds holds (operand_in word) found; profile = holds.profile }

-- every word holds what the file of this name holds
abbrev pub naming : Holding → List ℕ → Holding
naming holds name = record { has = λ word found. holds.has name found; profile = holds.profile }

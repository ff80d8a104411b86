-- Statements that are read from their octets, and which of several is refused.
use Rattle.std.specs.Prelude.{◌≡◌, ◌<◌, ℕ, List, [], length, map, slice_index_or, Ok, IsOk}
use Rattle.statements_facts.specs.declared.profile.Profile.{Profile}
use Rattle.statements_facts.specs.declared.profile.Profile.TheVariants.{Stated}
use Rattle.statements.specs.Statement.{Statement, statement_under}
use Rattle.statements_parts.specs.Fault.{StatementFailsUnlessFull}
use Rattle.statements_parts.specs.declared.fault.ReadingFault.{ReadingFault}

-- the statements are what the octets are, in a profile
abbrev pub AreStatementsReadUnder : Profile → List (List ℕ) → List Statement → Type 0
AreStatementsReadUnder profile texts statements = map (statement_under profile) texts ≡ map (λ read. Ok read) statements

-- The text with the number is the first that is no statement in the profile, and this is its fault; or memory ran out, and the texts
-- before it are statements.
pub record IsFirstStatementRefusedUnder (profile : Profile) (texts : List (List ℕ)) (j : ℕ) (fault : ReadingFault) : Type 0 where
  pub within : j < length texts
  pub refused : StatementFailsUnlessFull fault (statement_under profile (slice_index_or texts j []))
  pub before : (i : ℕ) → i < j → IsOk (statement_under profile (slice_index_or texts i []))

-- the same in the stated profile
abbrev pub AreStatementsRead : List (List ℕ) → List Statement → Type 0
AreStatementsRead = AreStatementsReadUnder Stated

abbrev pub IsFirstStatementRefused : List (List ℕ) → ℕ → ReadingFault → Type 0
IsFirstStatementRefused = IsFirstStatementRefusedUnder Stated

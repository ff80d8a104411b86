-- singleExtensions and responseExtensions (RFC 6960, 4.2.1): [1] EXPLICIT Extensions OPTIONAL. None is known, so that a critical one
-- is refused (RFC 6960, 4.4).
use Rattle.std.specs.Prelude.{ℕ, not, Option, Some, None, Result, Ok}
use Rattle.std.specs.FinSet.{empty}
use Rattle.asn.specs.Place.{Place}
use Rattle.asn.specs.Members.{Members, members}
use Rattle.asn.specs.Walk.{◌>>=◌, is_a, optional, next_or, some, each, ended, check_that}
use Rattle.cert.specs.OidSet.{Oids}
use Rattle.statements_parts.specs.Parts.{new_extension}
use Rattle.statements_parts.specs.declared.fault.StatementRule.{StatementRule}
use Rattle.statements_parts.specs.declared.fault.StatementRule.TheVariants.{Layout, CriticalUnknown}

-- One more extension, of a type that none of the earlier ones has.
unfoldable pub one_response_extension : Oids → Place → Result Oids (StatementRule × ℕ)
one_response_extension earlier value = do
  read ← new_extension earlier value
  known ← check_that (not read.0.critical) CriticalUnknown value.at
  Ok read.1

-- the extensions that these values are, one after the other: their types
abbrev pub all_response_extensions : Members → Result Oids (StatementRule × ℕ)
all_response_extensions left = each one_response_extension empty left.values

-- Extensions ::= SEQUENCE SIZE (1..MAX) OF Extension
unfoldable pub extensions_of_response : Place → Result (Unit {0}) (StatementRule × ℕ)
extensions_of_response list = do
  sequence ← is_a 0x30 Layout list
  one ← some Layout (members list)
  types ← all_response_extensions (members list)
  Ok tt

abbrev pub extensions_of : Option Place → Members → Result Members (StatementRule × ℕ)
extensions_of None left = Ok left
extensions_of (Some explicit) left = do
  list ← next_or Layout (members explicit)
  read ← extensions_of_response list.0
  one ← ended Layout list.1
  Ok left

unfoldable pub optional_response_extensions : Members → Result Members (StatementRule × ℕ)
optional_response_extensions left = extensions_of (optional 0xA1 left).0 (optional 0xA1 left).1

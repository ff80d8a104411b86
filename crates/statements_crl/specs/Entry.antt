-- The entries of a list as the code has them, and those that were read once (RFC 5280, 5.1.2.6).
use Rattle.std.specs.Prelude.{ℕ, List, [], ◌∷◌, Option, Some, None, option_map, map, Result, Ok, Err}
use Rattle.std.specs.List.{find}
use Rattle.std.specs.Str.{bytes_eq}
use Rattle.asn.specs.Place.{Place, body}
use Rattle.asn.specs.Members.{Members, members, left}
use Rattle.asn.specs.declared.tlv.Cursor.{Cursor}
use Rattle.asn.specs.Walk.{◌>>=◌, is_a, next_or, optional}
use Rattle.statements_facts.specs.Listed.{ListedSerial}
use Rattle.statements_crl.specs.declared.entry.Entry as code
use Rattle.statements_crl.specs.declared.entry_walk.Entries as walk
use Rattle.statements_parts.specs.declared.fault.StatementRule.{StatementRule}
use Rattle.statements_parts.specs.declared.fault.StatementRule.TheVariants.{Layout}
use Rattle.statements_crl.specs.EntryExtension.{reason_given}
pub use Rattle.statements_crl.specs.EntryWalk.{Entry, with_reason, entries, entries_checked}
unfoldable pub use Rattle.statements_crl.specs.EntryWalk.{entry_fields, entry}

abbrev pub seen_entry : code.Entry → Entry
seen_entry read = record { serial = read.serial.now; revocation_date = read.revocation_date; reason = read.reason }

-- the fields that were read, and what is left behind them
abbrev pub seen_entry_and_rest : code.Entry × Cursor → Entry × Members
seen_entry_and_rest read = (seen_entry read.0, left read.1)

-- The walk of an entry that was read once, whose end is not looked at again.
unfoldable pub entry_again : Place → Result Entry (StatementRule × ℕ)
entry_again value = do
  read ← entry_fields value
  Ok (with_reason read.0 (reason_given (optional 0x30 read.1).0))

-- the serial number of an entry, with the number of the reason
abbrev pub listed_serial : Entry → ListedSerial
listed_serial entry = record { serial = entry.serial; reason = entry.reason }

-- These two alone, of an entry that was read once: the date is passed over.
unfoldable pub listed_again : Place → Result ListedSerial (StatementRule × ℕ)
listed_again value = do
  sequence ← is_a 0x30 Layout value
  serial ← next_or Layout (members value)
  date ← next_or Layout serial.1
  Ok (record { serial = body serial.0; reason = reason_given (optional 0x30 date.1).0 })

abbrev pub entry_and_then : Result Entry (StatementRule × ℕ) → List Entry → List Entry
entry_and_then (Ok first) others = first ∷ others
entry_and_then (Err fault) others = []

abbrev pub entries_again : List Place → List Entry
entries_again [] = []
entries_again (value ∷ values) = entry_and_then (entry_again value) (entries_again values)

-- the entries that are still to be handed out
abbrev pub entries_to_come : Option Cursor → List Entry
entries_to_come None = []
entries_to_come (Some cursor) = entries_again (left cursor).values

abbrev pub entries_left : walk.Entries → List Entry
entries_left walk = entries_to_come walk.members

-- the serial numbers and reasons of the entries that are still to be handed out
abbrev pub serials_left : walk.Entries → List ListedSerial
serials_left walk = map listed_serial (entries_left walk)

-- the first of the entries with this serial number, where there is one: its reason
abbrev pub reason_listed : List Entry → List ℕ → Option ℕ
reason_listed entries serial = option_map (λ entry. entry.reason) (find (λ entry. bytes_eq entry.serial serial) entries)

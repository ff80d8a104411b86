-- The walk over the entries of a list (RFC 5280, 5.1.2.6): SEQUENCE { userCertificate CertificateSerialNumber, revocationDate Time,
-- crlEntryExtensions Extensions OPTIONAL }
use Rattle.std.specs.Prelude.{ℕ, ℤ, List, [], ◌∷◌, Result, Ok, Err}
use Rattle.asn.specs.Place.{Place}
use Rattle.asn.specs.Members.{Members, members}
use Rattle.asn.specs.Walk.{◌>>=◌, is_a, time, ended}
use Rattle.statements_parts.specs.declared.fault.StatementRule.{StatementRule}
use Rattle.statements_parts.specs.declared.fault.StatementRule.TheVariants.{Layout}
use Rattle.statements_parts.specs.Parts.{statement_component, serial_in_statement}
use Rattle.statements_crl.specs.EntryExtension.{optional_reason}

-- the contents octets of the serial number, the date in seconds from 1970-01-01T00:00:00Z, and the number of the reason, 0 where
-- none is given
pub record Entry : Type 0 where
  pub serial : List ℕ
  pub revocation_date : ℤ
  pub reason : ℕ

abbrev pub with_reason : Entry → ℕ → Entry
with_reason entry reason = record { serial = entry.serial; revocation_date = entry.revocation_date; reason = reason }

-- The checks in their order: those of the components up to the date,
unfoldable pub entry_fields : Place → Result (Entry × Members) (StatementRule × ℕ)
entry_fields value = do
  sequence ← is_a 0x30 Layout value
  serial ← statement_component 0x02 serial_in_statement (members value)
  date ← time Layout Layout serial.1
  Ok (record { serial = serial.0; revocation_date = date.0; reason = 0 }, date.1)

-- and those of the extensions behind it.
unfoldable pub entry : Place → Result Entry (StatementRule × ℕ)
entry value = do
  read ← entry_fields value
  reason ← optional_reason read.1
  done ← ended Layout reason.1
  Ok (with_reason read.0 reason.0)

-- the entries that the values are, all of them
abbrev pub entries : List Place → Result (List Entry) (StatementRule × ℕ)
entries [] = Ok []
entries (value ∷ values) = do
  first ← entry value
  others ← entries values
  Ok (first ∷ others)

-- whether all are read, or the first fault
abbrev pub entries_checked : Result (List Entry) (StatementRule × ℕ) → Result (Unit {0}) (StatementRule × ℕ)
entries_checked (Ok read) = Ok tt
entries_checked (Err fault) = Err fault

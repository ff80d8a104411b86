-- The parts that statements of both kinds are made of.
use Rattle.std.specs.Prelude.{ℕ, ◌==◌, ◌&&◌, nat_lt, not, Bool, List, Result, Ok}
use Rattle.std.specs.FinSet.{contains, insert}
use Rattle.asn.specs.Place.{Place, body}
use Rattle.asn.specs.Members.{Members}
use Rattle.asn.specs.Walk.{◌>>=◌, required, next_or, check_that}
use Rattle.names.specs.NameLayout.{name}
use Rattle.names.specs.GeneralLayout.{NameContents, contents_at}
use Rattle.cert.specs.AlgorithmIdentifier.{AlgorithmIdentifier, algorithm_identifier}
use Rattle.cert.specs.BitString.{BitString, bit_string_at, has_no_unused_bits}
use Rattle.cert.specs.Extension.{Extension, extension}
use Rattle.cert.specs.OidSet.{Oids}
use Rattle.cert.specs.TbsCertificate.{is_serial}
use Rattle.statements_parts.specs.Fault.{as_statement_name}
use Rattle.statements_parts.specs.declared.fault.StatementRule.{StatementRule}
use Rattle.statements_parts.specs.declared.fault.StatementRule.TheVariants.{Layout}

-- the next value, by a reader that looks at its identifier
unfoldable pub next_in_statement : {A : Type 0} → (Place → Result A (StatementRule × ℕ)) → Members → Result (A × Members) (StatementRule × ℕ)
next_in_statement read left = do
  value ← next_or Layout left
  found ← read value.0
  Ok (found, value.1)

-- the next value, which has this identifier, by a reader that looks at what is inside alone, or that names another fault
unfoldable pub statement_component : {A : Type 0} → ℕ → (Place → Result A (StatementRule × ℕ)) → Members → Result (A × Members) (StatementRule × ℕ)
statement_component identifier read left = do
  value ← required identifier Layout left
  found ← read value.0
  Ok (found, value.1)

-- CertificateSerialNumber (RFC 5280, 4.1.2.2): 1 to 32 octets, of any sign
unfoldable pub serial_in_statement : Place → Result (List ℕ) (StatementRule × ℕ)
serial_in_statement value = check_that (is_serial (body value)) Layout value.at >>= λ short. Ok (body value)

-- the next value as a serial number
abbrev pub next_serial : Members → Result (List ℕ × Members) (StatementRule × ℕ)
next_serial = statement_component 0x02 serial_in_statement

-- the next value as an algorithm identifier (RFC 5280, 4.1.1.2)
abbrev pub next_statement_algorithm : Members → Result (AlgorithmIdentifier × Members) (StatementRule × ℕ)
next_statement_algorithm = next_in_statement (algorithm_identifier Layout)

-- a name (RFC 5280, 4.1.2.4), with its fault as one of the statement
unfoldable pub name_in_statement : Place → Result NameContents (StatementRule × ℕ)
name_in_statement value = as_statement_name (name value) >>= λ done. Ok (contents_at value)

-- the next value as a name
abbrev pub next_statement_name : Members → Result (NameContents × Members) (StatementRule × ℕ)
next_statement_name = statement_component 0x30 name_in_statement

-- the signature (RFC 5280, 5.1.1.3; RFC 6960, 4.2.1): a BIT STRING of octets, with no bit unused
unfoldable pub signature_in_statement : Place → Result BitString (StatementRule × ℕ)
signature_in_statement value = check_that (has_no_unused_bits (body value)) Layout value.at >>= λ whole. Ok (bit_string_at value)

-- the next value as a signature
abbrev pub next_statement_signature : Members → Result (BitString × Members) (StatementRule × ℕ)
next_statement_signature = statement_component 0x03 signature_in_statement

-- an extension of a type that none of the earlier ones of its list has (RFC 5280, 4.2), and their types with its own
unfoldable pub new_extension : Oids → Place → Result (Extension × Oids) (StatementRule × ℕ)
new_extension types value = do
  read ← extension Layout value
  new ← check_that (not (contains types read.oid)) Layout value.at
  Ok (read, insert types read.oid)

-- CRLReason (RFC 5280, 5.3.1) ::= ENUMERATED { unspecified(0), keyCompromise(1), cACompromise(2), affiliationChanged(3),
-- superseded(4), cessationOfOperation(5), certificateHold(6), removeFromCRL(8), privilegeWithdrawn(9), aACompromise(10) }
abbrev pub is_reason : ℕ → Bool
is_reason code = nat_lt code 11 && not (code == 7)

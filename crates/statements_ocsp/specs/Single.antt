-- SingleResponse (RFC 6960, 4.2.1): SEQUENCE { certID CertID, certStatus CertStatus, thisUpdate GeneralizedTime, nextUpdate [0] EXPLICIT
-- GeneralizedTime OPTIONAL, singleExtensions [1] EXPLICIT Extensions OPTIONAL }
use Rattle.std.specs.Prelude.{ℕ, ◌+◌, ℤ, nat_lt, List, [], ◌∷◌, Option, Some, None, Result, Ok, Err}
use Rattle.asn.specs.Place.{Place}
use Rattle.asn.specs.Members.{Members, members, left}
use Rattle.asn.specs.declared.tlv.Cursor.{Cursor}
use Rattle.asn.specs.Walk.{◌>>=◌, is_a, optional, ended, check_that}
use Rattle.statements_parts.specs.Parts.{next_in_statement}
use Rattle.statements_parts.specs.declared.fault.StatementRule.{StatementRule}
use Rattle.statements_parts.specs.declared.fault.StatementRule.TheVariants.{Layout, TooManySingles}
use Rattle.statements_ocsp.specs.declared.cert_status.CertStatus.{CertStatus}
use Rattle.statements_ocsp.specs.declared.single.SingleResponse as code
use Rattle.statements_ocsp.specs.declared.single_list.SingleResponses as walk
use Rattle.statements_ocsp.specs.CertificateId.{CertId, cert_id, seen_id}
use Rattle.statements_ocsp.specs.GeneralizedTime.{generalized_time}
use Rattle.statements_ocsp.specs.CertificateStatus.{cert_status}
use Rattle.statements_ocsp.specs.ResponseExtensions.{optional_response_extensions}

-- times are in seconds from 1970-01-01T00:00:00Z
pub record SingleResponse : Type 0 where
  pub id : CertId
  pub status : CertStatus
  pub this_update : ℤ
  pub next_update : Option ℤ

abbrev pub seen_single_response : code.SingleResponse → SingleResponse
seen_single_response read = record { id = seen_id read.id; status = read.status; this_update = read.this_update; next_update = read.next_update }

-- the fields that were read, and what is left behind them
abbrev pub seen_single_and_rest : code.SingleResponse × Cursor → SingleResponse × Members
seen_single_and_rest read = (seen_single_response read.0, left read.1)

-- nextUpdate [0] EXPLICIT GeneralizedTime OPTIONAL
abbrev pub next_update_of : Option Place → Members → Result (Option ℤ × Members) (StatementRule × ℕ)
next_update_of None left = Ok (None, left)
next_update_of (Some explicit) left = do
  moment ← generalized_time (members explicit)
  one ← ended Layout moment.1
  Ok (Some moment.0, left)

unfoldable pub next_update : Members → Result (Option ℤ × Members) (StatementRule × ℕ)
next_update left = next_update_of (optional 0xA0 left).0 (optional 0xA0 left).1

-- The checks in their order: those of the components up to nextUpdate,
unfoldable pub single_fields : Place → Result (SingleResponse × Members) (StatementRule × ℕ)
single_fields value = do
  sequence ← is_a 0x30 Layout value
  id ← next_in_statement cert_id (members value)
  status ← cert_status id.1
  this_update ← generalized_time status.1
  next_update ← next_update this_update.1
  Ok (record { id = id.0; status = status.0; this_update = this_update.0; next_update = next_update.0 }, next_update.1)

-- and those of the extensions behind it.
unfoldable pub single : Place → Result SingleResponse (StatementRule × ℕ)
single value = do
  read ← single_fields value
  left ← optional_response_extensions read.1
  done ← ended Layout left
  Ok read.0

-- The single response with so many before it; of a list 256 are served, which is a choice of the profile.
unfoldable pub single_after : ℕ → Place → Result SingleResponse (StatementRule × ℕ)
single_after before value = do
  sequence ← is_a 0x30 Layout value
  served ← check_that (nat_lt before 256) TooManySingles value.at
  single value

-- the single responses that the values are, all of them, with so many before them
abbrev pub singles : ℕ → List Place → Result (List SingleResponse) (StatementRule × ℕ)
singles before [] = Ok []
singles before (value ∷ values) = do
  first ← single_after before value
  others ← singles (before + 1) values
  Ok (first ∷ others)

-- whether all are read, or the first fault
abbrev pub singles_checked : Result (List SingleResponse) (StatementRule × ℕ) → Result (Unit {0}) (StatementRule × ℕ)
singles_checked (Ok read) = Ok tt
singles_checked (Err fault) = Err fault

-- The same of single responses that were read once, whose extensions are not looked at again.
unfoldable pub single_again : Place → Result SingleResponse (StatementRule × ℕ)
single_again value = do
  read ← single_fields value
  Ok read.0

abbrev pub single_and_then : Result SingleResponse (StatementRule × ℕ) → List SingleResponse → List SingleResponse
single_and_then (Ok first) others = first ∷ others
single_and_then (Err fault) others = []

abbrev pub singles_again : List Place → List SingleResponse
singles_again [] = []
singles_again (value ∷ values) = single_and_then (single_again value) (singles_again values)

-- the single responses that are still to be handed out
abbrev pub singles_left : walk.SingleResponses → List SingleResponse
singles_left walk = singles_again (left walk.members).values

-- CertStatus (RFC 6960, 4.2.1): CHOICE { good [0] IMPLICIT NULL, revoked [1] IMPLICIT RevokedInfo, unknown [2] IMPLICIT NULL }
use Rattle.std.specs.Prelude.{ℕ, ◌==◌, ◌&&◌, not, List, [], ◌∷◌, Option, Some, None, Result, Ok, Err, if◌then◌else◌}
use Rattle.asn.specs.Place.{Place, tag, body, is_empty}
use Rattle.asn.specs.Members.{Members, members}
use Rattle.asn.specs.Walk.{◌>>=◌, is_a, optional, next_or, or_fault, ended, check_that}
use Rattle.statements_parts.specs.Parts.{statement_component, is_reason}
use Rattle.statements_parts.specs.declared.fault.StatementRule.{StatementRule}
use Rattle.statements_parts.specs.declared.fault.StatementRule.TheVariants.{Layout, BadReason}
use Rattle.statements_ocsp.specs.GeneralizedTime.{generalized_time}
use Rattle.statements_ocsp.specs.declared.cert_status.CertStatus.{CertStatus}
use Rattle.statements_ocsp.specs.declared.cert_status.CertStatus.TheVariants.{Good, Revoked, Unknown}

-- the number of the CRLReason (RFC 5280, 5.3.1) that the contents of an ENUMERATED are; removeFromCRL is for delta lists alone
abbrev pub reason_of_contents : List ℕ → Option ℕ
reason_of_contents [] = None
reason_of_contents (code ∷ []) = if is_reason code && not (code == 8) then Some code else None
reason_of_contents (code ∷ other ∷ octets) = None

unfoldable pub reason : Place → Result ℕ (StatementRule × ℕ)
reason value = or_fault (reason_of_contents (body value)) BadReason value.at

-- revocationReason [0] EXPLICIT CRLReason OPTIONAL: unspecified, which is 0, where it is not there
abbrev pub reason_of : Option Place → Members → Result (ℕ × Members) (StatementRule × ℕ)
reason_of None left = Ok (0, left)
reason_of (Some explicit) left = do
  code ← statement_component 0x0A reason (members explicit)
  one ← ended Layout code.1
  Ok (code.0, left)

unfoldable pub revocation_reason : Members → Result (ℕ × Members) (StatementRule × ℕ)
revocation_reason left = reason_of (optional 0xA0 left).0 (optional 0xA0 left).1

-- RevokedInfo ::= SEQUENCE { revocationTime GeneralizedTime, revocationReason [0] EXPLICIT CRLReason OPTIONAL }
unfoldable pub revoked_info : Place → Result CertStatus (StatementRule × ℕ)
revoked_info value = do
  revoked ← is_a 0xA1 Layout value
  moment ← generalized_time (members value)
  reason ← revocation_reason moment.1
  done ← ended Layout reason.1
  Ok (Revoked reason.0)

-- good and unknown: NULL
unfoldable pub null : CertStatus → Place → Result CertStatus (StatementRule × ℕ)
null status value = do
  empty ← check_that (is_empty (body value)) Layout value.at
  Ok status

unfoldable pub status_at : Place → Result CertStatus (StatementRule × ℕ)
status_at value =
    if tag value == 0x80 then null Good value
    else (if tag value == 0xA1 then revoked_info value
    else (if tag value == 0x82 then null Unknown value else Err (Layout, value.at)))

unfoldable pub cert_status : Members → Result (CertStatus × Members) (StatementRule × ℕ)
cert_status left = do
  value ← next_or Layout left
  status ← status_at value.0
  Ok (status, value.1)

-- The names of faults and reasons, by their numbers; no other number has a name.
use Rattle.std.specs.Prelude.{◌≡◌, ◌++◌, ◌∷◌, ◌+◌, ℕ, List, [], codes, drop, length, ◌==◌, if◌then◌else◌}
use Rattle.std.specs.Prelude.{nat_lt}
use Rattle.der.specs.declared.fault.Rule.{Rule}
use Rattle.der.specs.Fault.{rule_number as der_rule_number, rule_name as der_rule_name}
use Rattle.names.specs.Fault.{name_rule_number, name_rule_name}
use Rattle.names.specs.NameRule.{NameRule}
use Rattle.cert.specs.declared.fault.CertFault.{CertFault}
use Rattle.cert.specs.Fault.{cert_fault_number, cert_fault_name}
use Rattle.statements_parts.specs.declared.fault.StatementFault.{StatementFault}
use Rattle.statements_parts.specs.Fault.{statement_fault_number, statement_fault_name}
use Rattle.path.specs.declared.reason.Reason.{Reason}
use Rattle.path.specs.Reason.{reason_rank, reason_name}

-- of DER, and of names
abbrev pub der_or_name_fault : ℕ → List ℕ
der_or_name_fault number =
    if number == 1 then codes "TagForm" else
    if number == 2 then codes "LengthForm" else
    if number == 3 then codes "TooLong" else
    if number == 4 then codes "Truncated" else
    if number == 5 then codes "TooDeep" else
    if number == 6 then codes "Content" else
    if number == 7 then codes "Trailing" else
    if number == 8 then codes "Memory" else
    if number == 11 then codes "NameLayout" else
    if number == 12 then codes "RdnRepeat" else
    if number == 13 then codes "SetOrder" else
    if number == 14 then codes "Text" else
    if number == 15 then codes "DnsForm" else
    if number == 16 then codes "IpForm" else
    if number == 17 then codes "MaskForm" else
    if number == 18 then codes "MailForm" else
    if number == 19 then codes "UriForm" else
    []

-- of certificates
abbrev pub certificate_fault : ℕ → List ℕ
certificate_fault number =
    if number == 21 then codes "Der" else
    if number == 22 then codes "Layout" else
    if number == 23 then codes "Version" else
    if number == 24 then codes "AlgorithmsDiffer" else
    if number == 25 then codes "Serial" else
    if number == 26 then codes "Time" else
    if number == 27 then codes "EmptyIssuer" else
    if number == 28 then codes "ExtensionRepeated" else
    if number == 29 then codes "ExtensionValue" else
    if number == 30 then codes "SubtreeBounds" else
    if number == 31 then codes "SignatureBits" else
    if number == 32 then codes "Limit" else
    if number == 33 then codes "Memory" else
    []

-- of statements
abbrev pub statement_fault : ℕ → List ℕ
statement_fault number =
    if number == 41 then codes "Der" else
    if number == 42 then codes "Layout" else
    if number == 43 then codes "NotV2" else
    if number == 44 then codes "NoNumber" else
    if number == 45 then codes "NumberRange" else
    if number == 46 then codes "NoNextUpdate" else
    if number == 47 then codes "Delta" else
    if number == 48 then codes "Scope" else
    if number == 49 then codes "Indirect" else
    if number == 50 then codes "CriticalUnknown" else
    if number == 51 then codes "BadReason" else
    if number == 52 then codes "RemoveInComplete" else
    if number == 53 then codes "OtherIssuer" else
    if number == 54 then codes "BadSignature" else
    if number == 55 then codes "NotSuccessful" else
    if number == 56 then codes "ResponseType" else
    if number == 57 then codes "NoSigner" else
    if number == 58 then codes "NothingForIssuer" else
    if number == 59 then codes "TooManySingles" else
    if number == 60 then codes "Memory" else
    []

abbrev pub numbered_fault_name : ℕ → List ℕ
numbered_fault_name number =
    if nat_lt number 21 then der_or_name_fault number else
    if nat_lt number 41 then certificate_fault number else
    statement_fault number

-- these are the names that the faults have
pub record NamesAreOfFaults : Type 0 where
  pub der : (rule : Rule) → numbered_fault_name (der_rule_number rule) ≡ der_rule_name rule
  pub names : (rule : NameRule) → numbered_fault_name (name_rule_number rule) ≡ name_rule_name rule
  pub certificates : (fault : CertFault) → numbered_fault_name (cert_fault_number fault) ≡ cert_fault_name fault
  pub statements : (fault : StatementFault) → numbered_fault_name (statement_fault_number fault) ≡ statement_fault_name fault

-- ---- reasons

-- why a path is invalid, by rank
abbrev pub rank_name : ℕ → List ℕ
rank_name number =
    if number == 1 then codes "Repeated" else
    if number == 2 then codes "Signature" else
    if number == 3 then codes "NotYet" else
    if number == 4 then codes "Expired" else
    if number == 5 then codes "Issuer" else
    if number == 6 then codes "NotPermitted" else
    if number == 7 then codes "Excluded" else
    if number == 8 then codes "ConstraintForm" else
    if number == 9 then codes "NotCa" else
    if number == 10 then codes "PathLength" else
    if number == 11 then codes "KeyCertSign" else
    if number == 12 then codes "Policy" else
    if number == 13 then codes "CriticalUnknown" else
    if number == 14 then codes "Purpose" else
    if number == 15 then codes "Empty" else
    if number == 16 then codes "TooLong" else
    if number == 17 then codes "NoValidPolicy" else
    if number == 18 then codes "AnyPolicyMapped" else
    if number == 19 then codes "NoUserPolicy" else
    []

abbrev pub NamesAreOfRanks : Type 0
NamesAreOfRanks = (reason : Reason) → rank_name (reason_rank reason) ≡ reason_name reason

-- why a certificate is revoked (RFC 5280, 5.3.1)
abbrev pub revocation_name : ℕ → List ℕ
revocation_name number =
    if number == 0 then codes "unspecified" else
    if number == 1 then codes "keyCompromise" else
    if number == 2 then codes "cACompromise" else
    if number == 3 then codes "affiliationChanged" else
    if number == 4 then codes "superseded" else
    if number == 5 then codes "cessationOfOperation" else
    if number == 6 then codes "certificateHold" else
    if number == 8 then codes "removeFromCRL" else
    if number == 9 then codes "privilegeWithdrawn" else
    if number == 10 then codes "aACompromise" else
    []

-- the reason of a verdict that is invalid, and of one that is revoked
abbrev pub verdict_reason : ℕ → ℕ → List ℕ
verdict_reason verdict reason =
    if verdict == 2 then rank_name reason else
    if verdict == 3 then revocation_name reason else
    []

-- ---- what is written

-- the name and a zero, if there is room for both
abbrev pub written_over : List ℕ → List ℕ → List ℕ
written_over name old =
    if nat_lt (length name) (length old) then name ++ 0 ∷ drop (length name + 1) old else old

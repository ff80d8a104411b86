-- The numbers and names of the rules, and how faults of the layers below are passed on.
use Rattle.std.specs.Prelude.{◌≡◌, ℕ, List, codes, Option, Some, None, Result, Ok, Err}
use Rattle.asn.specs.Rule.{Rule}
use Rattle.names.specs.NameRule.{NameRule}
use Rattle.names.specs.Fault.{name_rule_number, name_rule_name}
use Rattle.statements_parts.specs.declared.fault.ReadingFault.{ReadingFault}
use Rattle.statements_parts.specs.declared.fault.ReadingFault.TheVariants as unread
use Rattle.statements_parts.specs.declared.fault.StatementFault.{StatementFault}
use Rattle.statements_parts.specs.declared.fault.StatementFault.TheVariants.{Refused, OtherIssuer, BadSignature, NoSigner, NothingForIssuer, Memory}
use Rattle.statements_parts.specs.declared.fault.StatementRule.{StatementRule}
use Rattle.statements_parts.specs.declared.fault.StatementRule.TheVariants.{Der, Name, Layout, NotV2, NoNumber, NumberRange, NoNextUpdate, Delta, Scope, Indirect, CriticalUnknown, BadReason, RemoveInComplete, NotSuccessful, ResponseType, TooManySingles}

abbrev pub statement_rule_number : StatementRule → ℕ
statement_rule_number (Der rule) = 41
statement_rule_number (Name fault) = name_rule_number fault
statement_rule_number Layout = 42
statement_rule_number NotV2 = 43
statement_rule_number NoNumber = 44
statement_rule_number NumberRange = 45
statement_rule_number NoNextUpdate = 46
statement_rule_number Delta = 47
statement_rule_number Scope = 48
statement_rule_number Indirect = 49
statement_rule_number CriticalUnknown = 50
statement_rule_number BadReason = 51
statement_rule_number RemoveInComplete = 52
statement_rule_number (NotSuccessful code) = 55
statement_rule_number ResponseType = 56
statement_rule_number TooManySingles = 59

abbrev pub statement_rule_name : StatementRule → List ℕ
statement_rule_name (Der rule) = codes "Der"
statement_rule_name (Name fault) = name_rule_name fault
statement_rule_name Layout = codes "Layout"
statement_rule_name NotV2 = codes "NotV2"
statement_rule_name NoNumber = codes "NoNumber"
statement_rule_name NumberRange = codes "NumberRange"
statement_rule_name NoNextUpdate = codes "NoNextUpdate"
statement_rule_name Delta = codes "Delta"
statement_rule_name Scope = codes "Scope"
statement_rule_name Indirect = codes "Indirect"
statement_rule_name CriticalUnknown = codes "CriticalUnknown"
statement_rule_name BadReason = codes "BadReason"
statement_rule_name RemoveInComplete = codes "RemoveInComplete"
statement_rule_name (NotSuccessful code) = codes "NotSuccessful"
statement_rule_name ResponseType = codes "ResponseType"
statement_rule_name TooManySingles = codes "TooManySingles"

abbrev pub statement_fault_number : StatementFault → ℕ
statement_fault_number (Refused rule at) = statement_rule_number rule
statement_fault_number OtherIssuer = 53
statement_fault_number BadSignature = 54
statement_fault_number NoSigner = 57
statement_fault_number NothingForIssuer = 58
statement_fault_number Memory = 60

abbrev pub statement_fault_name : StatementFault → List ℕ
statement_fault_name (Refused rule at) = statement_rule_name rule
statement_fault_name OtherIssuer = codes "OtherIssuer"
statement_fault_name BadSignature = codes "BadSignature"
statement_fault_name NoSigner = codes "NoSigner"
statement_fault_name NothingForIssuer = codes "NothingForIssuer"
statement_fault_name Memory = codes "Memory"

abbrev pub statement_fault_place : StatementFault → Option ℕ
statement_fault_place (Refused rule at) = Some at
statement_fault_place OtherIssuer = None
statement_fault_place BadSignature = None
statement_fault_place NoSigner = None
statement_fault_place NothingForIssuer = None
statement_fault_place Memory = None

-- a fault of DER, and one in a name, as faults of the statement
abbrev pub as_statement_der : {A : Type 0} → Result A (Rule × ℕ) → Result A (StatementRule × ℕ)
as_statement_der (Ok x) = Ok x
as_statement_der (Err fault) = Err (Der fault.0, fault.1)

abbrev pub as_statement_name : {A : Type 0} → Result A (NameRule × ℕ) → Result A (StatementRule × ℕ)
as_statement_name (Ok x) = Ok x
as_statement_name (Err fault) = Err (Name fault.0, fault.1)

-- why octets are not read, as why they are no statement of the issuer
abbrev pub not_read : ReadingFault → StatementFault
not_read (unread.Refused rule at) = Refused rule at
not_read unread.Memory = Memory

-- What a function that takes memory returned, seen by view, is what the walk gives, unless memory was refused.
abbrev pub StatementFailsUnlessFull : {Y : Type 0} → ReadingFault → Result Y (StatementRule × ℕ) → Type 0
StatementFailsUnlessFull unread.Memory walk = Unit {0}
StatementFailsUnlessFull (unread.Refused rule at) walk = walk ≡ Err (rule, at)

abbrev pub StatementGivesUnlessFull : {X Y : Type 0} → (X → Y) → Result X ReadingFault → Result Y (StatementRule × ℕ) → Type 0
StatementGivesUnlessFull view (Ok x) walk = walk ≡ Ok (view x)
StatementGivesUnlessFull view (Err fault) walk = StatementFailsUnlessFull fault walk

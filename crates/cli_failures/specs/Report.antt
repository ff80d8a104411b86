-- What a run that failed says on standard error, and the status that it answers.
use Rattle.std.specs.Prelude.{ℕ, List, [], ◌++◌, Option, Some, None, codes}
use Rattle.std.specs.Fmt.{decimal}
use Rattle.std.specs.Io.KnownBytes.{Appends}
use Rattle.asn.specs.DerFault.{fault_number, fault_name, fault_place, rule_number, rule_name}
use Rattle.cert.specs.Fault.{cert_rule_number, cert_rule_name}
use Rattle.cert.specs.declared.fault.CertRule.{CertRule}
use Rattle.cert.specs.declared.fault.CertRule.TheVariants.{Der}
use Rattle.statements_parts.specs.Fault.{statement_rule_number, statement_rule_name, statement_fault_number, statement_fault_name, statement_fault_place}
use Rattle.statements_parts.specs.declared.fault.StatementRule.{StatementRule}
use Rattle.statements_parts.specs.declared.fault.StatementRule.TheVariants.{Der as OfDer, NotSuccessful}
use Rattle.statements_parts.specs.declared.fault.StatementFault.{StatementFault}
use Rattle.statements_parts.specs.declared.fault.StatementFault.TheVariants.{Refused as Breaks}
use Rattle.cli_failures.specs.declared.failure.StoreRefusal.{StoreRefusal}
use Rattle.cli_failures.specs.declared.failure.StoreRefusal.TheVariants as OfStore
use Rattle.cli_failures.specs.declared.failure.Failure.{Failure}
use Rattle.cli_failures.specs.declared.failure.Failure.TheVariants.{Refused, NoCertificate, NoRevocationList, NoResponse, NotGenuine, BadLine, BadTime, BadPurpose, BadPolicy, BadName, BadTopic, Unreadable, Unwritable, StoreFailed, NoMemory, Shut, NoInput}

-- ` at PLACE`, where there is one
abbrev pub place_text : Option ℕ → List ℕ
place_text (Some at) = codes " at " ++ decimal at
place_text None = []

-- `FILE: refused N NAME at PLACE`
abbrev pub refusal_line : List ℕ → ℕ → List ℕ → Option ℕ → List ℕ
refusal_line file number name place =
    file ++ codes ": refused " ++ decimal number ++ codes " " ++ name
    ++ place_text place ++ codes "\n"

-- the number and the name of a rule of certificates; where octets are not DER, those of the rule of DER
abbrev pub printed_number : CertRule → ℕ
printed_number (Der rule) = rule_number rule
printed_number rule = cert_rule_number rule

abbrev pub printed_name : CertRule → List ℕ
printed_name (Der rule) = rule_name rule
printed_name rule = cert_rule_name rule

-- the same of a rule of statements
abbrev pub printed_statement_number : StatementRule → ℕ
printed_statement_number (OfDer rule) = rule_number rule
printed_statement_number rule = statement_rule_number rule

abbrev pub printed_statement_name : StatementRule → List ℕ
printed_statement_name (OfDer rule) = rule_name rule
printed_statement_name rule = statement_rule_name rule

unfoldable pub unsuccessful_words : ℕ → List ℕ
unsuccessful_words code = codes ": refused 55 NotSuccessful " ++ decimal code ++ codes "\n"

abbrev pub unsuccessful_line : List ℕ → ℕ → List ℕ
unsuccessful_line file code = file ++ unsuccessful_words code

-- of a response that is not successful its status, with no place; else the refusal's line
abbrev pub response_line : List ℕ → StatementRule → ℕ → List ℕ
response_line file (NotSuccessful code) at = unsuccessful_line file code
response_line file rule at =
    refusal_line file (printed_statement_number rule) (printed_statement_name rule) (Some at)

-- a statement that breaks a rule, or that is not genuine, which has no place
abbrev pub statement_line : List ℕ → StatementFault → List ℕ
statement_line file (Breaks rule at) = response_line file rule at
statement_line file fault =
    refusal_line file (statement_fault_number fault) (statement_fault_name fault)
    (statement_fault_place fault)

-- `FILE: line N`
unfoldable pub line_words : ℕ → List ℕ
line_words line = codes ": line " ++ decimal line ++ codes "\n"

abbrev pub bad_line : List ℕ → ℕ → List ℕ
bad_line file line = file ++ line_words line

-- where the name stops being a host or a mailbox
abbrev pub bad_name_line : ℕ → List ℕ
bad_name_line at = codes "bad name at " ++ decimal at ++ codes "\n"

-- the word that is no policy
abbrev pub bad_policy_line : List ℕ → List ℕ
bad_policy_line word = codes "bad policy " ++ word ++ codes "\n"

abbrev pub unreadable_line : List ℕ → List ℕ
unreadable_line file = codes "cannot read " ++ file ++ codes "\n"

-- the number of the fault that a store which does not answer has
abbrev pub store_refusal_number : StoreRefusal → ℕ
store_refusal_number OfStore.Store = 71
store_refusal_number OfStore.Schema = 72

abbrev pub store_fault_line : StoreRefusal → List ℕ
store_fault_line refusal = codes "store fault " ++ decimal (store_refusal_number refusal) ++ codes "\n"

-- what failed, in a line
abbrev pub told_line : Failure → List ℕ
told_line (Refused file fault) =
    refusal_line file.now (fault_number fault) (fault_name fault) (fault_place fault)
told_line (NoCertificate file rule at) =
    refusal_line file.now (printed_number rule) (printed_name rule) (Some at)
told_line (NoRevocationList file rule at) =
    refusal_line file.now (printed_statement_number rule) (printed_statement_name rule) (Some at)
told_line (NoResponse file rule at) = response_line file.now rule at
told_line (NotGenuine file fault) = statement_line file.now fault
told_line (BadLine file line) = bad_line file.now line
told_line BadTime = codes "bad time\n"
told_line BadPurpose = codes "bad purpose\n"
told_line (BadPolicy word) = bad_policy_line word.now
told_line (BadName at) = bad_name_line at
told_line BadTopic = codes "bad topic\n"
told_line (Unreadable file) = unreadable_line file.now
told_line Unwritable = codes "cannot write\n"
told_line (StoreFailed refusal) = store_fault_line refusal
told_line NoMemory = codes "no memory\n"
told_line Shut = codes "store fault 71\n"
told_line NoInput = codes "cannot read standard input\n"

-- the number of what is wrong with a statement
abbrev pub printed_fault_number : StatementFault → ℕ
printed_fault_number (Breaks rule at) = printed_statement_number rule
printed_fault_number fault = statement_fault_number fault

-- the number that the line prints of what is wrong; 0 if it prints none
abbrev pub topic_of : Failure → ℕ
topic_of (Refused file fault) = fault_number fault
topic_of (NoCertificate file rule at) = printed_number rule
topic_of (NoRevocationList file rule at) = printed_statement_number rule
topic_of (NoResponse file rule at) = printed_statement_number rule
topic_of (NotGenuine file fault) = printed_fault_number fault
topic_of (StoreFailed refusal) = store_refusal_number refusal
topic_of failure = 0

-- the same behind the name of the program
abbrev pub report_line : Failure → List ℕ
report_line failure = codes "x509check: " ++ told_line failure

-- 4 for input that is refused, 5 for words, 6 for a file, a store or a writer that failed, and if memory ran out
abbrev pub exit_status : Failure → ℕ
exit_status (Refused file fault) = 4
exit_status (NoCertificate file rule at) = 4
exit_status (NoRevocationList file rule at) = 4
exit_status (NoResponse file rule at) = 4
exit_status (NotGenuine file fault) = 4
exit_status (BadLine file line) = 4
exit_status BadTime = 5
exit_status BadPurpose = 5
exit_status (BadPolicy word) = 5
exit_status (BadName at) = 5
exit_status BadTopic = 5
exit_status (Unreadable file) = 6
exit_status Unwritable = 6
exit_status (StoreFailed refusal) = 6
exit_status NoMemory = 6
exit_status Shut = 6
exit_status NoInput = 6

-- Where a run fails so, this is so: standard output is as it was. What was written before it failed itself, before memory ran out, or in
-- a session that was cut short, is left open.
abbrev pub UnlessLate : Failure → Type 0 → Type 0
UnlessLate Unwritable unchanged = Unit {0}
UnlessLate NoMemory unchanged = Unit {0}
UnlessLate Shut unchanged = Unit {0}
UnlessLate NoInput unchanged = Unit {0}
UnlessLate _ unchanged = unchanged

-- a text of which this is so was written
abbrev pub WritesText : (List ℕ → Type 0) → Option (List ℕ) → Option (List ℕ) → Type 0
WritesText Is old new = (text : List ℕ) × Is text × Appends old new text

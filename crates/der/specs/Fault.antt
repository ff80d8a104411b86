-- The numbers, names and places of faults.
use Rattle.std.specs.Prelude.{ℕ, List, Option, Some, None, codes}
use Rattle.der.specs.declared.fault.Rule.{Rule}
use Rattle.der.specs.declared.fault.Rule.TheVariants.{TagForm, LengthForm, TooLong, Truncated, TooDeep, Content, Trailing}
use Rattle.der.specs.declared.fault.Fault.{Fault}
use Rattle.der.specs.declared.fault.Fault.TheVariants.{Refused, Memory}

-- the number of a rule, in the order in which the rules are named where one value breaks several
abbrev pub rule_number : Rule → ℕ
rule_number TagForm = 1
rule_number LengthForm = 2
rule_number TooLong = 3
rule_number Truncated = 4
rule_number TooDeep = 5
rule_number Content = 6
rule_number Trailing = 7

abbrev pub rule_name : Rule → List ℕ
rule_name TagForm = codes "TagForm"
rule_name LengthForm = codes "LengthForm"
rule_name TooLong = codes "TooLong"
rule_name Truncated = codes "Truncated"
rule_name TooDeep = codes "TooDeep"
rule_name Content = codes "Content"
rule_name Trailing = codes "Trailing"

abbrev pub fault_number : Fault → ℕ
fault_number (Refused rule at) = rule_number rule
fault_number Memory = 8

abbrev pub fault_name : Fault → List ℕ
fault_name (Refused rule at) = rule_name rule
fault_name Memory = codes "Memory"

abbrev pub fault_place : Fault → Option ℕ
fault_place (Refused rule at) = Some at
fault_place Memory = None

-- The numbers and names of the rules, and how faults of the layers below are passed on.
use Rattle.std.specs.Prelude.{◌≡◌, ℕ, List, codes, Option, Some, None, Result, Ok, Err}
use Rattle.asn.specs.declared.tlv.Tlv.{Tlv}
use Rattle.asn.specs.Place.{Place, seen_tlv}
use Rattle.asn.specs.Rule.{Rule}
use Rattle.names.specs.NameRule.{NameRule}
use Rattle.names.specs.Fault.{name_rule_number, name_rule_name}
use Rattle.cert.specs.declared.fault.CertFault.{CertFault}
use Rattle.cert.specs.declared.fault.CertFault.TheVariants.{Refused, Memory}
use Rattle.cert.specs.declared.fault.CertRule.{CertRule}
use Rattle.cert.specs.declared.fault.CertRule.TheVariants.{Der, Name, Layout, Version, AlgorithmsDiffer, Serial, Time, EmptyIssuer, ExtensionRepeated, ExtensionValue, SubtreeBounds, SignatureBits, Limit}

abbrev pub cert_rule_number : CertRule → ℕ
cert_rule_number (Der rule) = 21
cert_rule_number (Name fault) = name_rule_number fault
cert_rule_number Layout = 22
cert_rule_number Version = 23
cert_rule_number AlgorithmsDiffer = 24
cert_rule_number Serial = 25
cert_rule_number Time = 26
cert_rule_number EmptyIssuer = 27
cert_rule_number ExtensionRepeated = 28
cert_rule_number ExtensionValue = 29
cert_rule_number SubtreeBounds = 30
cert_rule_number SignatureBits = 31
cert_rule_number Limit = 32

abbrev pub cert_rule_name : CertRule → List ℕ
cert_rule_name (Der rule) = codes "Der"
cert_rule_name (Name fault) = name_rule_name fault
cert_rule_name Layout = codes "Layout"
cert_rule_name Version = codes "Version"
cert_rule_name AlgorithmsDiffer = codes "AlgorithmsDiffer"
cert_rule_name Serial = codes "Serial"
cert_rule_name Time = codes "Time"
cert_rule_name EmptyIssuer = codes "EmptyIssuer"
cert_rule_name ExtensionRepeated = codes "ExtensionRepeated"
cert_rule_name ExtensionValue = codes "ExtensionValue"
cert_rule_name SubtreeBounds = codes "SubtreeBounds"
cert_rule_name SignatureBits = codes "SignatureBits"
cert_rule_name Limit = codes "Limit"

abbrev pub cert_fault_number : CertFault → ℕ
cert_fault_number (Refused rule at) = cert_rule_number rule
cert_fault_number Memory = 33

abbrev pub cert_fault_name : CertFault → List ℕ
cert_fault_name (Refused rule at) = cert_rule_name rule
cert_fault_name Memory = codes "Memory"

abbrev pub cert_fault_place : CertFault → Option ℕ
cert_fault_place (Refused rule at) = Some at
cert_fault_place Memory = None

-- a fault in the contents of an OCTET STRING, and one in a name, as faults of the certificate
abbrev pub as_der : {A : Type 0} → Result A (Rule × ℕ) → Result A (CertRule × ℕ)
as_der (Ok x) = Ok x
as_der (Err fault) = Err (Der fault.0, fault.1)

abbrev pub as_name : {A : Type 0} → Result A (NameRule × ℕ) → Result A (CertRule × ℕ)
as_name (Ok x) = Ok x
as_name (Err fault) = Err (Name fault.0, fault.1)

-- What a function that takes memory returned, seen by view, is what the walk gives, unless memory was refused.
abbrev pub FailsUnlessFull : {Y : Type 0} → CertFault → Result Y (CertRule × ℕ) → Type 0
FailsUnlessFull Memory walk = Unit {0}
FailsUnlessFull (Refused rule at) walk = walk ≡ Err (rule, at)

abbrev pub GivesUnlessFull : {X Y : Type 0} → (X → Y) → Result X CertFault → Result Y (CertRule × ℕ) → Type 0
GivesUnlessFull view (Ok x) walk = walk ≡ Ok (view x)
GivesUnlessFull view (Err fault) walk = FailsUnlessFull fault walk

-- the same of a function that reads a value
abbrev pub ReadsUnlessFull : {X Y : Type 0} → (X → Y) → Result X CertFault → Tlv → (Place → Result Y (CertRule × ℕ)) → Type 0
ReadsUnlessFull view result value read = GivesUnlessFull view result (read (seen_tlv value))

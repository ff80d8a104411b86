-- The numbers, names and places of the faults of reading from a source.
use Rattle.std.specs.Prelude.{ℕ, List, codes, Option, Some, None}
use Rattle.der.specs.Fault.{fault_number, fault_name, fault_place}
use Rattle.der_stream.specs.declared.reading.ReadFault.{ReadFault}
use Rattle.der_stream.specs.declared.reading.ReadFault.TheVariants.{Fault, Limit, Io}

abbrev pub read_fault_number : ReadFault → Option ℕ
read_fault_number (Fault fault) = Some (fault_number fault)
read_fault_number Limit = Some 10
read_fault_number Io = None

abbrev pub read_fault_name : ReadFault → List ℕ
read_fault_name (Fault fault) = fault_name fault
read_fault_name Limit = codes "Limit"
read_fault_name Io = codes "Io"

-- a value that is past the limit is the one that was to be read
abbrev pub read_fault_place : ReadFault → Option ℕ
read_fault_place (Fault fault) = fault_place fault
read_fault_place Limit = Some 0
read_fault_place Io = None

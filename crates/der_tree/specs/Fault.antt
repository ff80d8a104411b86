-- The numbers and names of the faults of encoding.
use Rattle.std.specs.Prelude.{ℕ, List, codes}
use Rattle.der_tree.specs.declared.encoding.EncodeFault.{EncodeFault}
use Rattle.der_tree.specs.declared.encoding.EncodeFault.TheVariants.{Memory, NotSpellable}

abbrev pub encode_fault_number : EncodeFault → ℕ
encode_fault_number Memory = 8
encode_fault_number NotSpellable = 9

abbrev pub encode_fault_name : EncodeFault → List ℕ
encode_fault_name Memory = codes "Memory"
encode_fault_name NotSpellable = codes "NotSpellable"

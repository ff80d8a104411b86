-- Why the lines of a value were not written.
use Rattle.std.specs.Prelude.{List, ℕ}
use Rattle.asn.specs.Value.{Value}
use Rattle.asn.specs.Encoding.{Encodes}
use Rattle.asn.specs.FirstFault.{IsFirstFault}
use Rattle.cli_printing.specs.declared.tree.TreeFault.{TreeFault}
use Rattle.cli_printing.specs.declared.tree.TreeFault.TheVariants.{Refused, Io}

-- refused octets have that first fault, and the writer is as before; a writer fails only at a value's lines
abbrev pub IsUnwritten : List ℕ → TreeFault → Type 0 → Type 0
IsUnwritten octets (Refused fault) unchanged = IsFirstFault octets fault × unchanged
IsUnwritten octets Io unchanged = (value : Value) × Encodes octets value

-- The values with which octets begin.
use Rattle.std.proofs.Common.{◌≡◌, ◌≤◌, ◌+◌, ℕ, List, Option, length, ap, ◌∙◌, arith}
use Rattle.std.proofs.lemmas.List.{length-append}
use Rattle.der_stream.specs.declared.reading.ReadFault.{ReadFault}
use Rattle.der_stream.specs.Sequence.{joined}
use Rattle.cli_operands.specs.CertificateValues.{ReadUpTo}

-- they are a part of the octets
whole : (most : ℕ) (octets : List ℕ) (values : List (List ℕ)) (stopped : Option (ℕ × ReadFault)) → (read : ReadUpTo most octets values stopped) → length octets ≡ length (joined values) + length read.left
whole most octets values stopped read = ap length read.begins.text_is ∙ length-append (joined values) read.left

pub part : (most : ℕ) (octets : List ℕ) (values : List (List ℕ)) (stopped : Option (ℕ × ReadFault)) → ReadUpTo most octets values stopped → length (joined values) ≤ length octets
part most octets values stopped read = omega (arith, whole most octets values stopped read)

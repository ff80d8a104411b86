use Rattle.std.proofs.Common.{◌≡◌, take}
use Rattle.cert.specs.BasicConstraints.{saturated}
use Rattle.cert.proofs.number.saturated_number.Given as goal

abbrev pub invariant-loop-octet : goal.invariant-loop-octet
invariant-loop-octet l = l.number ≡ saturated (take l.octet-index l.octets)

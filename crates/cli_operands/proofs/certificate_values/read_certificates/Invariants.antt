use Rattle.std.proofs.Common.{◌≡◌, length, map, take}
use Rattle.cert.specs.Certificate.{seen_certificate}
use Rattle.der_stream.specs.Sequence.{joined}
use Rattle.cli_operands.specs.PathText.{AreTexts}
use Rattle.cli_operands.proofs.certificate_values.read_certificates.Given as goal

abbrev pub invariant-loop-value : goal.invariant-loop-value
invariant-loop-value l = record {
  place : l.start ≡ length (joined (map (λ value. value.items) (take l.value-index l.values)));
  read : AreTexts l.profile (map (λ value. value.items) (take l.value-index l.values)) (map seen_certificate l.certificates.items);
}

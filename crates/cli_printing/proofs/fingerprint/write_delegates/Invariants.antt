use Rattle.std.proofs.Common.{◌≡◌, ◌≤◌, ◌+◌, ◌++◌, ℕ, List, length}
use Rattle.std.specs.Io.KnownBytes.{Appends}
use Rattle.cert.specs.SubjectPublicKeyInfo.{seen_key_info}
use Rattle.statements_ocsp.specs.Certificates.{certificates_left}
use Rattle.statements_ocsp.specs.OcspResponse.{certs_left, seen_response}
use Rattle.cli_printing.specs.FingerprintText.{delegate_lines}
use Rattle.cli_printing.proofs.fingerprint.write_delegates.Given as goal

abbrev pub invariant-loop-certificate : goal.invariant-loop-certificate
invariant-loop-certificate g l = record {
  text : List ℕ;
  whole : delegate_lines l.fn.with_parts (seen_key_info l.fn.key_info) (seen_response l.fn.response) 1 (certificates_left l.fn.response.certs)
      ≡ text ++ delegate_lines l.fn.with_parts (seen_key_info l.fn.key_info) (seen_response l.fn.response) (l.number + 1) (certificates_left l.certs);
  written : Appends (g.W.Write.contents l.fn.writer) (g.W.Write.contents l.writer) text;
  counted : l.number + length (certs_left l.certs) ≤ length (certs_left l.fn.response.certs);
}

abbrev pub decreases-loop-certificate : goal.decreases-loop-certificate
decreases-loop-certificate g l = length (certs_left l.certs)

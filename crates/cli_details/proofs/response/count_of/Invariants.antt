use Rattle.std.proofs.Common.{length}
use Rattle.statements_ocsp.specs.OcspResponse.{certs_left}
use Rattle.cli_details.proofs.response.count_of.Given as goal

abbrev pub decreases-loop-count : goal.decreases-loop-count
decreases-loop-count l = length (certs_left l.others)

use Rattle.std.proofs.Common.{◌≡◌, ◌++◌, map, length}
use Rattle.std.specs.List.{filter_map}
use Rattle.cert.specs.Certificate.{seen_certificate}
use Rattle.statements_facts.specs.Single.{seen_single}
use Rattle.statements_ocsp.specs.Single.{singles_left}
use Rattle.statements_ocsp.specs.OcspResponse.{seen_response}
use Rattle.statements.specs.OcspFact.{single_said, singles_of}
use Rattle.statements.specs.SignerView.{seen_signer}
use Rattle.statements.proofs.singles.singles_said.Given as goal

abbrev pub invariant-loop-single : goal.invariant-loop-single
invariant-loop-single l =
    map seen_single l.all.items
    ++ filter_map (single_said l.fn.profile (seen_certificate l.fn.issuer) (seen_signer l.fn.signer) l.fn.response.produced_at) (singles_left l.singles)
    ≡ singles_of l.fn.profile (seen_certificate l.fn.issuer) (seen_response l.fn.response) (seen_signer l.fn.signer)

abbrev pub decreases-loop-single : goal.decreases-loop-single
decreases-loop-single l = length (singles_left l.singles)

use Rattle.cert.specs.Certificate.{seen_certificate}
use Rattle.statements_ocsp.specs.OcspResponse.{seen_response}
use Rattle.statements.specs.Seen.{MayBeSigned}
use Rattle.statements.proofs.Needs.{holds_on_full, said_needs_one}
use Rattle.statements.proofs.genuine_response.response_facts.Goals as goal

pub returns-in_err-issuer_of-clause-memory : goal.returns-in_err-issuer_of-clause-memory
returns-in_err-issuer_of-clause-memory g c =
    let accepts = g.V.Verifier.accepts c.args.verifier.now in
    holds_on_full c.from_residual-in_err-issuer_of.result (MayBeSigned accepts c.args.issuer.now c.args.response.now)
    (said_needs_one c.args.profile accepts (seen_certificate c.args.issuer.now) (seen_response c.args.response.now) _ c.in_ok-singles.ensures.said)

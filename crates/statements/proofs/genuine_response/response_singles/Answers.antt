use Rattle.std.proofs.Common.{map, sym, ◌∙◌}
use Rattle.cert.specs.Certificate.{seen_certificate}
use Rattle.statements_facts.specs.Single.{seen_single}
use Rattle.statements_ocsp.specs.OcspResponse.{seen_response}
use Rattle.statements.specs.OcspFact.{response_said}
use Rattle.statements.specs.SignerView.{seen_signer}
use Rattle.statements.specs.Seen.{MayBeSigned}
use Rattle.statements.proofs.Needs.{holds_on_full, found_needs_one}
use Rattle.statements.proofs.Answering.{singles_are, same_answer}
use Rattle.statements.proofs.genuine_response.response_singles.Goals as goal

pub returns-clause-said : goal.returns-clause-said
returns-clause-said g c =
    let accepts = g.V.Verifier.accepts c.args.verifier.now in
    let issuer = seen_certificate c.args.issuer.now in
    let response = seen_response c.args.response.now in
    same_answer c.some_of.result (response_said c.args.profile accepts issuer response)
    (singles_are c.args.profile accepts issuer response (seen_signer c.in_ok-signer.signer) (map seen_single c.in_ok-singles.singles.items)
    c.in_ok-signer.ensures.found c.in_ok-singles.ensures
    ∙ sym c.some_of.ensures)

pub returns-in_err-singles-clause-memory : goal.returns-in_err-singles-clause-memory
returns-in_err-singles-clause-memory g c =
    let accepts = g.V.Verifier.accepts c.args.verifier.now in
    holds_on_full c.from_residual-in_err-singles.result (MayBeSigned accepts c.args.issuer.now c.args.response.now)
    (found_needs_one accepts (seen_certificate c.args.issuer.now) (seen_response c.args.response.now) (seen_signer c.in_ok-signer.signer) c.in_ok-signer.ensures.found)

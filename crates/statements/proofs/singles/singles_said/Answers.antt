use Rattle.std.proofs.Common.{rules, ◌≡◌, Some, option_map, sym, ap, ◌∙◌}
use Rattle.cert.specs.Certificate.{seen_certificate}
use Rattle.statements_facts.specs.Single.{seen_single}
use Rattle.statements_ocsp.specs.OcspResponse.{seen_response}
use Rattle.statements_ocsp.specs.Single.{singles_left, seen_single_response as seen_response_to}
use Rattle.statements.specs.OcspFact.{single_fact, single_said, singles_of}
use Rattle.statements.specs.SignerView.{seen_signer}
use Rattle.statements.proofs.Responding.{one_more}
use Rattle.statements.proofs.singles.singles_said.Goals as goal

pub loop-single-preserved-in-Continue-1 : goal.loop-single-preserved-in-Continue-1
loop-single-preserved-in-Continue-1 c =
    let issuer = seen_certificate c.args.issuer.now in
    let signer = seen_signer c.args.signer.now in
    let produced_at = c.args.response.now.produced_at in
    let single = seen_response_to c.in-Some.single in
    let named = rw (c.of-ids.ensures.key, c.of-ids.ensures.wide) at (sym c.name_hash.ensures ∙ c.in-Some-name_hash.is) in
    let same : seen_single c.said_by.result ≡ single_fact signer produced_at single c.in-Some-name_hash.name_hash = search rules in
    let said : single_said c.args.profile issuer signer produced_at single ≡ Some (seen_single c.said_by.result) =
    ap (option_map (single_fact signer produced_at single)) named ∙ ap (λ fact. Some fact) (sym same) in
    let grown = one_more seen_single (single_said c.args.profile issuer signer produced_at) c.loop-single.all.items c.said_by.result single
    (singles_left c.loop-single.singles) (singles_left c.next.new.self) (singles_of c.args.profile issuer (seen_response c.args.response.now) signer)
    c.in-Some.ensures said c.loop-single.invariant in
    rw c.in_ok-push.ensures.items grown

use Rattle.std.proofs.Common.{map, ap, ◌∙◌}
use Rattle.cert.specs.Certificate.{seen_certificate}
use Rattle.statements_crl.specs.CertificateList.{seen_list}
use Rattle.statements_facts.specs.Fact.{seen_issuer}
use Rattle.statements.specs.Issuer.{identity_of}
use Rattle.statements.proofs.Genuineness.{kept_for_each}
use Rattle.statements.proofs.genuine_list.issuers_of.Goals as goal

pub returns : goal.returns
returns c =
    kept_for_each c.as_slice.result.now (seen_list c.args.list.now).points c.in-Some.first.now c.in-Some.others.now (seen_issuer c.in_ok-own.own) (identity_of (seen_certificate c.args.issuer.now))
    (seen_issuer c.in_ok-at_first-in-Some.at_first) (map seen_issuer c.in_ok-at_others-in-Some.at_others.items) (ap (map (λ point. point.now)) c.as_slice.ensures.value ∙ c.in_ok-points.ensures) c.in-Some.ensures.cases.0
    c.in_ok-own.ensures c.in_ok-at_first-in-Some.ensures c.in_ok-at_others-in-Some.ensures

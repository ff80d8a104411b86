use Rattle.std.proofs.Common.{◌+◌, ◌++◌, List, drop, ap}
use Rattle.std.specs.List.{flat_map}
use Rattle.cert.specs.Certificate.{Certificate, seen_certificate}
use Rattle.statements_facts.specs.Fact.{Fact}
use Rattle.statements.specs.Statement.{seen_statement}
use Rattle.relying_texts.specs.Texts.{facts_of}
use Rattle.relying_texts.specs.View.{facts_if_some, facts_in_all, identity_seen, issuers_in}
use Rattle.relying_texts.proofs.Folding.{gathered, one_left}
use Rattle.relying_texts.proofs.gathering.add_under_each.Goals as goal

pub loop-link-preserved : goal.loop-link-preserved
loop-link-preserved g c =
    let tells : Certificate → List Fact = λ issuer. facts_of (g.V.Verifier.accepts c.args.verifier.now) issuer (seen_statement c.args.statement.now) in
    let links = c.args.links.now in
    let i = c.loop-link.link-index in
    let issuer = c.link-item.result.issuer.now in
    gathered tells (facts_if_some (identity_seen issuer) c.in_ok-contents.contents) (facts_in_all c.loop-link.genuine.items) (facts_in_all c.add.new.genuine.items)
    (seen_certificate issuer) (issuers_in (drop i links)) (issuers_in (drop (i + 1) links)) (facts_in_all c.args.genuine.now.items ++ flat_map tells (issuers_in links))
    (ap issuers_in (one_left links i c.link-item.result c.loop-link-test.true c.link-item.is)) c.in_ok-contents.ensures c.in_ok-add.ensures c.loop-link.invariant

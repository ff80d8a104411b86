use Rattle.std.proofs.Common.{map, sym, ap, ◌∙◌}
use Rattle.std.proofs.lemmas.Result.{IfOk-weaker}
use Rattle.cert.specs.Certificate.{seen_certificate}
use Rattle.path.specs.Reading.{seen_query}
use Rattle.relying_agreement.specs.Link.{links_from}
use Rattle.relying_search.specs.View.{seen_link}
use Rattle.statements.specs.Statement.{seen_statement}
use Rattle.relying_texts.specs.View.{facts_in_all, issuers_in}
use Rattle.relying_texts.proofs.Bearing.{decided}
use Rattle.relying_texts.proofs.verdicts.verdict_by_statements.Goals as goal

pub returns : goal.returns
returns g c =
    let anchor = seen_certificate c.args.query.now.anchor in
    IfOk-weaker c.verdict_at.result _ _ (λ verdict is. decided (g.V.Verifier.accepts c.args.verifier.now) (seen_query c.args.query.now) (map seen_statement c.args.statements.now)
    (facts_in_all c.as_slice-4.result.now) (map seen_link c.as_slice-3.result.now) (issuers_in c.as_slice-2.result.now) verdict
    (ap facts_in_all c.as_slice-4.ensures.value ∙ c.in_ok-genuine.ensures)
    (ap issuers_in (c.as_slice-2.ensures.value ∙ sym c.as_slice-3.ensures.value))
    (ap (map seen_link) c.as_slice-3.ensures.value ∙ c.in_ok-links.ensures ∙ ap (λ path. links_from 1 anchor (map seen_certificate path)) c.as_slice.ensures.value)
    is)
    c.verdict_at.ensures

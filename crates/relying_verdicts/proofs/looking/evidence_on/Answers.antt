use Rattle.std.proofs.Common.{◌≡◌, length, map, vec_len, ap, sym, ◌∙◌}
use Rattle.std.proofs.lemmas.Result.{IfOk-weaker}
use Rattle.cert.specs.Certificate.{seen_certificate}
use Rattle.path.specs.Reading.{seen_query}
use Rattle.relying_agreement.specs.Link.{links_from}
use Rattle.relying_agreement.specs.Status.{evidence_of}
use Rattle.relying_agreement.specs.Verdict.{evidence_on}
use Rattle.relying_search.specs.View.{seen_evidence, seen_link}
use Rattle.relying_verdicts.proofs.Chains.{asks_as}
use Rattle.relying_verdicts.proofs.Links.{as_many}
use Rattle.relying_verdicts.proofs.looking.evidence_on.Goals as goal

pub returns-clause-count : goal.returns-clause-count
returns-clause-count g c =
    let path = c.args.query.now.path in
    let links_are : map seen_link c.as_slice-2.result.now ≡ links_from 1 (seen_certificate c.args.query.now.anchor) (map seen_certificate path.items) =
    ap (map seen_link) c.as_slice-2.ensures.value ∙ c.in_ok-links.ensures
    ∙ ap (λ l. links_from 1 (seen_certificate c.args.query.now.anchor) (map seen_certificate l)) c.as_slice.ensures.value in
    let many : length c.as_slice-2.result.now ≡ vec_len path = as_many c.as_slice-2.result.now _ path.items links_are ∙ sym path.ok.0 in
    IfOk-weaker c.evidence_of_each.result (λ all. vec_len all ≡ length c.as_slice-2.result.now) (λ all. vec_len all ≡ vec_len path) (λ all same. same ∙ many) c.evidence_of_each.ensures.count

pub returns-clause-asks : goal.returns-clause-asks
returns-clause-asks g c clean =
    asks_as _ _ c.evidence_of_each.result (λ held all. map seen_evidence all.items ≡ map (evidence_of held) (map seen_link c.as_slice-2.result.now))
    (λ held all. map seen_evidence all.items ≡ evidence_on held (seen_query c.args.query.now)) (c.evidence_of_each.ensures.asks clean)
    (λ held all is. is ∙ ap (map (evidence_of held)) (ap (map seen_link) c.as_slice-2.ensures.value ∙ c.in_ok-links.ensures
    ∙ ap (λ l. links_from 1 (seen_certificate c.args.query.now.anchor) (map seen_certificate l)) c.as_slice.ensures.value))

use Rattle.std.proofs.Common.{map, slice_index_or, ap, ◌∙◌, arith}
use Rattle.path_issuers.specs.Search.{certificates_at}
use Rattle.path_search.specs.Answer.{seen_candidate}
use Rattle.path_issuers.specs.View.{seen_search}
use Rattle.relying_agreement.specs.Status.{evidence_of}
use Rattle.relying_agreement.specs.Verdict.{verdict_by}
use Rattle.relying_search.specs.View.{seen_evidence, seen_link}
use Rattle.relying_verdicts.proofs.Chains.{found_as}
use Rattle.relying_verdicts.proofs.Links.{some_link}
use Rattle.relying_verdicts.proofs.Opening.{some_found}
use Rattle.relying_verdicts.proofs.finding.verdict_on_candidate.Goals as goal

pub returns-clause-asks : goal.returns-clause-asks
returns-clause-asks g c clean =
    found_as _ _ _ c.in_ok-evidence.evidence _ _ (c.in_ok-evidence.ensures.asks clean)
    (λ held is. c.verdict_at.ensures ∙ ap (verdict_by (seen_search c.args.search.now).moment)
    (ap (map seen_evidence) c.as_slice-2.ensures.value ∙ is ∙ ap (map (evidence_of held)) (ap (map seen_link) c.as_slice.ensures.value ∙ c.in_ok-links.ensures)))

pub returns-clause-open : goal.returns-clause-open
returns-clause-open g c clean =
    let s = seen_search c.args.search.now in
    let d = seen_candidate c.args.candidate.now in
    c.in_ok-evidence.ensures.open clean
    (some_found c.in_ok-evidence.evidence.items c.as_slice.result.now (omega (arith, c.in_ok-evidence.ensures.count, c.in_ok-evidence.evidence.ok.0))
    (some_link c.as_slice.result.now (slice_index_or s.anchors d.anchor s.target) s.target (certificates_at s.target s.bag d.above) (ap (map seen_link) c.as_slice.ensures.value ∙ c.in_ok-links.ensures)))

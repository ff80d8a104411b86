use Rattle.std.proofs.Common.{◌+◌, drop, map, refl, sym, ap, ◌∙◌}
use Rattle.std.proofs.Math.Facts.{to_z-of_z}
use Rattle.relying_agreement.specs.Link.{Link}
use Rattle.relying_agreement.specs.Status.{Evidence, evidence_of}
use Rattle.relying_agreement.specs.Verdict.{verdict_by}
use Rattle.relying_search.specs.View.{seen_link}
use Rattle.relying_texts.specs.View.{facts_in_all, held_of}
use Rattle.relying_texts.proofs.Deciding.{is_revoked, goes_on}
use Rattle.relying_texts.proofs.Folding.{one_left}
use Rattle.relying_texts.proofs.verdicts.verdict_on.Goals as goal

pub returns-in-Some : goal.returns-in-Some
returns-in-Some c =
    let bears : Link → Evidence = evidence_of (held_of (facts_in_all c.args.genuine.now)) in
    let links = c.args.links.now in
    let i = c.loop-link.link-index in
    let it = bears (seen_link c.link-item.result) in
    is_revoked _ c.loop-link.uncovered (map bears (map seen_link (drop i links))) (map bears (map seen_link links)) c.loop-link.invariant
    it (map bears (map seen_link (drop (i + 1) links))) c.link-item.result.number c.in-Some.reason
    (ap (λ l. map bears (map seen_link l)) (one_left links i c.link-item.result c.loop-link-test.true c.link-item.is)) refl
    (sym c.in-Some.is ∙ c.in_ok-revoked.ensures.reason)
    ∙ ap (λ m. verdict_by m (map bears (map seen_link links))) (to_z-of_z c.ranges.moment)

pub loop-link-preserved : goal.loop-link-preserved
loop-link-preserved c =
    let bears : Link → Evidence = evidence_of (held_of (facts_in_all c.args.genuine.now)) in
    let links = c.args.links.now in
    let i = c.loop-link.link-index in
    let it = bears (seen_link c.link-item.result) in
    goes_on _ c.loop-link.uncovered c.first_uncovered-uncovered.result (map bears (map seen_link (drop i links))) (map bears (map seen_link links))
    it (map bears (map seen_link (drop (i + 1) links))) c.link-item.result.number c.in_ok-revoked.is_covered c.loop-link.invariant
    (ap (λ l. map bears (map seen_link l)) (one_left links i c.link-item.result c.loop-link-test.true c.link-item.is)) refl
    (sym c.in_default.is ∙ c.in_ok-revoked.ensures.reason) c.in_ok-revoked.ensures.covered
    c.first_uncovered-uncovered.ensures

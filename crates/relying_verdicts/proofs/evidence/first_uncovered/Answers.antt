use Rattle.std.proofs.Common.{◌+◌, ℤ, map, drop, w64, of_z, to_z, sym, ap, ◌∙◌}
use Rattle.std.proofs.Math.Facts.{to_z-of_z}
use Rattle.relying_agreement.specs.Verdict.{first_uncovered}
use Rattle.relying_search.specs.View.{seen_evidence}
use Rattle.relying_verdicts.proofs.Covering.{found, passed}
use Rattle.relying_verdicts.proofs.Differing.{one_left}
use Rattle.relying_verdicts.proofs.evidence.first_uncovered.Goals as goal

pub returns-then-not-is_covered : goal.returns-then-not-is_covered
returns-then-not-is_covered c =
    let all = c.args.evidence.now in
    let i = c.loop-it.it-index in
    let it = c.it-item.result in
    let moment : ℤ = to_z w64 (of_z w64 c.args.moment) in
    found moment (map seen_evidence (drop i all)) (seen_evidence it) (map seen_evidence (drop (i + 1) all)) (first_uncovered moment (map seen_evidence all))
    (ap (map seen_evidence) (one_left all i it c.loop-it-test.true c.it-item.is)) c.loop-it.invariant (sym c.is_covered.ensures ∙ c.if-not-is_covered.true)
    ∙ ap (λ m. first_uncovered m (map seen_evidence all)) (to_z-of_z c.ranges.moment)

pub loop-it-preserved : goal.loop-it-preserved
loop-it-preserved c =
    let all = c.args.evidence.now in
    let i = c.loop-it.it-index in
    let it = c.it-item.result in
    let moment : ℤ = to_z w64 (of_z w64 c.args.moment) in
    passed moment (map seen_evidence (drop i all)) (seen_evidence it) (map seen_evidence (drop (i + 1) all)) (first_uncovered moment (map seen_evidence all))
    (ap (map seen_evidence) (one_left all i it c.loop-it-test.true c.it-item.is)) c.loop-it.invariant (sym c.is_covered.ensures ∙ c.if-not-is_covered.false)

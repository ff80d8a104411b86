use Rattle.std.proofs.Common.{arith, ◌≡◌, vec_len, map, ap, ◌∙◌}
use Rattle.std.proofs.lemmas.Result.{err_from_is_err_and}
use Rattle.store_sql.specs.Inside.{inside}
use Rattle.relying_search.specs.View.{seen_evidence}
use Rattle.relying_verdicts.proofs.Opening.{are_asked, some_found}
use Rattle.relying_verdicts.proofs.Chains.{first_fails, other_fails, both_found, first_caused, other_caused}
use Rattle.relying_verdicts.proofs.Differing.{compared_as}
use Rattle.relying_verdicts.proofs.comparing.compare_held.Goals as goal

pub returns-in_err-held-clause-asks : goal.returns-in_err-held-clause-asks
returns-in_err-held-clause-asks g c clean other_clean =
    let p = err_from_is_err_and c.from_residual.result c.from_residual.ensures.1 in
    rw (p.1, p.2) (first_fails _ _ _ _ (c.in_err-held.ensures.asks clean))

pub returns-in_err-others-clause-asks : goal.returns-in_err-others-clause-asks
returns-in_err-others-clause-asks g c clean other_clean =
    let p = err_from_is_err_and c.from_residual-in_err-others.result c.from_residual-in_err-others.ensures.1 in
    rw (p.1, p.2) (other_fails _ _ _ _ _ c.in_ok-held.held _ (c.in_ok-held.ensures.asks clean) (c.in_err-others.ensures.asks other_clean))

pub returns-clause-asks : goal.returns-clause-asks
returns-clause-asks g c clean other_clean =
    both_found _ _ _ _ _ c.in_ok-held.held _ c.in_ok-others.others _ c.compare_at.result (c.in_ok-held.ensures.asks clean) (c.in_ok-others.ensures.asks other_clean)
    (λ one other first second. compared_as c.args.query.now.moment _ _ _ _ c.compare_at.result
    (ap (map seen_evidence) c.as_slice.ensures.value ∙ first) (ap (map seen_evidence) c.as_slice-2.ensures.value ∙ second) c.compare_at.ensures)

pub returns-clause-open : goal.returns-clause-open
returns-clause-open g c clean other_clean some =
    let count : vec_len c.in_ok-others.others ≡ vec_len c.args.query.now.path = c.in_ok-others.ensures.count in
    are_asked _ _ c.args.query.now.moment (map seen_evidence c.as_slice.result.now) (map seen_evidence c.as_slice-2.result.now) c.compare_at.result c.compare_at.ensures
    (c.in_ok-held.ensures.open clean (some_found c.in_ok-held.held.items c.args.query.now.path.items (omega (arith, c.in_ok-held.ensures.count)) some))
    (c.in_ok-others.ensures.open other_clean (some_found c.in_ok-others.others.items c.args.query.now.path.items (omega (arith, count)) some))

pub returns-in_err-held-clause-caused : goal.returns-in_err-held-clause-caused
returns-in_err-held-clause-caused g c clean other_clean =
    let p = err_from_is_err_and c.from_residual.result c.from_residual.ensures.1 in
    rw (p.1, p.2) (first_caused (inside g.S.Store c.args.one.now) (inside g.S.Store c.evidence_on.new.tx) (inside g.D.Store c.args.other.now) (inside g.D.Store c.args.other.now) _ (c.in_err-held.ensures.caused clean))

pub returns-in_err-others-clause-caused : goal.returns-in_err-others-clause-caused
returns-in_err-others-clause-caused g c clean other_clean =
    let p = err_from_is_err_and c.from_residual-in_err-others.result c.from_residual-in_err-others.ensures.1 in
    rw (p.1, p.2) (other_caused (inside g.S.Store c.args.one.now) (inside g.S.Store c.evidence_on.new.tx) (inside g.D.Store c.args.other.now) (inside g.D.Store c.evidence_on-2.new.tx) _ (c.in_err-others.ensures.caused other_clean))

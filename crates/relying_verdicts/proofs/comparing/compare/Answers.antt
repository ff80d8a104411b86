use Rattle.std.proofs.Common.{subst}
use Rattle.path.specs.Validity.{IsOutcome}
use Rattle.relying_agreement.specs.Verdict.{evidence_on}
use Rattle.relying_verdicts.specs.Difference.{ComparesEvidence}
use Rattle.path.specs.Reading.{seen_query}
use Rattle.relying_verdicts.proofs.Chains.{both_as}
use Rattle.relying_verdicts.proofs.Opening.{are_open, may_fail, some_certificate}
use Rattle.relying_verdicts.proofs.Differing.{is_comparison}
use Rattle.relying_verdicts.proofs.comparing.compare.Goals as goal

pub returns-in-Good-clause-asks : goal.returns-in-Good-clause-asks
returns-in-Good-clause-asks g c clean other_clean =
    let query = seen_query c.args.query.now in
    both_as _ _ _ _ (λ held others answer. ComparesEvidence query.moment (evidence_on held query) (evidence_on others query) answer) _ c.compare_held.result
    (c.compare_held.ensures.asks clean other_clean)
    (λ one other answer is. is_comparison (g.V.Verifier.accepts c.args.verifier.now) query
    (subst (IsOutcome (g.V.Verifier.accepts c.args.verifier.now) query) c.in-Good.is c.in_ok-outcome.ensures.ok) one other answer is)

pub returns-in-Good-clause-open : goal.returns-in-Good-clause-open
returns-in-Good-clause-open g c clean other_clean =
    let valid = subst (IsOutcome (g.V.Verifier.accepts c.args.verifier.now) (seen_query c.args.query.now)) c.in-Good.is c.in_ok-outcome.ensures.ok in
    are_open _ _ _ _ c.compare_held.result (c.compare_held.ensures.open clean other_clean (some_certificate c.args.query.now.path.items _ valid.served.some))

pub returns-in-Bad-clause-open : goal.returns-in-Bad-clause-open
returns-in-Bad-clause-open g c clean other_clean =
    let fails = subst (IsOutcome (g.V.Verifier.accepts c.args.verifier.now) (seen_query c.args.query.now)) c.in-Bad.is c.in_ok-outcome.ensures.ok in
    (fails, fails)

pub returns-in-Good-clause-valid : goal.returns-in-Good-clause-valid
returns-in-Good-clause-valid g c =
    may_fail _ _ c.compare_held.result (subst (IsOutcome (g.V.Verifier.accepts c.args.verifier.now) (seen_query c.args.query.now)) c.in-Good.is c.in_ok-outcome.ensures.ok)

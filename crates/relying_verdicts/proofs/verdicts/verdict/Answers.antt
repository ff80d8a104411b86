use Rattle.std.proofs.Common.{arith, map, subst, ap, ◌∙◌}
use Rattle.path.specs.declared.reason.Outcome.TheVariants.{Good}
use Rattle.path.specs.Validity.{IsOutcome}
use Rattle.relying_agreement.specs.Verdict.{verdict_by}
use Rattle.relying_search.specs.View.{seen_evidence}
use Rattle.path.specs.Reading.{seen_query}
use Rattle.relying_verdicts.proofs.Chains.{found_as}
use Rattle.relying_verdicts.proofs.Opening.{is_open, may_fail, some_certificate, some_found}
use Rattle.relying_verdicts.proofs.verdicts.verdict.Goals as goal

pub returns-in_ok-evidence-in-Good-clause-asks : goal.returns-in_ok-evidence-in-Good-clause-asks
returns-in_ok-evidence-in-Good-clause-asks g c clean =
    found_as _ _ _ c.in_ok-evidence-in-Good.evidence _ _ (c.in_ok-evidence-in-Good.ensures.asks clean)
    (λ held is. record {
      outcome = Good;
      is_outcome = subst (IsOutcome (g.V.Verifier.accepts c.args.verifier.now) (seen_query c.args.query.now)) c.in-Good.is c.in_ok-outcome.ensures.ok;
      verdict_is = c.verdict_at.ensures ∙ ap (verdict_by c.args.query.now.moment) (ap (map seen_evidence) c.as_slice.ensures.value ∙ is);
    })

pub returns-in_ok-evidence-in-Good-clause-open : goal.returns-in_ok-evidence-in-Good-clause-open
returns-in_ok-evidence-in-Good-clause-open g c clean =
    let valid = subst (IsOutcome (g.V.Verifier.accepts c.args.verifier.now) (seen_query c.args.query.now)) c.in-Good.is c.in_ok-outcome.ensures.ok in
    let some = some_certificate c.args.query.now.path.items _ valid.served.some in
    is_open _ _ _ c.args.query.now.moment (map seen_evidence c.as_slice.result.now) c.verdict_at.result c.verdict_at.ensures
    (c.in_ok-evidence-in-Good.ensures.open clean (some_found c.in_ok-evidence-in-Good.evidence.items c.args.query.now.path.items (omega (arith, c.in_ok-evidence-in-Good.ensures.count)) some))

pub returns-in-Bad-clause-open : goal.returns-in-Bad-clause-open
returns-in-Bad-clause-open g c clean = subst (IsOutcome (g.V.Verifier.accepts c.args.verifier.now) (seen_query c.args.query.now)) c.in-Bad.is c.in_ok-outcome.ensures.ok

pub returns-in_err-evidence-in-Good-clause-valid : goal.returns-in_err-evidence-in-Good-clause-valid
returns-in_err-evidence-in-Good-clause-valid g c =
    may_fail _ _ _ (subst (IsOutcome (g.V.Verifier.accepts c.args.verifier.now) (seen_query c.args.query.now)) c.in-Good.is c.in_ok-outcome.ensures.ok)

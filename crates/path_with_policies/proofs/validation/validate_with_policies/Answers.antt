use Rattle.std.proofs.Common.{subst}
use Rattle.path.specs.Validity.{IsOutcome}
use Rattle.path_policies.specs.Outcome.{IsPolicyOutcome}
use Rattle.path_with_policies.proofs.validation.validate_with_policies.Goals as goal

pub returns : goal.returns
returns g c = c.join_outcomes.ensures (g.V.Verifier.accepts c.args.verifier.now) c.args.query.now (record {
  counts = c.path.ensures.each;
  of_path = subst (λ q. IsOutcome (g.V.Verifier.accepts c.args.verifier.now) q c.in_ok-outcome.outcome) c.path.ensures.path c.in_ok-outcome.ensures.ok;
  of_policies = subst (λ q. IsPolicyOutcome q c.in_ok-policies.policies) c.policies.ensures.policies c.in_ok-policies.ensures;
})

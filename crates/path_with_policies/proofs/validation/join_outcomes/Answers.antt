use Rattle.std.proofs.Common.{sym, subst}
use Rattle.path_with_policies.specs.WithPolicies.{IsFirstFailureWithPolicies}
use Rattle.path_with_policies.proofs.Joining.{outcomes_are, both_good, bad_policies, bad_path, bad_policies_before, bad_path_before}
use Rattle.path_with_policies.proofs.validation.join_outcomes.Goals as goal

pub returns-in-Good-Good : goal.returns-in-Good-Good
returns-in-Good-Good c accepts q are = both_good accepts q c.in-Good-Good.sets (outcomes_are accepts q _ _ _ _ c.in-Good-Good.is-0 c.in-Good-Good.is-1 are)

pub returns-in-Good-Bad : goal.returns-in-Good-Bad
returns-in-Good-Bad c accepts q are =
    subst (IsFirstFailureWithPolicies accepts q c.in-Good-Bad.number) (sym c.reason_of_policy.ensures)
    (bad_policies accepts q c.in-Good-Bad.number c.in-Good-Bad.reason (outcomes_are accepts q _ _ _ _ c.in-Good-Bad.is-0 c.in-Good-Bad.is-1 are))

pub returns-in-Bad-Good : goal.returns-in-Bad-Good
returns-in-Bad-Good c accepts q are =
    bad_path accepts q c.in-Bad-Good.number c.in-Bad-Good.reason c.in-Bad-Good.field-0-1 (outcomes_are accepts q _ _ _ _ c.in-Bad-Good.is-0 c.in-Bad-Good.is-1 are)

pub returns-then-earlier-number : goal.returns-then-earlier-number
returns-then-earlier-number c accepts q are =
    subst (IsFirstFailureWithPolicies accepts q c.in-Bad-Bad.earlier) (sym c.reason_of_policy-then-earlier-number.ensures)
    (bad_policies_before accepts q c.in-Bad-Bad.number c.in-Bad-Bad.earlier c.in-Bad-Bad.reason c.in-Bad-Bad.why c.if-earlier-number.true
    (outcomes_are accepts q _ _ _ _ c.in-Bad-Bad.is-0 c.in-Bad-Bad.is-1 are))

pub returns : goal.returns
returns c accepts q are =
    bad_path_before accepts q c.in-Bad-Bad.number c.in-Bad-Bad.earlier c.in-Bad-Bad.reason c.in-Bad-Bad.why c.if-earlier-number.false
    (outcomes_are accepts q _ _ _ _ c.in-Bad-Bad.is-0 c.in-Bad-Bad.is-1 are)

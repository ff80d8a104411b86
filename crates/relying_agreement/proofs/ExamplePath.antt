-- The path of the examples meets all conditions under a verifier that accepts all, and not under one that accepts nothing.
use Rattle.std.proofs.Common.{◌≡◌, ◌<◌, arith, lit≤, refl, sym, subst, inr, true≢false}
use Rattle.path.specs.declared.reason.Outcome.TheVariants.{Good, Bad}
use Rattle.path.specs.declared.reason.Reason.{Reason}
use Rattle.path.specs.declared.reason.Reason.TheVariants.{Repeated, Signature, NotYet, Expired, Issuer, NotPermitted, Excluded, ConstraintForm, NotCa, PathLength, KeyCertSign, Policy, CriticalUnknown, Purpose, Empty, TooLong, NoValidPolicy, AnyPolicyMapped, NoUserPolicy}
use Rattle.path.specs.Reason.{reason_rank}
use Rattle.path.specs.Conditions.{MeetsCondition, MeetsConditions}
use Rattle.path.specs.Validity.{IsServed, IsOutcome}
use Rattle.relying_agreement.specs.Examples.{query, accepts_all, accepts_none}

served : IsServed query
served = record { some = lit≤ tt; few = lit≤ tt }

meets : MeetsConditions accepts_all query 1
meets Repeated = λ i low high. absurd (omega arith)
meets Signature = refl
meets NotYet = record { le = tt }
meets Expired = record { le = tt }
meets Issuer = refl
meets NotPermitted = λ checked i low high. absurd (omega arith)
meets Excluded = λ checked i low high. absurd (omega arith)
meets ConstraintForm = λ checked i low high. absurd (omega arith)
meets NotCa = λ below. absurd (omega arith)
meets PathLength = λ below. absurd (omega arith)
meets KeyCertSign = λ below. absurd (omega arith)
meets Policy = refl
meets CriticalUnknown = refl
meets Purpose = λ last. tt
meets Empty = tt
meets TooLong = tt
meets NoValidPolicy = tt
meets AnyPolicyMapped = tt
meets NoUserPolicy = tt

pub path_is_valid : IsOutcome accepts_all query Good
path_is_valid = record {
  served = served;
  each = λ j low high. let one : 1 ≡ j = omega arith in subst (λ k. MeetsConditions accepts_all query k) one meets;
}

only_repeated : (other : Reason) → reason_rank other < reason_rank Signature → MeetsCondition accepts_none query 1 other
only_repeated Repeated below = λ i low high. absurd (omega arith)
only_repeated Signature below = absurd (omega arith)
only_repeated NotYet below = absurd (omega arith)
only_repeated Expired below = absurd (omega arith)
only_repeated Issuer below = absurd (omega arith)
only_repeated NotPermitted below = absurd (omega arith)
only_repeated Excluded below = absurd (omega arith)
only_repeated ConstraintForm below = absurd (omega arith)
only_repeated NotCa below = absurd (omega arith)
only_repeated PathLength below = absurd (omega arith)
only_repeated KeyCertSign below = absurd (omega arith)
only_repeated Policy below = absurd (omega arith)
only_repeated CriticalUnknown below = absurd (omega arith)
only_repeated Purpose below = absurd (omega arith)
only_repeated Empty below = absurd (omega arith)
only_repeated TooLong below = absurd (omega arith)
only_repeated NoValidPolicy below = absurd (omega arith)
only_repeated AnyPolicyMapped below = absurd (omega arith)
only_repeated NoUserPolicy below = absurd (omega arith)

pub signature_is_denied : IsOutcome accepts_none query (Bad 1 Signature)
signature_is_denied = inr (record {
  served = served;
  from = lit≤ tt;
  to = lit≤ tt;
  least = record { broken = λ signed. true≢false (sym signed); lesser = only_repeated };
  before = λ i low high. absurd (omega arith);
})

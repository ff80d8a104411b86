-- The path meets all conditions.
use Rattle.std.proofs.Common.{◌≡◌, pos, arith, lit≤, [], ◌∷◌, None, refl, subst}
use Rattle.path.specs.declared.reason.Outcome.TheVariants.{Good}
use Rattle.path.specs.declared.reason.Reason.TheVariants.{Repeated, Signature, NotYet, Expired, Issuer, NotPermitted, Excluded, ConstraintForm, NotCa, PathLength, KeyCertSign, Policy, CriticalUnknown, Purpose, Empty, TooLong, NoValidPolicy, AnyPolicyMapped, NoUserPolicy}
use Rattle.path.specs.Options.{stated_options}
use Rattle.path.specs.Query.{Query}
use Rattle.path.specs.Conditions.{MeetsConditions}
use Rattle.path.specs.Validity.{IsServed, IsOutcome}
use Rattle.test_premises.specs.Premises.{accepts_toys}
use Rattle.test_premises.proofs.OnLiterals.{on_literals}
use Rattle.test_premises.proofs.CertificateReading.{root, leaf}

abbrev pub query : Query
query = record { anchor = root; certificates = leaf ∷ []; moment = pos 1749945600; purpose = None; options = stated_options }

served : IsServed query
served = record { some = lit≤ tt; few = lit≤ tt }

meets : MeetsConditions accepts_toys query 1
unfolding on_literals
meets Repeated = λ i low high. absurd (omega (arith, low, high))
meets Signature = refl
meets NotYet = record { le = tt }
meets Expired = record { le = tt }
meets Issuer = refl
meets NotPermitted = λ checked i low high. absurd (omega (arith, low, high))
meets Excluded = λ checked i low high. absurd (omega (arith, low, high))
meets ConstraintForm = λ checked i low high. absurd (omega (arith, low, high))
meets NotCa = λ below. absurd (omega (arith, below))
meets PathLength = λ below. absurd (omega (arith, below))
meets KeyCertSign = λ below. absurd (omega (arith, below))
meets Policy = refl
meets CriticalUnknown = refl
meets Purpose = λ last. tt
meets Empty = tt
meets TooLong = tt
meets NoValidPolicy = tt
meets AnyPolicyMapped = tt
meets NoUserPolicy = tt

pub path_is_valid : IsOutcome accepts_toys query Good
path_is_valid = record {
  served = served;
  each = λ j low high. let one : 1 ≡ j = omega (arith, low, high) in subst (λ k. MeetsConditions accepts_toys query k) one meets;
}

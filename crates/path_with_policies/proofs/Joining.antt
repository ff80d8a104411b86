-- What is refused first, of the path without its policies and of its policies.
use Rattle.std.proofs.Common.{◌≡◌, ◌⊎◌, ℕ, ◌+◌, ◌<◌, ◌≤◌, arith, refl, sym, subst, ◌∙◌, inl, inr}
use Rattle.path.specs.declared.reason.Reason.{Reason}
use Rattle.path.specs.declared.reason.Reason.TheVariants.{Repeated, Signature, NotYet, Expired, Issuer, NotPermitted, Excluded, ConstraintForm, NotCa, PathLength, KeyCertSign, Policy, CriticalUnknown, Purpose, Empty, TooLong, NoValidPolicy, AnyPolicyMapped, NoUserPolicy}
use Rattle.path.specs.declared.reason.Outcome.{Outcome}
use Rattle.path.specs.declared.reason.Outcome.TheVariants as path
use Rattle.path.specs.Query.{Query, Accepts, count}
use Rattle.path.specs.Reason.{reason_rank}
use Rattle.path.specs.Conditions.{MeetsCondition, MeetsConditions}
use Rattle.path.specs.Validity.{IsServed, IsValidPath, IsFirstBroken}
use Rattle.path_policies.specs.declared.reason.PolicyReason.{PolicyReason}
use Rattle.path_policies.specs.declared.reason.PolicyReason.TheVariants as policy
use Rattle.path_policies.specs.declared.reason.PolicyOutcome.{PolicyOutcome}
use Rattle.path_policies.specs.declared.reason.PolicyOutcome.TheVariants as policies
use Rattle.path_policies.specs.declared.reason.PolicySets.{PolicySets}
use Rattle.path_policies.specs.Acceptance.{HasRequiredPolicy, MapsNoAny, HasUserPolicy}
use Rattle.path_policies.specs.Query.{count as policy_count}
use Rattle.path_policies.specs.Outcome.{IsAcceptable, IsPolicyOutcome}
use Rattle.path_with_policies.specs.WithPolicies.{QueryWithPolicies, MeetsWithPolicies, MeetsAllWithPolicies, IsValidWithPolicies, IsFirstBrokenWithPolicies, IsFirstFailureWithPolicies}
use Rattle.path_with_policies.specs.Joining.{reason_of, AreOutcomesOf}

-- a reason is of the path alone, or one of policies
abbrev IsOfPath : Reason → Type 0
IsOfPath r = reason_rank r < 17

kind : (r : Reason) → IsOfPath r ⊎ ((why : PolicyReason) × (r ≡ reason_of why))
kind Repeated = inl (omega arith)
kind Signature = inl (omega arith)
kind NotYet = inl (omega arith)
kind Expired = inl (omega arith)
kind Issuer = inl (omega arith)
kind NotPermitted = inl (omega arith)
kind Excluded = inl (omega arith)
kind ConstraintForm = inl (omega arith)
kind NotCa = inl (omega arith)
kind PathLength = inl (omega arith)
kind KeyCertSign = inl (omega arith)
kind Policy = inl (omega arith)
kind CriticalUnknown = inl (omega arith)
kind Purpose = inl (omega arith)
kind Empty = inl (omega arith)
kind TooLong = inl (omega arith)
kind NoValidPolicy = inr (policy.NoValidPolicy, refl)
kind AnyPolicyMapped = inr (policy.AnyPolicyMapped, refl)
kind NoUserPolicy = inr (policy.NoUserPolicy, refl)

module _ (accepts : Accepts) (q : QueryWithPolicies) (j : ℕ) where
  abbrev Meets : Reason → Type 0
  Meets r = MeetsWithPolicies accepts q j r

  met : (r : Reason) → IsOfPath r → MeetsCondition accepts q.path j r → Meets r
  met Repeated of is = is
  met Signature of is = is
  met NotYet of is = is
  met Expired of is = is
  met Issuer of is = is
  met NotPermitted of is = is
  met Excluded of is = is
  met ConstraintForm of is = is
  met NotCa of is = is
  met PathLength of is = is
  met KeyCertSign of is = is
  met Policy of is = is
  met CriticalUnknown of is = is
  met Purpose of is = is
  met Empty of is = is
  met TooLong of is = is
  met NoValidPolicy of is = absurd (omega arith)
  met AnyPolicyMapped of is = absurd (omega arith)
  met NoUserPolicy of is = absurd (omega arith)

  met_alone : (r : Reason) → IsOfPath r → Meets r → MeetsCondition accepts q.path j r
  met_alone Repeated of is = is
  met_alone Signature of is = is
  met_alone NotYet of is = is
  met_alone Expired of is = is
  met_alone Issuer of is = is
  met_alone NotPermitted of is = is
  met_alone Excluded of is = is
  met_alone ConstraintForm of is = is
  met_alone NotCa of is = is
  met_alone PathLength of is = is
  met_alone KeyCertSign of is = is
  met_alone Policy of is = is
  met_alone CriticalUnknown of is = is
  met_alone Purpose of is = is
  met_alone Empty of is = is
  met_alone TooLong of is = is
  met_alone NoValidPolicy of is = absurd (omega arith)
  met_alone AnyPolicyMapped of is = absurd (omega arith)
  met_alone NoUserPolicy of is = absurd (omega arith)

  of_policies : (why : PolicyReason) → MeetsCondition accepts q.path j (reason_of why)
  of_policies policy.NoValidPolicy = tt
  of_policies policy.AnyPolicyMapped = tt
  of_policies policy.NoUserPolicy = tt

  -- a condition of the path that is broken is none of policies
  is_of_path : (r : Reason) → ¬ MeetsCondition accepts q.path j r → IsOfPath r
  is_of_path r broken = elim (kind r) [
    | inl of ↦ of
    | inr other ↦ absurd (broken (subst (λ s. MeetsCondition accepts q.path j s) (sym other.1) (of_policies other.0)))
  ]

  -- what a certificate meets for its policies
  abbrev pub MeetsPolicy : PolicyReason → Type 0
  MeetsPolicy why = Meets (reason_of why)

  all_policies : IsAcceptable q.policies j → (j ≡ count q.path → HasUserPolicy q.policies) → (why : PolicyReason) → MeetsPolicy why
  all_policies acceptable user policy.NoValidPolicy = acceptable.required
  all_policies acceptable user policy.AnyPolicyMapped = acceptable.mapped
  all_policies acceptable user policy.NoUserPolicy = user

  pub meets_all : MeetsConditions accepts q.path j → IsAcceptable q.policies j → (j ≡ count q.path → HasUserPolicy q.policies)
      → MeetsAllWithPolicies accepts q j
  meets_all meets acceptable user r = elim (kind r) [
    | inl of ↦ met r of (meets r)
    | inr other ↦ subst Meets (sym other.1) (all_policies acceptable user other.0)
  ]

  -- a condition of the path that is broken, and those of lesser rank
  lesser_of_path : (r : Reason) → IsOfPath r → ((other : Reason) → reason_rank other < reason_rank r → MeetsCondition accepts q.path j other)
      → (other : Reason) → reason_rank other < reason_rank r → Meets other
  lesser_of_path r of lesser other less = met other (omega arith) (lesser other less)

  -- why the policies are refused here
  abbrev pub BreaksFor : PolicyReason → Type 0
  BreaksFor policy.NoValidPolicy = ¬ HasRequiredPolicy q.policies j
  BreaksFor policy.AnyPolicyMapped = HasRequiredPolicy q.policies j × ¬ MapsNoAny q.policies j
  BreaksFor policy.NoUserPolicy = IsAcceptable q.policies j × ((j ≡ count q.path) × ¬ HasUserPolicy q.policies)

  broken_policy : (why : PolicyReason) → BreaksFor why → ¬ MeetsPolicy why
  broken_policy policy.NoValidPolicy breaks = breaks
  broken_policy policy.AnyPolicyMapped breaks = breaks.1
  broken_policy policy.NoUserPolicy breaks = λ user. breaks.1.1 (user breaks.1.0)

  lesser_policy : (why other : PolicyReason) → BreaksFor why → reason_rank (reason_of other) < reason_rank (reason_of why) → MeetsPolicy other
  lesser_policy policy.NoValidPolicy policy.NoValidPolicy breaks less = absurd (omega arith)
  lesser_policy policy.NoValidPolicy policy.AnyPolicyMapped breaks less = absurd (omega arith)
  lesser_policy policy.NoValidPolicy policy.NoUserPolicy breaks less = absurd (omega arith)
  lesser_policy policy.AnyPolicyMapped policy.NoValidPolicy breaks less = breaks.0
  lesser_policy policy.AnyPolicyMapped policy.AnyPolicyMapped breaks less = absurd (omega arith)
  lesser_policy policy.AnyPolicyMapped policy.NoUserPolicy breaks less = absurd (omega arith)
  lesser_policy policy.NoUserPolicy policy.NoValidPolicy breaks less = breaks.0.required
  lesser_policy policy.NoUserPolicy policy.AnyPolicyMapped breaks less = breaks.0.mapped
  lesser_policy policy.NoUserPolicy policy.NoUserPolicy breaks less = absurd (omega arith)

  lesser_of_policies : (why : PolicyReason) → MeetsConditions accepts q.path j → BreaksFor why
      → (other : Reason) → reason_rank other < reason_rank (reason_of why) → Meets other
  lesser_of_policies why meets breaks other less = elim (kind other) [
    | inl of ↦ met other of (meets other)
    | inr one ↦ subst Meets (sym one.1) (lesser_policy why one.0 breaks (subst (λ r. reason_rank r < reason_rank (reason_of why)) one.1 less))
  ]

module _ (accepts : Accepts) (q : QueryWithPolicies) where
  acceptable_before : ℕ → Type 0
  acceptable_before j = (i : ℕ) → 1 ≤ i → i < j → IsAcceptable q.policies i

  -- the path breaks a condition, and the certificates before are acceptable
  broken_by_path : (j : ℕ) (r : Reason) → IsFirstBroken accepts q.path j r → ((i : ℕ) → 1 ≤ i → i < j → IsAcceptable q.policies i)
      → IsFirstBrokenWithPolicies accepts q j r
  broken_by_path j r first acceptable =
      let of = is_of_path accepts q j r first.least.broken in
      record {
        served = first.served;
        from = first.from;
        to = first.to;
        broken = λ is. first.least.broken (met_alone accepts q j r of is);
        lesser = lesser_of_path accepts q j r of first.least.lesser;
        before = λ i l h. meets_all accepts q i (first.before i l h) (acceptable i l h) (λ last. let to = first.to in absurd (omega arith));
      }

  -- the policies break one, and the certificates before meet those of the path
  broken_by_policies : (j : ℕ) (why : PolicyReason) → IsServed q.path → 1 ≤ j → j ≤ count q.path
      → ((i : ℕ) → 1 ≤ i → i ≤ j → MeetsConditions accepts q.path i) → ((i : ℕ) → 1 ≤ i → i < j → IsAcceptable q.policies i)
      → BreaksFor accepts q j why → IsFirstBrokenWithPolicies accepts q j (reason_of why)
  broken_by_policies j why served from to meets acceptable breaks = record {
    served = served;
    from = from;
    to = to;
    broken = broken_policy accepts q j why breaks;
    lesser = lesser_of_policies accepts q j why (meets j from (omega arith)) breaks;
    before = λ i l h. meets_all accepts q i (meets i l (omega arith)) (acceptable i l h) (λ last. absurd (omega arith));
  }

  -- the first certificate that the policies refuse, if the path is served
  record RefusedAt (j : ℕ) (why : PolicyReason) : Type 0 where
    to : j ≤ count q.path
    from : 1 ≤ j
    acceptable : (i : ℕ) → 1 ≤ i → i < j → IsAcceptable q.policies i
    breaks : BreaksFor accepts q j why

  refused_at : (j : ℕ) (why : PolicyReason) → policy_count q.policies ≡ count q.path → IsServed q.path
      → IsPolicyOutcome q.policies (policies.Bad j why) → RefusedAt j why
  refused_at j policy.NoValidPolicy counts served is =
      let to = is.0.to in record { to = omega arith; from = is.0.from; acceptable = is.0.before; breaks = is.1 }
  refused_at j policy.AnyPolicyMapped counts served is =
      let to = is.0.to in record { to = omega arith; from = is.0.from; acceptable = is.0.before; breaks = is.1 }
  refused_at j policy.NoUserPolicy counts served is =
      let last = is.0 in
      let some = served.some in
      let from : 1 ≤ j = omega arith in
      record {
        to = omega arith;
        from = from;
        acceptable = λ i l h. is.1.0 i l (omega arith);
        breaks = (is.1.0 j from (omega arith), (is.0 ∙ counts, is.1.1));
      }

  pub both_good : (sets : PolicySets) → AreOutcomesOf accepts q path.Good (policies.Good sets) → IsValidWithPolicies accepts q sets
  both_good sets are =
      let good = are.of_policies in
      let counts = are.counts in
      record {
        served = are.of_path.served;
        each = λ j l h. meets_all accepts q j (are.of_path.each j l h) (good.each j l (omega arith)) (λ last. good.user);
        authority_constrained = good.authority_constrained;
        user_constrained = good.user_constrained;
        authority_order = good.authority_order;
        user_order = good.user_order;
      }

  pub bad_policies : (j : ℕ) (why : PolicyReason) → AreOutcomesOf accepts q path.Good (policies.Bad j why)
      → IsFirstFailureWithPolicies accepts q j (reason_of why)
  bad_policies j why are =
      let at = refused_at j why are.counts are.of_path.served are.of_policies in
      let to = at.to in
      inr (broken_by_policies j why are.of_path.served at.from at.to (λ i l h. are.of_path.each i l (omega arith)) at.acceptable at.breaks)

  pub bad_path : (j : ℕ) (r : Reason) (sets : PolicySets) → AreOutcomesOf accepts q (path.Bad j r) (policies.Good sets)
      → IsFirstFailureWithPolicies accepts q j r
  bad_path j r sets are = elim are.of_path [
    | inl whole ↦ inl whole
    | inr first ↦
        let to = first.to in
        let counts = are.counts in
        inr (broken_by_path j r first (λ i l h. are.of_policies.each i l (omega arith)))
  ]

  -- both refuse one: the policies an earlier one, or not
  pub bad_policies_before : (j i : ℕ) (r : Reason) (why : PolicyReason) → i < j → AreOutcomesOf accepts q (path.Bad j r) (policies.Bad i why)
      → IsFirstFailureWithPolicies accepts q i (reason_of why)
  bad_policies_before j i r why less are = elim are.of_path [
    | inl whole ↦ let none = whole.0 in absurd (omega arith)
    | inr first ↦
        let at = refused_at i why are.counts first.served are.of_policies in
        inr (broken_by_policies i why first.served at.from at.to (λ k l h. first.before k l (omega arith)) at.acceptable at.breaks)
  ]

  pub bad_path_before : (j i : ℕ) (r : Reason) (why : PolicyReason) → j ≤ i → AreOutcomesOf accepts q (path.Bad j r) (policies.Bad i why)
      → IsFirstFailureWithPolicies accepts q j r
  bad_path_before j i r why not_later are = elim are.of_path [
    | inl whole ↦ inl whole
    | inr first ↦
        let at = refused_at i why are.counts first.served are.of_policies in
        inr (broken_by_path j r first (λ k l h. at.acceptable k l (omega arith)))
  ]

  -- the same of outcomes that are these
  pub outcomes_are : (one other : Outcome) (p r : PolicyOutcome) → one ≡ other → p ≡ r → AreOutcomesOf accepts q one p → AreOutcomesOf accepts q other r
  outcomes_are one other p r is are outcomes =
      subst (λ o. AreOutcomesOf accepts q o r) is (subst (λ t. AreOutcomesOf accepts q one t) are outcomes)

  pub valid_path : (sets : PolicySets) → IsValidWithPolicies accepts q sets → IsValidPath accepts q.path
  valid_path sets valid = record { served = valid.served; each = each }
    where
      each : (j : ℕ) → 1 ≤ j → j ≤ count q.path → MeetsConditions accepts q.path j
      each j l h r = elim (kind r) [
        | inl of ↦ met_alone accepts q j r of (valid.each j l h r)
        | inr other ↦ subst (λ s. MeetsCondition accepts q.path j s) (sym other.1) (of_policies accepts q j other.0)
      ]

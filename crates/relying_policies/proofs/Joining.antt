-- The verdict on a path whose policies are processed, by the verdict without them.
use Rattle.std.proofs.Common.{◌≡◌, ◌↔◌, ℕ, Option, Some, None, refl, sym, subst, ◌∙◌}
use Rattle.std.specs.List.{AllByRecursion}
use Rattle.statements_facts.specs.Statement.{Holdings}
use Rattle.path.specs.declared.reason.Reason.{Reason}
use Rattle.path.specs.declared.reason.Outcome.TheVariants as path
use Rattle.path.specs.Query.{Accepts}
use Rattle.path_policies.specs.declared.reason.PolicySets.{PolicySets}
use Rattle.path_policies.specs.declared.reason.PolicyOutcome.{PolicyOutcome}
use Rattle.path_policies.specs.Outcome.{IsPolicyOutcome}
use Rattle.path_with_policies.specs.declared.outcome.OutcomeWithPolicies.{OutcomeWithPolicies}
use Rattle.path_with_policies.specs.declared.outcome.OutcomeWithPolicies.TheVariants.{Good, Bad}
use Rattle.path_with_policies.specs.WithPolicies.{QueryWithPolicies, HasPoliciesOfEach, IsOutcomeWithPolicies, IsValidWithPolicies, IsFirstFailureWithPolicies, ValidIsValidWithoutPolicies}
use Rattle.path_with_policies.specs.Joining.{AreOutcomesOf, Joins}
use Rattle.relying_agreement.specs.declared.verdict.Verdict.{Verdict}
use Rattle.relying_agreement.specs.declared.verdict.Verdict.TheVariants.{Invalid, Revoked, Unknown, Valid}
use Rattle.relying_agreement.specs.Link.{links_of}
use Rattle.relying_agreement.specs.Verdict.{IsClear, IsVerdict, ValidExactlyWhere, VerdictIsOne, evidence_on, verdict_by, verdict_from}
use Rattle.relying_policies.specs.declared.verdict.VerdictWithPolicies.{VerdictWithPolicies}
use Rattle.relying_policies.specs.WithPolicies.{IsVerdictWithPolicies, ValidWithPoliciesExactlyWhere, InvalidWithPoliciesExactlyWhere, JoinsVerdict, SameVerdictsAreSameWithPolicies}
use Rattle.relying_policies.specs.WithPolicies as with_policies
use Rattle.relying_policies.specs.Joining.{outcome_in}
use Rattle.relying_policies.proofs.Laws.{outcome_said, verdict_said}

module _ (accepts : Accepts) (q : QueryWithPolicies) (held : Holdings) (answer : VerdictWithPolicies) where
  -- the answer by an outcome of the path and its policies
  by_bad : (j : ℕ) (reason : Reason) → IsFirstFailureWithPolicies accepts q j reason → answer.verdict ≡ Invalid j reason → answer.policies ≡ None
      → IsVerdictWithPolicies accepts q held answer
  by_bad j reason fails verdict policies = record { outcome = Bad j reason; is_outcome = fails; verdict_is = verdict; policies_are = policies }

  by_good : (sets : PolicySets) → IsValidWithPolicies accepts q sets → answer.verdict ≡ verdict_by q.path.moment (evidence_on held q.path)
      → answer.policies ≡ Some sets → IsVerdictWithPolicies accepts q held answer
  by_good sets valid verdict policies = record { outcome = Good sets; is_outcome = valid; verdict_is = verdict; policies_are = policies }

module _ (law : ValidExactlyWhere) (alone : ValidIsValidWithoutPolicies) where
  -- what the statements say of a path that is valid so: that it is Valid exactly if all is clear
  said : (accepts : Accepts) (q : QueryWithPolicies) (held : Holdings) (sets : PolicySets) → IsValidWithPolicies accepts q sets
      → (verdict_by q.path.moment (evidence_on held q.path) ≡ Valid) ↔ AllByRecursion (IsClear held q.path.moment) (links_of q.path)
  said accepts q held sets valid = (
    (λ e. ((law accepts q.path held).0 (record { outcome = path.Good; is_outcome = alone accepts q sets valid; verdict_is = sym e })).1),
    (λ clear. agreed ((law accepts q.path held).1 (alone accepts q sets valid, clear))),
  )
    where
      agreed : IsVerdict accepts q.path held Valid → verdict_by q.path.moment (evidence_on held q.path) ≡ Valid
      agreed is = sym (verdict_said accepts q.path held Valid is refl)

  pub valid_exactly : ValidWithPoliciesExactlyWhere
  valid_exactly accepts q held answer sets verdict policies = (to, from)
    where
      to : IsVerdictWithPolicies accepts q held answer → IsValidWithPolicies accepts q sets × AllByRecursion (IsClear held q.path.moment) (links_of q.path)
      to is = by is.outcome is.is_outcome is.verdict_is is.policies_are
        where
          by : (outcome : OutcomeWithPolicies) → IsOutcomeWithPolicies accepts q outcome → answer.verdict ≡ with_policies.verdict_of outcome q.path held
              → answer.policies ≡ with_policies.policies_of outcome
              → IsValidWithPolicies accepts q sets × AllByRecursion (IsClear held q.path.moment) (links_of q.path)
          by (Bad j reason) fails e p = absurd (let no : None ≡ Some sets = sym p ∙ policies in cc)
          by (Good found) valid e p =
              let same : found ≡ sets = let some : Some found ≡ Some sets = sym p ∙ policies in cc in
              let valid_so = subst (IsValidWithPolicies accepts q) same valid in
              (valid_so, (said accepts q held sets valid_so).0 (sym e ∙ verdict))

      from : IsValidWithPolicies accepts q sets × AllByRecursion (IsClear held q.path.moment) (links_of q.path) → IsVerdictWithPolicies accepts q held answer
      from is = by_good accepts q held answer sets is.0 (verdict ∙ sym ((said accepts q held sets is.0).1 is.1)) policies

pub invalid_exactly : InvalidWithPoliciesExactlyWhere
invalid_exactly accepts q held answer j reason verdict = (to, λ is. by_bad accepts q held answer j reason is.0 verdict is.1)
  where
    to : IsVerdictWithPolicies accepts q held answer → IsFirstFailureWithPolicies accepts q j reason × (answer.policies ≡ None)
    to is = by is.outcome is.is_outcome is.verdict_is is.policies_are
      where
        never : (revoked : Option (ℕ × ℕ)) (uncovered : Option ℕ) → Invalid j reason ≡ verdict_from revoked uncovered → ⊥
        never (Some it) uncovered e = cc
        never None (Some i) e = cc
        never None None e = cc

        by : (outcome : OutcomeWithPolicies) → IsOutcomeWithPolicies accepts q outcome → answer.verdict ≡ with_policies.verdict_of outcome q.path held
            → answer.policies ≡ with_policies.policies_of outcome → IsFirstFailureWithPolicies accepts q j reason × (answer.policies ≡ None)
        by (Bad i other) fails e p =
            let invalid : Invalid i other ≡ Invalid j reason = sym e ∙ verdict in
            let number : i ≡ j = cc in
            let why : other ≡ reason = cc in
            (subst (λ n. IsFirstFailureWithPolicies accepts q n reason) number (subst (IsFirstFailureWithPolicies accepts q i) why fails), p)
        by (Good sets) valid e p = absurd (never _ _ (sym verdict ∙ e))

pub same_with_policies : ValidIsValidWithoutPolicies → VerdictIsOne → SameVerdictsAreSameWithPolicies
same_with_policies alone law accepts q one other verdict answer is_one is_other is = by is.outcome is.is_outcome is.verdict_is is.policies_are
  where
    by : (outcome : OutcomeWithPolicies) → IsOutcomeWithPolicies accepts q outcome → answer.verdict ≡ with_policies.verdict_of outcome q.path one
        → answer.policies ≡ with_policies.policies_of outcome → IsVerdictWithPolicies accepts q other answer
    by (Bad j reason) fails e p = by_bad accepts q other answer j reason fails e p
    by (Good sets) valid e p =
        let here : (held : Holdings) → IsVerdict accepts q.path held (verdict_by q.path.moment (evidence_on held q.path)) =
        λ held. record { outcome = path.Good; is_outcome = alone accepts q sets valid; verdict_is = refl } in
        by_good accepts q other answer sets valid
        (e ∙ (law accepts q.path one _ verdict (here one) is_one ∙ law accepts q.path other verdict _ is_other (here other))) p

-- the answer that joins a verdict and an outcome of policies

pub joined_bad : (verdict : Verdict) (policies : PolicyOutcome) (j : ℕ) (reason : Reason) → Joins (outcome_in verdict) policies (Bad j reason)
    → JoinsVerdict verdict policies (record { verdict = Invalid j reason; policies = None })
joined_bad verdict policies j reason joins accepts q held each is of =
    by_bad accepts q held _ j reason
    (joins accepts q (record { counts = each; of_path = outcome_said accepts q.path held verdict is; of_policies = of })) refl refl

pub joined_good : (verdict : Verdict) (policies : PolicyOutcome) (sets : PolicySets) → ValidIsValidWithoutPolicies → VerdictIsOne
    → Joins (outcome_in verdict) policies (Good sets) → JoinsVerdict verdict policies (record { verdict = verdict; policies = Some sets })
joined_good verdict policies sets alone law joins accepts q held each is of =
    let valid = joins accepts q (record { counts = each; of_path = outcome_said accepts q.path held verdict is; of_policies = of }) in
    by_good accepts q held _ sets valid
    (law accepts q.path held verdict _ is (record { outcome = path.Good; is_outcome = alone accepts q sets valid; verdict_is = refl })) refl

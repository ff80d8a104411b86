-- A path has the same outcome for verifiers that answer the questions about it alike.
use Rattle.std.proofs.Common.{◌≡◌, inl, inr, ℕ, zero, suc, ◌-◌, ◌<◌, ◌≤◌, List, [], ◌∷◌, length, map, slice_index_or, arith, sym, ◌∙◌, subst}
use Rattle.cert.specs.Certificate.{Certificate}
use Rattle.path.specs.declared.reason.Reason.{Reason}
use Rattle.path.specs.declared.reason.Reason.TheVariants.{Repeated, Signature, NotYet, Expired, Issuer, NotPermitted, Excluded, ConstraintForm, NotCa, PathLength, KeyCertSign, Policy, CriticalUnknown, Purpose, Empty, TooLong, NoValidPolicy, AnyPolicyMapped, NoUserPolicy}
use Rattle.path.specs.declared.reason.Outcome.{Outcome}
use Rattle.path.specs.declared.reason.Outcome.TheVariants.{Good, Bad}
use Rattle.path.specs.Query.{Query, Accepts, count, certificate_numbered}
use Rattle.path.specs.Conditions.{MeetsCondition, IsSignedByIssuer}
use Rattle.path.specs.Validity.{IsOutcome, IsFirstBroken}
use Rattle.relying_agreement.specs.Link.{Link, links_from}
use Rattle.relying_questions.specs.Questions.{answer, of_certificate, asked_of_path}
use Rattle.relying_questions.proofs.Alike.{Alike, turned}

-- the question about the certificate behind j others, under the one before it
signed_alike : (accepts other : Accepts) (n : ℕ) (issuer : Certificate) (path : List Certificate)
    → Alike accepts other (map (λ (link : Link). of_certificate link.issuer link.certificate) (links_from n issuer path))
    → (j : ℕ) (d : Certificate) → j < length path
    → answer accepts (of_certificate (slice_index_or (issuer ∷ path) j d) (slice_index_or path j d))
    ≡ answer other (of_certificate (slice_index_or (issuer ∷ path) j d) (slice_index_or path j d))
signed_alike accepts other n issuer [] alike j d below = absurd (omega (arith, below))
signed_alike accepts other n issuer (c ∷ path) alike zero d below = alike.0
signed_alike accepts other n issuer (c ∷ path) alike (suc j) d below =
    signed_alike accepts other (suc n) c path alike.1 j d (omega (arith, below))

-- the signature of certificate j
signature_alike : (accepts other : Accepts) (q : Query) → Alike accepts other (asked_of_path q) → (j : ℕ) → 1 ≤ j → j ≤ count q
    → MeetsCondition accepts q j Signature → MeetsCondition other q j Signature
signature_alike accepts other q alike zero from to is = absurd (omega (arith, from))
signature_alike accepts other q alike (suc j) from to is =
    let earlier : suc j - 1 ≡ j = omega arith in
    let same = signed_alike accepts other 1 q.anchor q.certificates alike j q.anchor (omega (arith, to)) in
    let signed : IsSignedByIssuer accepts (certificate_numbered q (suc j)) (certificate_numbered q j).key_info.value.octets =
    subst (λ i. IsSignedByIssuer accepts (certificate_numbered q (suc j)) (certificate_numbered q i).key_info.value.octets) earlier is in
    subst (λ i. IsSignedByIssuer other (certificate_numbered q (suc j)) (certificate_numbered q i).key_info.value.octets) (sym earlier) (sym same ∙ signed)

condition_alike : (accepts other : Accepts) (q : Query) → Alike accepts other (asked_of_path q) → (j : ℕ) → 1 ≤ j → j ≤ count q
    → (reason : Reason) → MeetsCondition accepts q j reason → MeetsCondition other q j reason
condition_alike accepts other q alike j from to Repeated is = is
condition_alike accepts other q alike j from to Signature is = signature_alike accepts other q alike j from to is
condition_alike accepts other q alike j from to NotYet is = is
condition_alike accepts other q alike j from to Expired is = is
condition_alike accepts other q alike j from to Issuer is = is
condition_alike accepts other q alike j from to NotPermitted is = is
condition_alike accepts other q alike j from to Excluded is = is
condition_alike accepts other q alike j from to ConstraintForm is = is
condition_alike accepts other q alike j from to NotCa is = is
condition_alike accepts other q alike j from to PathLength is = is
condition_alike accepts other q alike j from to KeyCertSign is = is
condition_alike accepts other q alike j from to Policy is = is
condition_alike accepts other q alike j from to CriticalUnknown is = is
condition_alike accepts other q alike j from to Purpose is = is
condition_alike accepts other q alike j from to Empty is = is
condition_alike accepts other q alike j from to TooLong is = is
condition_alike accepts other q alike j from to NoValidPolicy is = is
condition_alike accepts other q alike j from to AnyPolicyMapped is = is
condition_alike accepts other q alike j from to NoUserPolicy is = is

first_broken_alike : (accepts other : Accepts) (q : Query) → Alike accepts other (asked_of_path q) → (j : ℕ) (reason : Reason)
    → IsFirstBroken accepts q j reason → IsFirstBroken other q j reason
first_broken_alike accepts other q alike j reason is = record {
  served = is.served;
  from = is.from;
  to = is.to;
  least = record {
    broken = λ meets. is.least.broken (condition_alike other accepts q (turned accepts other (asked_of_path q) alike) j is.from is.to reason meets);
    lesser = λ lesser less. condition_alike accepts other q alike j is.from is.to lesser (is.least.lesser lesser less);
  };
  before = λ i from below earlier. condition_alike accepts other q alike i from (omega (arith, below, is.to)) earlier (is.before i from below earlier);
}

pub outcome_alike : (accepts other : Accepts) (q : Query) → Alike accepts other (asked_of_path q) → (outcome : Outcome)
    → IsOutcome accepts q outcome → IsOutcome other q outcome
outcome_alike accepts other q alike Good is = record {
  served = is.served;
  each = λ j from to reason. condition_alike accepts other q alike j from to reason (is.each j from to reason);
}
outcome_alike accepts other q alike (Bad j reason) (inl none) = inl none
outcome_alike accepts other q alike (Bad j reason) (inr is) = inr (first_broken_alike accepts other q alike j reason is)

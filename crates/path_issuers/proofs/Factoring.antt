-- A path is valid exactly if its certificates are right, from the target upward.
use Rattle.std.proofs.Common.{◌≡◌, ◌≢◌, ℕ, ℤ, zero, suc, ◌-◌, ◌<◌, ◌≤◌, List, [], ◌∷◌, ◌++◌, Option, Some, not, cond, count_by, length, take, arith, refl, subst, sym, inl, inr}
use Rattle.std.proofs.lemmas.List.{take-take}
use Rattle.std.proofs.lemmas.List.Sums.{sum_by-take-le}
use Rattle.cert.specs.Certificate.{Certificate, is_self_issued}
use Rattle.path_conditions.specs.CertificateConditions.{HasBegun, HasNotExpired, IsCa, path_length_of, MaySignCertificates, NeedsNoPolicyTree, CriticalExtensionsAreKnown, AllowsPurpose}
use Rattle.path.specs.declared.options.Options.{Options}
use Rattle.path.specs.declared.reason.Reason.TheVariants.{Repeated, Signature, NotYet, Expired, Issuer, NotPermitted, Excluded, ConstraintForm, NotCa, PathLength, KeyCertSign, Policy, CriticalUnknown, Purpose, Empty, TooLong, NoValidPolicy, AnyPolicyMapped, NoUserPolicy}
use Rattle.path.specs.Query.{Accepts, Query, count, certificate_numbered}
use Rattle.path.specs.Conditions.{IsSignedByIssuer, IsNamedByIssuer, AreNamesChecked, MeetsConditions, PermitNames, ExcludeNoName, ConstrainNoOtherForm, others_between}
use Rattle.path_issuers.specs.Factors.{IsRightAlone, IsRightAsAuthority, Issues, IssuesFirst, AdmitNames, AdmitNamesBelow, others_above_target, IsRightAbove, AreRight, ValidPathFactors, TailIsRight}
use Rattle.path_issuers.proofs.Numbering.{under, at_next, issuer_next, checked_next, checked_before, with_earlier_next, with_first, with_earlier_before, path_length_next, path_length_first, path_length_before, all_to, all_from}

-- what an earlier certificate and a later one meet together

abbrev Differ : Certificate → Certificate → Type 0
Differ c later = c.octets ≢ later.octets

abbrev PermitsNames : Certificate → Certificate → Type 0
PermitsNames c later = PermitNames c later

abbrev ExcludesNoName : Certificate → Certificate → Type 0
ExcludesNoName c later = ExcludeNoName c later

abbrev ConstrainsNoForm : Certificate → Certificate → Type 0
ConstrainsNoForm c later = ConstrainNoOtherForm c later

-- what a certificate meets with certificate j of those below it, under which it is the anchor
record MeetsWith (c : Certificate) (q : Query) (j : ℕ) : Type 0 where
  different : Differ c (certificate_numbered q j)
  names : AreNamesChecked q j → AdmitNames c (certificate_numbered q j)
  path_length : j < count q → (most : ℕ) → path_length_of c ≡ Some most → others_between q 0 j ≤ most

module _ (options : Options) (accepts : Accepts) (moment : ℤ) (purpose : Option (List ℕ)) where
  -- the conditions of certificate j + 1 are those of certificate j below the first one, and what that meets with it
  module _ (a c : Certificate) (cs : List Certificate) (j : ℕ) (low : 1 ≤ j) (high : j ≤ length cs) where
    abbrev whole : Query
    whole = under options moment purpose a (c ∷ cs)

    abbrev rest : Query
    rest = under options moment purpose c cs

    same : certificate_numbered whole (suc j) ≡ certificate_numbered rest j
    same = at_next options moment purpose a c cs j high

    next_alone : (P : Certificate → Type 0) → P (certificate_numbered whole (suc j)) → P (certificate_numbered rest j)
    next_alone P p = subst P same p

    before_alone : (P : Certificate → Type 0) → P (certificate_numbered rest j) → P (certificate_numbered whole (suc j))
    before_alone P p = subst P (sym same) p

    -- a condition on neighbours
    next_issued : (R : Certificate → Certificate → Type 0) → R (certificate_numbered whole (suc j)) (certificate_numbered whole (suc j - 1)) → R (certificate_numbered rest j) (certificate_numbered rest (j - 1))
    next_issued R r = subst (λ x. R (certificate_numbered rest j) x) (issuer_next options moment purpose a c cs j low high) (next_alone (λ x. R x (certificate_numbered whole (suc j - 1))) r)

    before_issued : (R : Certificate → Certificate → Type 0) → R (certificate_numbered rest j) (certificate_numbered rest (j - 1)) → R (certificate_numbered whole (suc j)) (certificate_numbered whole (suc j - 1))
    before_issued R r = subst (λ x. R (certificate_numbered whole (suc j)) x) (sym (issuer_next options moment purpose a c cs j low high)) (before_alone (λ x. R x (certificate_numbered rest (j - 1))) r)

    meets_next : MeetsConditions accepts whole (suc j) → MeetsConditions accepts rest j
    meets_next meets Repeated = with_earlier_next options moment purpose a c cs Differ j high (meets Repeated)
    meets_next meets Signature = next_issued (λ x issuer. IsSignedByIssuer accepts x issuer.key_info.value.octets) (meets Signature)
    meets_next meets NotYet = next_alone (λ x. HasBegun x moment) (meets NotYet)
    meets_next meets Expired = next_alone (λ x. HasNotExpired x moment) (meets Expired)
    meets_next meets Issuer = next_issued (λ x issuer. IsNamedByIssuer x issuer.subject) (meets Issuer)
    meets_next meets NotPermitted = λ checked. with_earlier_next options moment purpose a c cs PermitsNames j high (meets NotPermitted (checked_before options moment purpose a c cs j high checked))
    meets_next meets Excluded = λ checked. with_earlier_next options moment purpose a c cs ExcludesNoName j high (meets Excluded (checked_before options moment purpose a c cs j high checked))
    meets_next meets ConstraintForm = λ checked. with_earlier_next options moment purpose a c cs ConstrainsNoForm j high (meets ConstraintForm (checked_before options moment purpose a c cs j high checked))
    meets_next meets NotCa = λ more. next_alone IsCa (meets NotCa (omega arith))
    meets_next meets PathLength = λ more. path_length_next options moment purpose a c cs j high (meets PathLength (omega arith))
    meets_next meets KeyCertSign = λ more. next_alone MaySignCertificates (meets KeyCertSign (omega arith))
    meets_next meets Policy = next_alone NeedsNoPolicyTree (meets Policy)
    meets_next meets CriticalUnknown = next_alone (CriticalExtensionsAreKnown options.profile) (meets CriticalUnknown)
    meets_next meets Purpose = λ last. next_alone (λ x. AllowsPurpose options.profile x purpose) (meets Purpose (omega arith))
    meets_next meets Empty = tt
    meets_next meets TooLong = tt
    meets_next meets NoValidPolicy = tt
    meets_next meets AnyPolicyMapped = tt
    meets_next meets NoUserPolicy = tt

    meets_with : MeetsConditions accepts whole (suc j) → MeetsWith c rest j
    meets_with meets = record {
      different = with_first options moment purpose a c cs Differ j low high (meets Repeated);
      names = λ checked. let before = checked_before options moment purpose a c cs j high checked in record {
        permitted = with_first options moment purpose a c cs PermitsNames j low high (meets NotPermitted before);
        not_excluded = with_first options moment purpose a c cs ExcludesNoName j low high (meets Excluded before);
        processed = with_first options moment purpose a c cs ConstrainsNoForm j low high (meets ConstraintForm before);
      };
      path_length = λ more. path_length_first options moment purpose a c cs j low high (meets PathLength (omega arith));
    }

    meets_before : MeetsWith c rest j → MeetsConditions accepts rest j → MeetsConditions accepts whole (suc j)
    meets_before first meets Repeated = with_earlier_before options moment purpose a c cs Differ j high first.different (meets Repeated)
    meets_before first meets Signature = before_issued (λ x issuer. IsSignedByIssuer accepts x issuer.key_info.value.octets) (meets Signature)
    meets_before first meets NotYet = before_alone (λ x. HasBegun x moment) (meets NotYet)
    meets_before first meets Expired = before_alone (λ x. HasNotExpired x moment) (meets Expired)
    meets_before first meets Issuer = before_issued (λ x issuer. IsNamedByIssuer x issuer.subject) (meets Issuer)
    meets_before first meets NotPermitted = λ checked.
        let next = checked_next options moment purpose a c cs j high checked in
        with_earlier_before options moment purpose a c cs PermitsNames j high (first.names next).permitted (meets NotPermitted next)
    meets_before first meets Excluded = λ checked.
        let next = checked_next options moment purpose a c cs j high checked in
        with_earlier_before options moment purpose a c cs ExcludesNoName j high (first.names next).not_excluded (meets Excluded next)
    meets_before first meets ConstraintForm = λ checked.
        let next = checked_next options moment purpose a c cs j high checked in
        with_earlier_before options moment purpose a c cs ConstrainsNoForm j high (first.names next).processed (meets ConstraintForm next)
    meets_before first meets NotCa = λ more. before_alone IsCa (meets NotCa (omega arith))
    meets_before first meets PathLength = λ more.
        path_length_before options moment purpose a c cs j high (first.path_length (omega arith)) (meets PathLength (omega arith))
    meets_before first meets KeyCertSign = λ more. before_alone MaySignCertificates (meets KeyCertSign (omega arith))
    meets_before first meets Policy = before_alone NeedsNoPolicyTree (meets Policy)
    meets_before first meets CriticalUnknown = before_alone (CriticalExtensionsAreKnown options.profile) (meets CriticalUnknown)
    meets_before first meets Purpose = λ last. before_alone (λ x. AllowsPurpose options.profile x purpose) (meets Purpose (omega arith))
    meets_before first meets Empty = tt
    meets_before first meets TooLong = tt
    meets_before first meets NoValidPolicy = tt
    meets_before first meets AnyPolicyMapped = tt
    meets_before first meets NoUserPolicy = tt

  -- names, by number and along the list

  admit_to : (above : Certificate) (a : Certificate) (cs : List Certificate)
      → ((j : ℕ) → 1 ≤ j → j ≤ length cs → AreNamesChecked (under options moment purpose a cs) j → AdmitNames above (certificate_numbered (under options moment purpose a cs) j))
      → AdmitNamesBelow above cs
  admit_to above a [] f = tt
  admit_to above a (c ∷ []) f = f 1 (omega arith) (omega arith) (inl (omega arith))
  admit_to above a (c ∷ d ∷ cs) f = (
    λ other. f 1 (omega arith) (omega arith) (inr other),
    admit_to above c (d ∷ cs) (λ j l h checked.
        subst (AdmitNames above) (at_next options moment purpose a c (d ∷ cs) j h)
        (f (suc j) (omega arith) (omega arith) (checked_before options moment purpose a c (d ∷ cs) j h checked))),
  )

  admit_from : (above : Certificate) (a : Certificate) (cs : List Certificate) → AdmitNamesBelow above cs
      → (j : ℕ) → 1 ≤ j → j ≤ length cs → AreNamesChecked (under options moment purpose a cs) j → AdmitNames above (certificate_numbered (under options moment purpose a cs) j)
  admit_from above a [] all j l h checked = absurd (omega arith)
  admit_from above a (c ∷ cs) all zero l h checked = absurd (omega arith)
  admit_from above a (c ∷ []) all (suc zero) l h checked = all
  admit_from above a (c ∷ []) all (suc (suc j)) l h checked = absurd (omega arith)
  admit_from above a (c ∷ d ∷ cs) all (suc zero) l h (inl last) = absurd (omega arith)
  admit_from above a (c ∷ d ∷ cs) all (suc zero) l h (inr other) = all.0 other
  admit_from above a (c ∷ d ∷ cs) all (suc (suc j)) l h checked =
      subst (AdmitNames above) (sym (at_next options moment purpose a c (d ∷ cs) (suc j) (omega arith)))
      (admit_from above c (d ∷ cs) all.1 (suc j) (omega arith) (omega arith)
      (checked_next options moment purpose a c (d ∷ cs) (suc j) (omega arith) checked))

  -- the bound on all above the target is the bound on each number of them

  others_bound : (c : Certificate) (cs : List Certificate) (j : ℕ) → j < length cs → others_between (under options moment purpose c cs) 0 j ≤ others_above_target cs
  others_bound c cs j h =
      subst (λ l. count_by (λ x. not (is_self_issued x)) l ≤ others_above_target cs) (take-take j (length cs - 1) cs (omega arith))
      (sum_by-take-le (λ x. cond (not (is_self_issued x)) 1 0) (take (length cs - 1) cs) j)

  -- what certificate c meets with each of those below it
  abbrev MeetsEachBelow : Certificate → List Certificate → Type 0
  MeetsEachBelow c cs = (j : ℕ) → 1 ≤ j → j ≤ length cs → MeetsWith c (under options moment purpose c cs) j

  bounded : (c : Certificate) (cs : List Certificate) → MeetsEachBelow c cs → (most : ℕ) → path_length_of c ≡ Some most → others_above_target cs ≤ most
  bounded c [] f most lim = omega arith
  bounded c (d ∷ []) f most lim = omega arith
  bounded c (d ∷ e ∷ cs) f most lim = (f (length (d ∷ e ∷ cs) - 1) (omega arith) (omega arith)).path_length (omega arith) most lim

  meets_each : (c d : Certificate) (cs : List Certificate) → IsRightAbove options accepts moment c (d ∷ cs) → MeetsEachBelow c (d ∷ cs)
  meets_each c d cs right j l h = record {
    different = λ same. all_from options moment purpose (λ later. later.octets ≢ c.octets) c (d ∷ cs) right.different j l h (sym same);
    names = admit_from c c (d ∷ cs) right.names j l h;
    path_length = λ more most lim. let few = right.length most lim in omega (arith, others_bound c (d ∷ cs) j more);
  }

  -- the first certificate

  alone_of : (a c : Certificate) (cs : List Certificate) → MeetsConditions accepts (under options moment purpose a (c ∷ cs)) 1 → IsRightAlone options moment c
  alone_of a c cs meets = record { begun = meets NotYet; not_expired = meets Expired; policy = meets Policy; known = meets CriticalUnknown }

  issued_of : (a c : Certificate) (cs : List Certificate) → MeetsConditions accepts (under options moment purpose a (c ∷ cs)) 1 → Issues accepts a c
  issued_of a c cs meets = record { named = meets Issuer; signed = meets Signature }

  authority_of : (a c d : Certificate) (cs : List Certificate) → MeetsConditions accepts (under options moment purpose a (c ∷ d ∷ cs)) 1 → IsRightAsAuthority options moment c
  authority_of a c d cs meets = record {
    alone = alone_of a c (d ∷ cs) meets;
    ca = meets NotCa (omega arith);
    may_sign = meets KeyCertSign (omega arith);
  }

  meets_alone : (a c : Certificate) (cs : List Certificate) → Issues accepts a c → IsRightAlone options moment c
      → (1 < count (under options moment purpose a (c ∷ cs)) → IsRightAsAuthority options moment c)
      → (1 ≡ count (under options moment purpose a (c ∷ cs)) → AllowsPurpose options.profile c purpose)
      → MeetsConditions accepts (under options moment purpose a (c ∷ cs)) 1
  meets_alone a c cs issued alone authority allowed Repeated = λ i l h. absurd (omega arith)
  meets_alone a c cs issued alone authority allowed Signature = issued.signed
  meets_alone a c cs issued alone authority allowed NotYet = alone.begun
  meets_alone a c cs issued alone authority allowed Expired = alone.not_expired
  meets_alone a c cs issued alone authority allowed Issuer = issued.named
  meets_alone a c cs issued alone authority allowed NotPermitted = λ checked i l h. absurd (omega arith)
  meets_alone a c cs issued alone authority allowed Excluded = λ checked i l h. absurd (omega arith)
  meets_alone a c cs issued alone authority allowed ConstraintForm = λ checked i l h. absurd (omega arith)
  meets_alone a c cs issued alone authority allowed NotCa = λ more. (authority more).ca
  meets_alone a c cs issued alone authority allowed PathLength = λ more i most l h. absurd (omega arith)
  meets_alone a c cs issued alone authority allowed KeyCertSign = λ more. (authority more).may_sign
  meets_alone a c cs issued alone authority allowed Policy = alone.policy
  meets_alone a c cs issued alone authority allowed CriticalUnknown = alone.known
  meets_alone a c cs issued alone authority allowed Purpose = allowed
  meets_alone a c cs issued alone authority allowed Empty = tt
  meets_alone a c cs issued alone authority allowed TooLong = tt
  meets_alone a c cs issued alone authority allowed NoValidPolicy = tt
  meets_alone a c cs issued alone authority allowed AnyPolicyMapped = tt
  meets_alone a c cs issued alone authority allowed NoUserPolicy = tt

  -- the whole path

  abbrev MeetAll : Certificate → List Certificate → Type 0
  MeetAll a cs = (j : ℕ) → 1 ≤ j → j ≤ length cs → MeetsConditions accepts (under options moment purpose a cs) j

  all_next : (a c : Certificate) (cs : List Certificate) → MeetAll a (c ∷ cs) → MeetAll c cs
  all_next a c cs all j l h = meets_next a c cs j l h (all (suc j) (omega arith) (omega arith))

  each_with : (a c : Certificate) (cs : List Certificate) → MeetAll a (c ∷ cs) → MeetsEachBelow c cs
  each_with a c cs all j l h = meets_with a c cs j l h (all (suc j) (omega arith) (omega arith))

  right_above : (a c d : Certificate) (cs : List Certificate) → MeetAll a (c ∷ d ∷ cs) → Issues accepts c d → IsRightAbove options accepts moment c (d ∷ cs)
  right_above a c d cs all issued =
      let with = each_with a c (d ∷ cs) all in record {
        authority = authority_of a c d cs (all 1 (omega arith) (omega arith));
        issues = issued;
        different = all_to options moment purpose (λ later. later.octets ≢ c.octets) c (d ∷ cs) (λ j l h same. (with j l h).different (sym same));
        length = bounded c (d ∷ cs) with;
        names = admit_to c c (d ∷ cs) (λ j l h. (with j l h).names);
      }

  right_of : (a c : Certificate) (cs : List Certificate) → MeetAll a (c ∷ cs) → Issues accepts a c × AreRight options accepts moment purpose (c ∷ cs)
  right_of a c [] all =
      let first = all 1 (omega arith) (omega arith) in
      (issued_of a c [] first, record { alone = alone_of a c [] first; allowed = first Purpose (omega arith) })
  right_of a c (d ∷ cs) all =
      let rest = right_of c d cs (all_next a c (d ∷ cs) all) in
      (issued_of a c (d ∷ cs) (all 1 (omega arith) (omega arith)), (right_above a c d cs all rest.0, rest.1))

  of_right : (a c : Certificate) (cs : List Certificate) → Issues accepts a c → AreRight options accepts moment purpose (c ∷ cs) → MeetAll a (c ∷ cs)
  of_right a c cs issued right zero l h = absurd (omega arith)
  of_right a c [] issued right (suc zero) l h = meets_alone a c [] issued right.alone (λ more. absurd (omega arith)) (λ last. right.allowed)
  of_right a c [] issued right (suc (suc j)) l h = absurd (omega arith)
  of_right a c (d ∷ cs) issued right (suc zero) l h =
      meets_alone a c (d ∷ cs) issued right.0.authority.alone (λ more. right.0.authority) (λ last. absurd (omega arith))
  of_right a c (d ∷ cs) issued right (suc (suc j)) l h =
      meets_before a c (d ∷ cs) (suc j) (omega arith) (omega arith)
      (meets_each c d cs right.0 (suc j) (omega arith) (omega arith))
      (of_right c d cs right.0.issues right.1 (suc j) (omega arith) (omega arith))

  right_first : (a : Certificate) (cs : List Certificate) → 1 ≤ length cs → MeetAll a cs → IssuesFirst accepts a cs × AreRight options accepts moment purpose cs
  right_first a [] some all = absurd (omega arith)
  right_first a (c ∷ cs) some all = right_of a c cs all

  first_right : (a : Certificate) (cs : List Certificate) → IssuesFirst accepts a cs → AreRight options accepts moment purpose cs → MeetAll a cs
  first_right a [] issued right = absurd issued
  first_right a (c ∷ cs) issued right = of_right a c cs issued right

  pub tail_right : (above below : List Certificate) → AreRight options accepts moment purpose (above ++ below) → below ≢ [] → AreRight options accepts moment purpose below
  tail_right [] below right some = right
  tail_right (c ∷ []) [] right some = absurd (some refl)
  tail_right (c ∷ []) (d ∷ below) right some = right.1
  tail_right (c ∷ d ∷ above) below right some = tail_right (d ∷ above) below right.1 some

pub valid_path_factors : ValidPathFactors
valid_path_factors accepts q = (
  λ valid.
      let right = right_first q.options accepts q.moment q.purpose q.anchor q.certificates valid.served.some valid.each in
      (valid.served, right.0, right.1),
  λ parts. record { served = parts.0; each = first_right q.options accepts q.moment q.purpose q.anchor q.certificates parts.1 parts.2 },
)

pub tail_is_right : TailIsRight
tail_is_right accepts q above below valid split some =
    tail_right q.options accepts q.moment q.purpose above below
    (subst (AreRight q.options accepts q.moment q.purpose) split ((valid_path_factors accepts q).0 valid).2) some

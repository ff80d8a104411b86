-- A search has one finding among the paths that count, and two parties that hold the same newest find the same.
use Rattle.std.proofs.Common.{◌≡◌, ◌≢◌, ◌⊎◌, refl, sym, subst, ap₂, ◌∙◌, inl, inr}
use Rattle.path.specs.Query.{Query, Accepts}
use Rattle.path_issuers.specs.Search.{Search, Candidate, CandidatesAreOrdered}
use Rattle.relying_agreement.specs.Agreement.{PartiesAgree}
use Rattle.relying_agreement.specs.Run.{Party}
use Rattle.relying_agreement.specs.Verdict.{IsVerdict, ValidExactlyWhere, VerdictIsOne, verdict_of}
use Rattle.relying_agreement.specs.declared.verdict.Verdict.{Verdict}
use Rattle.relying_agreement.specs.declared.verdict.Verdict.TheVariants.{Valid, Invalid, Revoked, Unknown}
use Rattle.relying_search.specs.Agreement.{HoldTheSameFor}
use Rattle.relying_search.specs.Finding.{Finding, HasVerdict, HeldFor}
use Rattle.relying_search.specs.declared.finding.FindingBudget.{FindingBudget}
use Rattle.relying_search.specs.Among.{FindingAmongIsOne, FoundIsCounted, IsCounted, IsFindingAmong, IsFirstClearAmong, IsFirstCounted, IsFirstOtherAmong, PartiesFindTheSameAmong}
use Rattle.relying_search.proofs.AmongStanding.{clear_is_valid}

module _ (ordered : CandidatesAreOrdered) (exact : ValidExactlyWhere) (one_verdict : VerdictIsOne)
    (counts : Candidate → Type 0) (accepts : Accepts) (s : Search) where
  -- how a path is found: as the first one that counts and has the verdict Valid, or as the first one that counts
  abbrev IsFoundAs : HeldFor → Candidate → Verdict → Type 0
  IsFoundAs held c verdict = ((verdict ≡ Valid) × IsFirstClearAmong counts accepts held s c) ⊎ IsFirstOtherAmong counts accepts held s c verdict

  as_found : (held : HeldFor) (budget : FindingBudget) (c : Candidate) (verdict : Verdict)
      → IsFindingAmong counts accepts held s budget (Finding.Found c verdict) → IsFoundAs held c verdict
  as_found held budget c Valid is = inl (refl, is)
  as_found held budget c (Invalid j reason) is = inr is
  as_found held budget c (Revoked j reason) is = inr is
  as_found held budget c (Unknown j) is = inr is

  clear_is_counted : (held : HeldFor) (c : Candidate) → counts c → HasVerdict accepts held s c Valid → IsCounted counts accepts s c
  clear_is_counted held c counted has = record { valid = clear_is_valid exact accepts held s c has; counted = counted }

  counted_of : (held : HeldFor) (c : Candidate) (verdict : Verdict) → IsFoundAs held c verdict → IsCounted counts accepts s c
  counted_of held c verdict (inl is) = clear_is_counted held c is.1.counted is.1.clear
  counted_of held c verdict (inr is) = is.first.is

  found_is_counted : (held : HeldFor) (budget : FindingBudget) (c : Candidate) (verdict : Verdict)
      → IsFindingAmong counts accepts held s budget (Finding.Found c verdict) → IsCounted counts accepts s c
  found_is_counted held budget c verdict is = counted_of held c verdict (as_found held budget c verdict is)

  verdict_of_found : (held : HeldFor) (c : Candidate) (verdict : Verdict) → IsFoundAs held c verdict → HasVerdict accepts held s c verdict
  verdict_of_found held c verdict (inl is) = subst (HasVerdict accepts held s c) (sym is.0) is.1.clear
  verdict_of_found held c verdict (inr is) = is.has

  pub found_has : (held : HeldFor) (budget : FindingBudget) (c : Candidate) (verdict : Verdict)
      → IsFindingAmong counts accepts held s budget (Finding.Found c verdict) → IsCounted counts accepts s c × HasVerdict accepts held s c verdict
  found_has held budget c verdict is = (found_is_counted held budget c verdict is, verdict_of_found held c verdict (as_found held budget c verdict is))

  same_first : (c d : Candidate) → IsFirstCounted counts accepts s c → IsFirstCounted counts accepts s d → c ≡ d
  same_first c d one other =
      elim (ordered c d) [
        | inl before ↦ absurd (other.first c before one.is)
        | inr o ↦ elim o [ inl same ↦ same | inr after ↦ absurd (one.first d after other.is) ]
      ]

  -- a verdict on a path that counts by what one holds is that by what the other holds
  abbrev Carries : HeldFor → HeldFor → Type 0
  Carries held others = (c : Candidate) (verdict : Verdict) → IsCounted counts accepts s c → HasVerdict accepts held s c verdict → HasVerdict accepts others s c verdict

  module _ (held others : HeldFor) (there : Carries held others) (back : Carries others held) where
    clear_there : (c : Candidate) → counts c → HasVerdict accepts held s c Valid → HasVerdict accepts others s c Valid
    clear_there c counted has = there c Valid (clear_is_counted held c counted has) has

    clear_back : (c : Candidate) → counts c → HasVerdict accepts others s c Valid → HasVerdict accepts held s c Valid
    clear_back c counted has = back c Valid (clear_is_counted others c counted has) has

    same_clear : (c d : Candidate) → IsFirstClearAmong counts accepts held s c → IsFirstClearAmong counts accepts others s d → c ≡ d
    same_clear c d one other =
        elim (ordered c d) [
          | inl before ↦ absurd (other.first c before one.counted (clear_there c one.counted one.clear))
          | inr o ↦ elim o [
            | inl same ↦ same
            | inr after ↦ absurd (one.first d after other.counted (clear_back d other.counted other.clear))
          ]
        ]

    same_other : (c d : Candidate) (v w : Verdict) → IsFirstOtherAmong counts accepts held s c v → IsFirstOtherAmong counts accepts others s d w
        → Finding.Found c v ≡ Finding.Found d w
    same_other c d v w one other =
        let same : c ≡ d = same_first c d one.first other.first in
        let has : HasVerdict accepts others s d v = subst (λ (e : Candidate). HasVerdict accepts others s e v) same (there c v one.first.is one.has) in
        ap₂ Finding.Found same (one_verdict accepts _ _ v w has.verdict_is other.has.verdict_is)

    same_found : (c d : Candidate) (v w : Verdict) → IsFoundAs held c v → IsFoundAs others d w → Finding.Found c v ≡ Finding.Found d w
    same_found c d v w (inl one) (inl other) = ap₂ Finding.Found (same_clear c d one.1 other.1) (one.0 ∙ sym other.0)
    same_found c d v w (inl one) (inr other) = absurd (other.none c one.1.counted (clear_there c one.1.counted one.1.clear))
    same_found c d v w (inr one) (inl other) = absurd (one.none d other.1.counted (clear_back d other.1.counted other.1.clear))
    same_found c d v w (inr one) (inr other) = same_other c d v w one other

    pub same_finding : (budget more : FindingBudget) (one other : Finding) → IsFindingAmong counts accepts held s budget one
        → IsFindingAmong counts accepts others s more other → one ≢ Finding.GaveUp → other ≢ Finding.GaveUp → one ≡ other
    same_finding budget more (Finding.Found c v) (Finding.Found d w) f g ended others_ended =
        same_found c d v w (as_found held budget c v f) (as_found others more d w g)
    same_finding budget more (Finding.Found c v) Finding.NotFound f g ended others_ended = absurd (g c (found_is_counted held budget c v f))
    same_finding budget more Finding.NotFound (Finding.Found d w) f g ended others_ended = absurd (f d (found_is_counted others more d w g))
    same_finding budget more Finding.NotFound Finding.NotFound f g ended others_ended = refl
    same_finding budget more Finding.GaveUp other f g ended others_ended = absurd (ended refl)
    same_finding budget more (Finding.Found c v) Finding.GaveUp f g ended others_ended = absurd (others_ended refl)
    same_finding budget more Finding.NotFound Finding.GaveUp f g ended others_ended = absurd (others_ended refl)

module _ (counts : Accepts → Search → Candidate → Type 0) (ordered : CandidatesAreOrdered) (exact : ValidExactlyWhere) (one_verdict : VerdictIsOne) where
  pub found_counts : FoundIsCounted counts
  found_counts accepts held s budget c verdict = found_has ordered exact one_verdict (counts accepts s) accepts s held budget c verdict

  pub finding_is_one : FindingAmongIsOne counts
  finding_is_one accepts held s budget others one other =
      same_finding ordered exact one_verdict (counts accepts s) accepts s held held (λ c verdict counted has. has) (λ c verdict counted has. has) budget others one other

carried : PartiesAgree → (accepts : Accepts) (query : Query) (one other : Party) (verdict : Verdict) → HoldTheSameFor accepts query one other
    → IsVerdict accepts query one.held verdict → IsVerdict accepts query other.held verdict
carried agree accepts query one other verdict hold is =
    let theirs : IsVerdict accepts query other.held (verdict_of is.outcome query other.held) =
    record { outcome = is.outcome; is_outcome = is.is_outcome; verdict_is = refl } in
    record {
      outcome = is.outcome;
      is_outcome = is.is_outcome;
      verdict_is = agree query one other verdict (verdict_of is.outcome query other.held) (hold.judges ∙ sym hold.other_judges)
          hold.one_newest hold.other_newest hold.consistent hold.same
          (subst (λ a. IsVerdict a query one.held verdict) (sym hold.judges) is)
          (subst (λ a. IsVerdict a query other.held (verdict_of is.outcome query other.held)) (sym hold.other_judges) theirs);
    }

carried_back : PartiesAgree → (accepts : Accepts) (query : Query) (one other : Party) (verdict : Verdict) → HoldTheSameFor accepts query one other
    → IsVerdict accepts query other.held verdict → IsVerdict accepts query one.held verdict
carried_back agree accepts query one other verdict hold is =
    let ours : IsVerdict accepts query one.held (verdict_of is.outcome query one.held) =
    record { outcome = is.outcome; is_outcome = is.is_outcome; verdict_is = refl } in
    record {
      outcome = is.outcome;
      is_outcome = is.is_outcome;
      verdict_is = sym (agree query one other (verdict_of is.outcome query one.held) verdict (hold.judges ∙ sym hold.other_judges)
          hold.one_newest hold.other_newest hold.consistent hold.same
          (subst (λ a. IsVerdict a query one.held (verdict_of is.outcome query one.held)) (sym hold.judges) ours)
          (subst (λ a. IsVerdict a query other.held verdict) (sym hold.other_judges) is));
    }

pub parties_find_the_same : (counts : Accepts → Search → Candidate → Type 0) → PartiesAgree → CandidatesAreOrdered → ValidExactlyWhere → VerdictIsOne
    → PartiesFindTheSameAmong counts
parties_find_the_same counts agree ordered exact one_verdict accepts one other s budget others found other_found hold =
    same_finding ordered exact one_verdict (counts accepts s) accepts s (λ query. (one query).held) (λ query. (other query).held)
    (λ c verdict counted has. record { candidate = has.candidate; verdict_is = carried agree accepts _ _ _ verdict (hold c counted) has.verdict_is })
    (λ c verdict counted has. record { candidate = has.candidate; verdict_is = carried_back agree accepts _ _ _ verdict (hold c counted) has.verdict_is })
    budget others found other_found

-- A search has one finding, and two parties that hold the same newest find the same.
use Rattle.std.proofs.Common.{◌≡◌, ◌≢◌, ◌⊎◌, refl, sym, subst, ap₂, ◌∙◌, inl, inr}
use Rattle.path.specs.Query.{Query, Accepts}
use Rattle.path_issuers.specs.Search.{Search, Candidate, IsValidCandidate, CandidatesAreOrdered, FirstValidIsOne}
use Rattle.relying_agreement.specs.Agreement.{PartiesAgree}
use Rattle.relying_agreement.specs.Run.{Party}
use Rattle.relying_agreement.specs.Verdict.{IsVerdict, ValidExactlyWhere, VerdictIsOne, verdict_of}
use Rattle.relying_agreement.specs.declared.verdict.Verdict.{Verdict}
use Rattle.relying_agreement.specs.declared.verdict.Verdict.TheVariants.{Valid, Invalid, Revoked, Unknown}
use Rattle.relying_search.specs.Agreement.{HoldTheSameFor, PartiesFindTheSame}
use Rattle.relying_search.specs.Finding.{Finding, FindingIsOne, HasVerdict, HeldFor, IsFinding, IsFirstClear, IsFirstOther}
use Rattle.relying_search.specs.declared.finding.FindingBudget.{FindingBudget}
use Rattle.relying_search.proofs.Standing.{clear_is_valid}

-- a verdict on a valid path by what one holds is that by what the other holds
abbrev Carries : Accepts → Search → HeldFor → HeldFor → Type 0
Carries accepts s held others =
    (c : Candidate) (verdict : Verdict) → IsValidCandidate accepts s c → HasVerdict accepts held s c verdict → HasVerdict accepts others s c verdict

as_found : (accepts : Accepts) (held : HeldFor) (s : Search) (budget : FindingBudget) (c : Candidate) (verdict : Verdict)
    → IsFinding accepts held s budget (Finding.Found c verdict) → ((verdict ≡ Valid) × IsFirstClear accepts held s c) ⊎ IsFirstOther accepts held s c verdict
as_found accepts held s budget c Valid is = inl (refl, is)
as_found accepts held s budget c (Invalid j reason) is = inr is
as_found accepts held s budget c (Revoked j reason) is = inr is
as_found accepts held s budget c (Unknown j) is = inr is

module _ (ordered : CandidatesAreOrdered) (one_first : FirstValidIsOne) (exact : ValidExactlyWhere) (one_verdict : VerdictIsOne)
    (accepts : Accepts) (s : Search) where
  valid_of : (held : HeldFor) (budget : FindingBudget) (c : Candidate) (verdict : Verdict)
      → ((verdict ≡ Valid) × IsFirstClear accepts held s c) ⊎ IsFirstOther accepts held s c verdict → IsValidCandidate accepts s c
  valid_of held budget c verdict (inl is) = clear_is_valid exact accepts held s c is.1.clear
  valid_of held budget c verdict (inr is) = is.first.valid

  module _ (held others : HeldFor) (there : Carries accepts s held others) (back : Carries accepts s others held) where
    same_clear : (c d : Candidate) → IsFirstClear accepts held s c → IsFirstClear accepts others s d → c ≡ d
    same_clear c d one other =
        elim (ordered c d) [
          | inl before ↦ absurd (other.first c before (there c Valid (clear_is_valid exact accepts held s c one.clear) one.clear))
          | inr o ↦ elim o [
            | inl same ↦ same
            | inr after ↦ absurd (one.first d after (back d Valid (clear_is_valid exact accepts others s d other.clear) other.clear))
          ]
        ]

    same_other : (c d : Candidate) (v w : Verdict) → IsFirstOther accepts held s c v → IsFirstOther accepts others s d w → Finding.Found c v ≡ Finding.Found d w
    same_other c d v w one other =
        let same : c ≡ d = one_first accepts s c d one.first other.first in
        let has : HasVerdict accepts others s d v = subst (λ (e : Candidate). HasVerdict accepts others s e v) same (there c v one.first.valid one.has) in
        ap₂ Finding.Found same (one_verdict accepts _ _ v w has.verdict_is other.has.verdict_is)

    same_found : (c d : Candidate) (v w : Verdict)
        → ((v ≡ Valid) × IsFirstClear accepts held s c) ⊎ IsFirstOther accepts held s c v
        → ((w ≡ Valid) × IsFirstClear accepts others s d) ⊎ IsFirstOther accepts others s d w → Finding.Found c v ≡ Finding.Found d w
    same_found c d v w (inl one) (inl other) = ap₂ Finding.Found (same_clear c d one.1 other.1) (one.0 ∙ sym other.0)
    same_found c d v w (inl one) (inr other) =
        absurd (other.none c (there c Valid (clear_is_valid exact accepts held s c one.1.clear) one.1.clear))
    same_found c d v w (inr one) (inl other) =
        absurd (one.none d (back d Valid (clear_is_valid exact accepts others s d other.1.clear) other.1.clear))
    same_found c d v w (inr one) (inr other) = same_other c d v w one other

    pub same_finding : (budget more : FindingBudget) (one other : Finding) → IsFinding accepts held s budget one → IsFinding accepts others s more other
        → one ≢ Finding.GaveUp → other ≢ Finding.GaveUp → one ≡ other
    same_finding budget more (Finding.Found c v) (Finding.Found d w) f g ended others_ended =
        same_found c d v w (as_found accepts held s budget c v f) (as_found accepts others s more d w g)
    same_finding budget more (Finding.Found c v) Finding.NotFound f g ended others_ended =
        absurd (g c (valid_of held budget c v (as_found accepts held s budget c v f)))
    same_finding budget more Finding.NotFound (Finding.Found d w) f g ended others_ended =
        absurd (f d (valid_of others more d w (as_found accepts others s more d w g)))
    same_finding budget more Finding.NotFound Finding.NotFound f g ended others_ended = refl
    same_finding budget more Finding.GaveUp other f g ended others_ended = absurd (ended refl)
    same_finding budget more (Finding.Found c v) Finding.GaveUp f g ended others_ended = absurd (others_ended refl)
    same_finding budget more Finding.NotFound Finding.GaveUp f g ended others_ended = absurd (others_ended refl)

pub finding_is_one : CandidatesAreOrdered → FirstValidIsOne → ValidExactlyWhere → VerdictIsOne → FindingIsOne
finding_is_one ordered one_first exact one_verdict accepts held s budget others one other =
    same_finding ordered one_first exact one_verdict accepts s held held (λ c verdict valid has. has) (λ c verdict valid has. has) budget others one other

carried : PartiesAgree → (accepts : Accepts) (query : Query) (one other : Party) (verdict : Verdict) → HoldTheSameFor accepts query one other
    → IsVerdict accepts query one.held verdict → IsVerdict accepts query other.held verdict
carried agree accepts query one other verdict hold is =
    let theirs : IsVerdict accepts query other.held (verdict_of is.outcome query other.held) =
    record { outcome = is.outcome; is_outcome = is.is_outcome; verdict_is = refl } in
    record {
      outcome = is.outcome;
      is_outcome = is.is_outcome;
      verdict_is = agree query one other verdict (verdict_of is.outcome query other.held) (hold.judges ∙ sym hold.other_judges)
          hold.one_newest hold.other_newest hold.consistent hold.same
          (subst (λ a. IsVerdict a query one.held verdict) (sym hold.judges) is)
          (subst (λ a. IsVerdict a query other.held (verdict_of is.outcome query other.held)) (sym hold.other_judges) theirs);
    }

carried_back : PartiesAgree → (accepts : Accepts) (query : Query) (one other : Party) (verdict : Verdict) → HoldTheSameFor accepts query one other
    → IsVerdict accepts query other.held verdict → IsVerdict accepts query one.held verdict
carried_back agree accepts query one other verdict hold is =
    let ours : IsVerdict accepts query one.held (verdict_of is.outcome query one.held) =
    record { outcome = is.outcome; is_outcome = is.is_outcome; verdict_is = refl } in
    record {
      outcome = is.outcome;
      is_outcome = is.is_outcome;
      verdict_is = sym (agree query one other (verdict_of is.outcome query one.held) verdict (hold.judges ∙ sym hold.other_judges)
          hold.one_newest hold.other_newest hold.consistent hold.same
          (subst (λ a. IsVerdict a query one.held (verdict_of is.outcome query one.held)) (sym hold.judges) ours)
          (subst (λ a. IsVerdict a query other.held verdict) (sym hold.other_judges) is));
    }

pub parties_find_the_same : PartiesAgree → CandidatesAreOrdered → FirstValidIsOne → ValidExactlyWhere → VerdictIsOne → PartiesFindTheSame
parties_find_the_same agree ordered one_first exact one_verdict accepts one other s budget others found other_found hold =
    same_finding ordered one_first exact one_verdict accepts s (λ query. (one query).held) (λ query. (other query).held)
    (λ c verdict valid has. record { candidate = has.candidate; verdict_is = carried agree accepts _ _ _ verdict (hold c valid) has.verdict_is })
    (λ c verdict valid has. record { candidate = has.candidate; verdict_is = carried_back agree accepts _ _ _ verdict (hold c valid) has.verdict_is })
    budget others found other_found

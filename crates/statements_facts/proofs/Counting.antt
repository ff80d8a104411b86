-- The counts of a delivery, fact by fact.
use Rattle.std.proofs.Common.{◌≡◌, ◌≢◌, ℕ, ◌+◌, List, [], ◌∷◌, ◌++◌, inl, inr, refl, sym, ap, subst, ◌∙◌, arith, if◌then◌else◌}
use Rattle.std.proofs.lemmas.Bool.{cases_Bool}
use Rattle.statements_facts.specs.Statement.{Holdings}
use Rattle.statements_facts.specs.Fact.{Fact}
use Rattle.statements_facts.specs.declared.counts.TakenAs.{TakenAs}
use Rattle.statements_facts.specs.declared.counts.TakenAs.TheVariants.{Stored, Kept, Contradicted}
use Rattle.statements_facts.specs.declared.counts.Counts.{Counts}
use Rattle.statements_facts.specs.Newest.{newer_crl, newer_ocsp}
use Rattle.statements_facts.specs.Coming.{is_stored, IsTakenAs, ComeTo, after_one, after_all, same_outcome, how_often, count_taken_as, AreCounts, KeptLeaveAll}
use Rattle.statements_facts.proofs.ComingLaws.{comes_as_one, takes_both}

pub one_more_taken : (held : Holdings) (facts : List Fact) (fact : Fact) → after_one (after_all held facts) fact ≡ after_all held (facts ++ fact ∷ [])
one_more_taken held facts fact = takes_both held facts (fact ∷ [])

comes_then : (held : Holdings) (facts : List Fact) (outcomes : List TakenAs) (fact : Fact) (outcome : TakenAs) → ComeTo held facts outcomes → IsTakenAs (after_all held facts) fact outcome
    → ComeTo held (facts ++ fact ∷ []) (outcomes ++ outcome ∷ [])
comes_then held [] [] fact outcome so one = (one, tt)
comes_then held (f ∷ facts) (o ∷ outcomes) fact outcome so one = (so.0, comes_then (after_one held f) facts outcomes fact outcome so.1 one)
comes_then held [] (o ∷ outcomes) fact outcome so one = absurd so
comes_then held (f ∷ facts) [] fact outcome so one = absurd so

one_more_often : (each : TakenAs) (outcomes : List TakenAs) (outcome : TakenAs) → how_often each (outcomes ++ outcome ∷ []) ≡ how_often each outcomes + (if same_outcome each outcome then 1 else 0)
one_more_often each [] outcome = refl
one_more_often each (o ∷ outcomes) outcome =
    let more = one_more_often each outcomes outcome in
    ap (λ n. n + (if same_outcome each o then 1 else 0)) more ∙ turned (how_often each outcomes) (if same_outcome each outcome then 1 else 0) (if same_outcome each o then 1 else 0)
  where
    turned : (a b c : ℕ) → (a + b) + c ≡ (a + c) + b
    turned a b c = omega arith

pub nothing_counted : (held : Holdings) (counts : Counts) → ((outcome : TakenAs) → count_taken_as outcome counts ≡ 0) → AreCounts held [] counts
nothing_counted held counts none = record { outcomes = []; come = tt; counted = none }

pub one_more_counted : (held : Holdings) (facts : List Fact) (counts after : Counts) (fact : Fact) (outcome : TakenAs) → AreCounts held facts counts → IsTakenAs (after_all held facts) fact outcome
    → ((each : TakenAs) → count_taken_as each after ≡ count_taken_as each counts + (if same_outcome each outcome then 1 else 0)) → AreCounts held (facts ++ fact ∷ []) after
one_more_counted held facts counts after fact outcome so one added = record {
  outcomes = so.outcomes ++ outcome ∷ [];
  come = comes_then held facts so.outcomes fact outcome so.come one;
  counted = λ each. added each ∙ ap (λ n. n + (if same_outcome each outcome then 1 else 0)) (so.counted each) ∙ sym (one_more_often each so.outcomes outcome);
}

-- ---- one fact

pub left_out : (held : Holdings) (fact : Fact) (outcome : TakenAs) → outcome ≢ Stored → IsTakenAs held fact outcome → after_one held fact ≡ held
left_out held (Fact.OfCrl slot fact) outcome other comes = elim (cases_Bool (is_stored newer_crl (held.crl slot) fact)) [
  | inl stored ↦ absurd (other (comes_as_one held (Fact.OfCrl slot fact) outcome Stored comes stored))
  | inr left ↦ rw left refl
]
left_out held (Fact.OfResponse slot fact) outcome other comes = elim (cases_Bool (is_stored newer_ocsp (held.ocsp slot) fact)) [
  | inl stored ↦ absurd (other (comes_as_one held (Fact.OfResponse slot fact) outcome Stored comes stored))
  | inr left ↦ rw left refl
]

none_stored : (n : ℕ) (outcome : TakenAs) → n + (if same_outcome Stored outcome then 1 else 0) ≡ 0 → (outcome ≢ Stored) × (n ≡ 0)
none_stored n Stored none = absurd (omega arith)
none_stored n Kept none = (λ e. cc, omega arith)
none_stored n Contradicted none = (λ e. cc, omega arith)

leave_all : (held : Holdings) (facts : List Fact) (outcomes : List TakenAs) → ComeTo held facts outcomes → how_often Stored outcomes ≡ 0 → after_all held facts ≡ held
leave_all held [] [] so none = refl
leave_all held (fact ∷ facts) (outcome ∷ outcomes) so none =
    let other = none_stored (how_often Stored outcomes) outcome none in
    let stays = left_out held fact outcome other.0 so.0 in
    ap (λ h. after_all h facts) stays ∙ leave_all held facts outcomes (subst (λ h. ComeTo h facts outcomes) stays so.1) other.1
leave_all held [] (outcome ∷ outcomes) so none = absurd so
leave_all held (fact ∷ facts) [] so none = absurd so

pub kept_leave_all : KeptLeaveAll
kept_leave_all held facts counts are none = leave_all held facts are.outcomes are.come (sym (are.counted Stored) ∙ none)

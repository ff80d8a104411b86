-- A comparison has one answer; where verdicts differ, some certificate's answers do.
use Rattle.std.proofs.Common.{◌≡◌, ◌⊎◌, ℕ, false, List, [], ◌∷◌, ◌++◌, refl, sym, ap, subst, ◌∙◌, inl, inr}
use Rattle.std.specs.List.{AllByRecursion}
use Rattle.std.proofs.lemmas.Bool.{cases_Bool}
use Rattle.std.proofs.lemmas.Bool.Decides.{not_from_Decides}
use Rattle.statements_facts.specs.Statement.{Holdings}
use Rattle.path.specs.declared.reason.Outcome.TheVariants.{Good, Bad}
use Rattle.path.specs.Query.{Query}
use Rattle.path.specs.Validity.{OutcomeIsOne}
use Rattle.relying_agreement.specs.declared.verdict.Verdict.{Verdict}
use Rattle.relying_agreement.specs.declared.verdict.Verdict.TheVariants.{Invalid}
use Rattle.relying_agreement.specs.declared.verdict.Comparison.{Comparison}
use Rattle.relying_agreement.specs.declared.verdict.Comparison.TheVariants.{Same, Differ}
use Rattle.relying_agreement.specs.Link.{Link, links_of}
use Rattle.relying_agreement.specs.Status.{answers_of}
use Rattle.relying_agreement.specs.Verdict.{verdict_of, evidence_on, first_revoked, first_uncovered}
use Rattle.relying_agreement.specs.Comparison.{HoldSameOf, IsFirstDifference, Compares, ComparisonExists, ComparisonIsOne, NeverDiffers}
use Rattle.relying_agreement.proofs.Tests.{same_verdict, verdict_decides, same_answers, answers_decide}
use Rattle.relying_agreement.proofs.ValidLaws.{is_invalid, never_invalid}
use Rattle.relying_agreement.proofs.VerdictLaws.{same_verdicts, verdict_is_one}
use Rattle.relying_agreement.proofs.AgreementLaws.{held_agree}

abbrev first_or : Link → List Link → Link
first_or other [] = other
first_or other (link ∷ links) = link

abbrev rest_of : List Link → List Link
rest_of [] = []
rest_of (link ∷ links) = links

module _ (one other : Holdings) where
  -- all are the same, or there is a first that is not
  same_or_differ : (links : List Link) → AllByRecursion (HoldSameOf one other) links ⊎ ((j : ℕ) × IsFirstDifference one other links j)
  same_or_differ [] = inl tt
  same_or_differ (link ∷ links) = elim (cases_Bool (same_answers (answers_of one link) (answers_of other link))) [
    | inl same ↦ let is : HoldSameOf one other link = (answers_decide (answers_of one link) (answers_of other link)).0 same in
        elim (same_or_differ links) [
          | inl all ↦ inl (is, all)
          | inr (j, d) ↦ inr (j, record { before = link ∷ d.before; link = d.link; after = d.after; is = ap (λ xs. link ∷ xs) d.is; number = d.number; same_before = (is, d.same_before); differs = d.differs })
        ]
    | inr apart ↦ inr (link.number, record { before = []; link = link; after = links; is = refl; number = refl; same_before = tt; differs = not_from_Decides _ (answers_decide (answers_of one link) (answers_of other link)) apart })
  ]

  -- the first that is not the same is one
  one_place : (xs ys : List Link) (x y : Link) (after_x after_y : List Link) → xs ++ x ∷ after_x ≡ ys ++ y ∷ after_y
      → AllByRecursion (HoldSameOf one other) xs → AllByRecursion (HoldSameOf one other) ys
      → (HoldSameOf one other x → ⊥) → (HoldSameOf one other y → ⊥) → x ≡ y
  one_place [] [] x y after_x after_y is all_x all_y not_x not_y = ap (first_or x) is
  one_place [] (b ∷ ys) x y after_x after_y is all_x all_y not_x not_y = absurd (not_x (subst (HoldSameOf one other) (sym (ap (first_or x) is)) all_y.0))
  one_place (a ∷ xs) [] x y after_x after_y is all_x all_y not_x not_y = absurd (not_y (subst (HoldSameOf one other) (ap (first_or x) is) all_x.0))
  one_place (a ∷ xs) (b ∷ ys) x y after_x after_y is all_x all_y not_x not_y = one_place xs ys x y after_x after_y (ap rest_of is) all_x.1 all_y.1 not_x not_y

  pub one_difference : (links : List Link) (j k : ℕ) → IsFirstDifference one other links j → IsFirstDifference one other links k → j ≡ k
  one_difference links j k d e =
      d.number
      ∙ ap (λ (link : Link). link.number) (one_place d.before e.before d.link e.link d.after e.after (sym d.is ∙ e.is) d.same_before e.same_before d.differs e.differs)
      ∙ sym e.number

  module _ (query : Query) where
    pub only_same : (v w : Verdict) → v ≡ w → (c : Comparison) → Compares v w one other query c → c ≡ Same v
    only_same v w same (Same both) is = ap Same (sym is.0)
    only_same v w same (Differ first second j) is = absurd (is.2 same)

    only_differ : (v w : Verdict) → (v ≡ w → ⊥) → (j : ℕ) → IsFirstDifference one other (links_of query) j → (c : Comparison) → Compares v w one other query c → c ≡ Differ v w j
    only_differ v w apart j d (Same both) is = absurd (apart (is.0 ∙ sym is.1))
    only_differ v w apart j d (Differ first second k) is = let same : k ≡ j = one_difference (links_of query) k j is.3 d in
        λ i. Differ (is.0 i) (is.1 i) (same i)

    one_comparison : (v w : Verdict) (c d : Comparison) → Compares v w one other query c → Compares v w one other query d → c ≡ d
    one_comparison v w c (Same both) is_c is_d = only_same v w (is_d.0 ∙ sym is_d.1) c is_c ∙ ap Same is_d.0
    one_comparison v w c (Differ first second j) is_c is_d =
        let a : v ≡ first = sym is_d.0 in
        let b : w ≡ second = sym is_d.1 in
        only_differ v w is_d.2 j is_d.3 c is_c ∙ (λ i. Differ (a i) (b i) j)

pub on_valid_path : (query : Query) (held : Holdings) → is_invalid (verdict_of Good query held) ≡ false
on_valid_path query held = never_invalid (first_revoked query.moment (evidence_on held query)) (first_uncovered query.moment (evidence_on held query))

pub comparison_exists : ComparisonExists
comparison_exists (Bad j reason) query one other =
    record { answer = Same (Invalid j reason); compares = (refl, refl); only = only_same one other query (Invalid j reason) (Invalid j reason) refl }
comparison_exists Good query one other =
    let v : Verdict = verdict_of Good query one in
    let w : Verdict = verdict_of Good query other in
    elim (cases_Bool (same_verdict v w)) [
      | inl passed ↦ let same : v ≡ w = (verdict_decides v w (on_valid_path query one) (on_valid_path query other)).0 passed in
          record { answer = Same v; compares = (refl, sym same); only = only_same one other query v w same }
      | inr failed ↦ let apart : v ≡ w → ⊥ = not_from_Decides _ (verdict_decides v w (on_valid_path query one) (on_valid_path query other)) failed in
          elim (same_or_differ one other (links_of query)) [
            | inl all ↦ absurd (apart (same_verdicts Good query one other all))
            | inr (j, d) ↦ record { answer = Differ v w j; compares = (refl, refl, apart, d); only = only_differ one other query v w apart j d }
          ]
    ]

pub comparison_is_one : OutcomeIsOne → ComparisonIsOne
comparison_is_one one_outcome accepts query one other c d is_c is_d =
    let same_v : is_d.v ≡ is_c.v = verdict_is_one one_outcome accepts query one is_d.v is_c.v is_d.is_v is_c.is_v in
    let same_w : is_d.w ≡ is_c.w = verdict_is_one one_outcome accepts query other is_d.w is_c.w is_d.is_w is_c.is_w in
    one_comparison one other query is_c.v is_c.w c d is_c.compares
    (subst (λ v. Compares v is_c.w one other query d) same_v (subst (λ w. Compares is_d.v w one other query d) same_w is_d.compares))

pub never_differs : OutcomeIsOne → NeverDiffers
never_differs one_outcome accepts query one other c v consistent newest is is_v =
    only_same one other query is.v is.w (held_agree one_outcome accepts query one other is.v is.w consistent newest is.is_v is.is_w) c is.compares
    ∙ ap Same (verdict_is_one one_outcome accepts query one is.v v is.is_v is_v)

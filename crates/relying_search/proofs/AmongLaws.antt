-- What a step of a search for a verdict among the paths that count does, by what its calls say.
use Rattle.std.proofs.Common.{◌≡◌, ◌≢◌, ◌⊎◌, ℕ, ◌+◌, ◌≤◌, Bool, true, false, Option, Some, None, refl, sym, subst, ◌∙◌, true≢false, inl, inr}
use Rattle.path.specs.Query.{Accepts}
use Rattle.path_issuers.specs.Search.{Search, Candidate, IsValidCandidate, CandidatesAreOrdered}
use Rattle.path_search.specs.Answer.{IsNextValid, HasNoMore, seen_candidate}
use Rattle.path_search.specs.Paths.{AnswersNext, ArePaths, IsNextAnswer}
use Rattle.path_search.specs.declared.paths.Paths.{Paths}
use Rattle.path_search.specs.declared.answer.Candidate as path
use Rattle.path_search.specs.declared.answer.Answer.{Answer}
use Rattle.path_search.specs.declared.answer.Answer.TheVariants as A
use Rattle.relying_agreement.specs.Verdict.{ValidExactlyWhere, VerdictIsOne}
use Rattle.relying_agreement.specs.declared.verdict.Verdict.{Verdict}
use Rattle.relying_agreement.specs.declared.verdict.Verdict.TheVariants.{Valid, Invalid, Revoked, Unknown}
use Rattle.relying_search.specs.Asked.{found_first}
use Rattle.relying_search.specs.Finding.{Finding, HasVerdict, HeldFor, seen_finding}
use Rattle.relying_search.specs.declared.finding.Finding as code
use Rattle.relying_search.specs.declared.finding.Finding.TheVariants as C
use Rattle.relying_search.specs.declared.finding.FindingBudget.{FindingBudget}
use Rattle.relying_search.specs.Among.{FindingAmongIsOne, FoundIsCounted, IsFindingAmong}
use Rattle.relying_search.specs.AskedAmong.{AsksAbout, EndsAfter, GoesOnOrEndsAmong, IsFoundAfter, Notes, StandsAtAmong, StepsAmong, StepsToAmong}
use Rattle.relying_search.specs.Filter.{TellsWhether}
use Rattle.relying_search.specs.declared.among_asked.AskedAmong.{AskedAmong}
use Rattle.relying_search.proofs.AmongStanding as standing
use Rattle.relying_search.proofs.AmongSame as same

module _ (counts : Accepts → Search → Candidate → Type 0) (ordered : CandidatesAreOrdered) (exact : ValidExactlyWhere) (one_verdict : VerdictIsOne) where
  pub found_counts : FoundIsCounted counts
  found_counts = same.found_counts counts ordered exact one_verdict

  pub finding_is_one : FindingAmongIsOne counts
  finding_is_one = same.finding_is_one counts ordered exact one_verdict

module _ (counts : Candidate → Type 0) (accepts : Accepts) (held : HeldFor) (s : Search) where
  pub stands_first : (asked : AskedAmong) → asked.first ≡ None → StandsAtAmong counts accepts held s None 0 asked
  stands_first asked is = standing.stands_first counts accepts held s asked is

  asked_about : (budget : FindingBudget) (last : Option Candidate) (c : Candidate) (count : ℕ) (next : Paths) (new : AskedAmong) (answer : Option code.Finding)
      → IsNextValid accepts s last c → ArePaths accepts s budget.search (Some c) next → GoesOnOrEndsAmong counts accepts held s c count new answer
      → StepsToAmong counts accepts held s budget last count next new answer
  asked_about budget last c count next new None is paths goes = (c, is, paths, goes)
  asked_about budget last c count next new (Some finding) is paths ends = ends budget

  -- a further path was found, and asked about
  pub steps_found : (paths next : Paths) (asked new : AskedAmong) (c : path.Candidate) (answer : Option code.Finding)
      → AnswersNext paths next (A.Found c)
      → (IsValidCandidate accepts s (seen_candidate c) → AsksAbout counts accepts held s asked new (seen_candidate c) answer)
      → StepsAmong counts accepts held s paths asked next new answer
  steps_found paths next asked new c answer answers asks budget last count are stands =
      let it = answers accepts s budget.search last are in
      asked_about budget last (seen_candidate c) (count + 1) next new answer it.0 it.1 (asks it.0.valid last count stands it.0)

  -- the search for valid paths gave up
  pub steps_gave_up : (paths next : Paths) (asked new : AskedAmong) → AnswersNext paths next A.GaveUp
      → StepsAmong counts accepts held s paths asked next new (Some C.GaveUp)
  steps_gave_up paths next asked new answers budget last count are stands = inl (answers accepts s budget.search last are).0

module _ (ordered : CandidatesAreOrdered) (exact : ValidExactlyWhere) (one_verdict : VerdictIsOne)
    (counts : Candidate → Type 0) (accepts : Accepts) (held : HeldFor) (s : Search) where
  -- the path does not count
  asks_passed : (asked : AskedAmong) (c : Candidate) → ¬ counts c → AsksAbout counts accepts held s asked asked c None
  asks_passed asked c not last count stands next = standing.passed_over ordered exact one_verdict counts accepts held s last count asked c stands next not

  is_valid_or_not : (verdict : Verdict) → (verdict ≡ Valid) ⊎ (verdict ≢ Valid)
  is_valid_or_not Valid = inl refl
  is_valid_or_not (Invalid j reason) = inr (λ e. cc)
  is_valid_or_not (Revoked j reason) = inr (λ e. cc)
  is_valid_or_not (Unknown j) = inr (λ e. cc)

  -- it counts, and its verdict was noted
  asks_noted : (asked new : AskedAmong) (c : path.Candidate) (verdict : Verdict) (answer : Option code.Finding) → counts (seen_candidate c)
      → HasVerdict accepts held s (seen_candidate c) verdict → Notes asked new c verdict answer
      → AsksAbout counts accepts held s asked new (seen_candidate c) answer
  asks_noted asked new c verdict answer counted has notes last count stands next =
      elim (is_valid_or_not verdict) [
        | inl clear ↦
            subst (GoesOnOrEndsAmong counts accepts held s (seen_candidate c) (count + 1) new) (sym (notes.ends clear)) (λ budget.
            standing.found_clear counts accepts held s budget (seen_candidate c) verdict clear
            (standing.first_clear ordered exact one_verdict counts accepts held s last count asked (seen_candidate c) stands next counted
            (subst (HasVerdict accepts held s (seen_candidate c)) clear has)))
        | inr other ↦
            subst (GoesOnOrEndsAmong counts accepts held s (seen_candidate c) (count + 1) new) (sym (notes.goes_on other).0)
            (standing.noted ordered exact one_verdict counts accepts held s last count asked new c verdict (notes.goes_on other).1 stands next counted has other)
      ]

  ends : (last : Option Candidate) (count : ℕ) (budget : FindingBudget) (asked : AskedAmong) (finding : code.Finding)
      → StandsAtAmong counts accepts held s last count asked → HasNoMore accepts s last → seen_finding finding ≡ found_first asked.first
      → IsFindingAmong counts accepts held s budget (seen_finding finding)
  ends last count budget asked finding stands none is =
      subst (IsFindingAmong counts accepts held s budget) (sym is) (standing.ended ordered exact one_verdict counts accepts held s last count budget asked stands none)

  -- no further path is valid
  pub steps_ended : (paths next : Paths) (asked new : AskedAmong) (finding : code.Finding) → AnswersNext paths next A.NotFound
      → seen_finding finding ≡ found_first asked.first → StepsAmong counts accepts held s paths asked next new (Some finding)
  steps_ended paths next asked new finding answers is budget last count are stands =
      ends last count budget asked finding stands (answers accepts s budget.search last are).0 is

  -- no further path may be asked about
  pub ends_behind : (paths : Paths) (asked : AskedAmong) (finding : code.Finding) (budget : FindingBudget) (last : Option Candidate) (count : ℕ)
      → EndsAfter paths asked finding → ArePaths accepts s budget.search last paths → StandsAtAmong counts accepts held s last count asked
      → budget.verdicts ≤ count → IsFindingAmong counts accepts held s budget (seen_finding finding)
  ends_behind paths asked finding budget last count after are stands all =
      by after.answer (after.answers accepts s budget.search last are).0 after.found
    where
      by : (answer : Answer) → IsNextAnswer accepts s budget.search last answer → IsFoundAfter asked answer finding
          → IsFindingAmong counts accepts held s budget (seen_finding finding)
      by A.NotFound none is = ends last count budget asked finding stands none is
      by (A.Found c) next is =
          subst (λ f. IsFindingAmong counts accepts held s budget (seen_finding f)) (sym is)
          (inr (standing.more_than counts accepts held s last count asked (seen_candidate c) budget.verdicts stands next all))
      by A.GaveUp used is = subst (λ f. IsFindingAmong counts accepts held s budget (seen_finding f)) (sym is) (inl used)

-- the same by what a filter tells
module _ (ordered : CandidatesAreOrdered) (exact : ValidExactlyWhere) (one_verdict : VerdictIsOne)
    (counts : Accepts → Search → Candidate → Type 0) (accepts : Accepts) (held : HeldFor) (s : Search) where
  pub asks_refused : (asked : AskedAmong) (c : Candidate) (told : Bool) → TellsWhether counts s c told → told ≡ false → IsValidCandidate accepts s c
      → AsksAbout (counts accepts s) accepts held s asked asked c None
  asks_refused asked c told tells is valid =
      asks_passed ordered exact one_verdict (counts accepts s) accepts held s asked c (λ counted. true≢false (sym ((tells accepts valid).1 counted) ∙ is))

  pub asks_let_pass : (asked new : AskedAmong) (c : path.Candidate) (told : Bool) (verdict : Verdict) (answer : Option code.Finding)
      → TellsWhether counts s (seen_candidate c) told → told ≡ true → IsValidCandidate accepts s (seen_candidate c)
      → HasVerdict accepts held s (seen_candidate c) verdict → Notes asked new c verdict answer
      → AsksAbout (counts accepts s) accepts held s asked new (seen_candidate c) answer
  asks_let_pass asked new c told verdict answer tells is valid has notes =
      asks_noted ordered exact one_verdict (counts accepts s) accepts held s asked new c verdict answer ((tells accepts valid).0 is) has notes

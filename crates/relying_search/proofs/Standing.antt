-- Where a search for a verdict stands, and what is found then.
use Rattle.std.proofs.Common.{◌≡◌, ◌≢◌, ◌⊎◌, ◌+◌, ◌≤◌, ℕ, List, [], ◌∷◌, Option, Some, None, arith, refl, sym, subst, ◌∙◌, inl, inr}
use Rattle.std.specs.Option.{option_or}
use Rattle.path.specs.Query.{Accepts}
use Rattle.path_issuers.specs.Search.{Search, Candidate, IsBefore, IsValidCandidate, CandidatesAreOrdered}
use Rattle.path_search.specs.Answer.{IsAfter, IsNextValid, HasNoMore, seen_candidate}
use Rattle.path_search.specs.Paths.{AnswersNext, IsNextAnswer}
use Rattle.path_search.specs.declared.answer.Answer.{Answer}
use Rattle.path_search.specs.declared.answer.Answer.TheVariants as A
use Rattle.path_search.specs.declared.answer.Candidate as path
use Rattle.path_search.specs.declared.paths.Paths.{Paths}
use Rattle.relying_agreement.specs.Verdict.{ValidExactlyWhere, VerdictIsOne}
use Rattle.relying_agreement.specs.declared.verdict.Verdict.{Verdict}
use Rattle.relying_agreement.specs.declared.verdict.Verdict.TheVariants.{Valid, Invalid, Revoked, Unknown}
use Rattle.relying_search.specs.Finding.{AreDescending, Finding, HasMoreThan, HasNoClear, HasVerdict, HeldFor, IsFinding, IsFirstClear, IsFirstOther, seen_finding}
use Rattle.relying_search.specs.declared.finding.Finding as code
use Rattle.relying_search.specs.declared.finding.Finding.TheVariants as C
use Rattle.relying_search.specs.Asked.{BeginsWith, Ends, EndsBehind, FoundBehind, IsFirstAsked, IsUpTo, StandsAt, WasAsked, WereAsked, found_first}
use Rattle.relying_search.specs.declared.asked.Asked.{Asked}
use Rattle.relying_search.specs.declared.finding.FindingBudget.{FindingBudget}

pub clear_is_valid : ValidExactlyWhere → (accepts : Accepts) (held : HeldFor) (s : Search) (c : Candidate) → HasVerdict accepts held s c Valid → IsValidCandidate accepts s c
clear_is_valid exact accepts held s c has = record { candidate = has.candidate; valid = ((exact accepts _ _).0 has.verdict_is).0 }

-- a verdict other than Valid is found as the first valid path has it
pub found_other : (accepts : Accepts) (held : HeldFor) (s : Search) (budget : FindingBudget) (c : Candidate) (verdict : Verdict)
    → verdict ≢ Valid → IsFirstOther accepts held s c verdict → IsFinding accepts held s budget (Finding.Found c verdict)
found_other accepts held s budget c Valid other is = absurd (other refl)
found_other accepts held s budget c (Invalid j reason) other is = is
found_other accepts held s budget c (Revoked j reason) other is = is
found_other accepts held s budget c (Unknown j) other is = is

pub found_clear : (accepts : Accepts) (held : HeldFor) (s : Search) (budget : FindingBudget) (c : Candidate) (verdict : Verdict)
    → verdict ≡ Valid → IsFirstClear accepts held s c → IsFinding accepts held s budget (Finding.Found c verdict)
found_clear accepts held s budget c verdict is clear = subst (λ v. IsFinding accepts held s budget (Finding.Found c v)) (sym is) clear

-- a path that is found in the end was asked about
pub was_asked : (asked : Asked) (finding : code.Finding) (first : Option (path.Candidate × Verdict)) → asked.first ≡ first
    → seen_finding finding ≡ found_first first → WasAsked asked finding
was_asked asked (C.Found c verdict) None is found = absurd cc
was_asked asked (C.Found c verdict) (Some it) is found = λ none. let e : None ≡ Some it = sym none ∙ is in absurd cc
was_asked asked C.NotFound None is found = is
was_asked asked C.NotFound (Some it) is found = absurd cc
was_asked asked C.GaveUp None is found = absurd cc
was_asked asked C.GaveUp (Some it) is found = absurd cc

-- the next one comes before none of those in front
descends : (last : Option Candidate) (c : Candidate) (candidates : List Candidate) → IsAfter last c → BeginsWith last candidates → AreDescending candidates
    → AreDescending (c ∷ candidates)
descends None c [] after begins descending = tt
descends None c (next ∷ more) after begins descending = absurd cc
descends (Some last) c [] after begins descending = tt
descends (Some last) c (next ∷ more) after begins descending = (subst (λ (one : Candidate). IsBefore one c) (sym begins) after, descending)

module _ (ordered : CandidatesAreOrdered) (exact : ValidExactlyWhere) (one_verdict : VerdictIsOne)
    (accepts : Accepts) (held : HeldFor) (s : Search) where
  up_to_or_after : (last : Option Candidate) (c : Candidate) → IsUpTo last c ⊎ IsAfter last c
  up_to_or_after None c = inr tt
  up_to_or_after (Some last) c =
      elim (ordered c last) [
        | inl before ↦ inl (inl before)
        | inr o ↦ elim o [ inl same ↦ inl (inr same) | inr after ↦ inr after ]
      ]

  none_before : (last : Option Candidate) (count : ℕ) (asked : Asked) (c : Candidate) → StandsAt accepts held s last count asked → IsNextValid accepts s last c
      → (other : Candidate) → IsBefore other c → ¬ HasVerdict accepts held s other Valid
  none_before last count asked c stands next other before has =
      elim (up_to_or_after last other) [
        | inl up ↦ stands.none other up has
        | inr after ↦ next.first other after before (clear_is_valid exact accepts held s other has)
      ]

  -- the next one has the verdict Valid
  pub first_clear : (last : Option Candidate) (count : ℕ) (asked : Asked) (c : Candidate) → StandsAt accepts held s last count asked → IsNextValid accepts s last c
      → HasVerdict accepts held s c Valid → IsFirstClear accepts held s c
  first_clear last count asked c stands next has = record { clear = has; first = none_before last count asked c stands next }

  -- it has another
  none_up_to : (last : Option Candidate) (count : ℕ) (asked : Asked) (c : Candidate) (verdict : Verdict) → StandsAt accepts held s last count asked
      → IsNextValid accepts s last c → HasVerdict accepts held s c verdict → verdict ≢ Valid → (other : Candidate) → IsUpTo (Some c) other
      → ¬ HasVerdict accepts held s other Valid
  none_up_to last count asked c verdict stands next has another other (inl before) clear = none_before last count asked c stands next other before clear
  none_up_to last count asked c verdict stands next has another other (inr same) clear =
      let here : HasVerdict accepts held s c Valid = subst (λ (one : Candidate). HasVerdict accepts held s one Valid) same clear in
      another (one_verdict accepts _ _ verdict Valid has.verdict_is here.verdict_is)

  were_asked : (last : Option Candidate) (count : ℕ) (c : Candidate) (verdict : Verdict) → WereAsked accepts held s last count
      → IsNextValid accepts s last c → HasVerdict accepts held s c verdict → verdict ≢ Valid → WereAsked accepts held s (Some c) (count + 1)
  were_asked last count c verdict were next has another = record {
    candidates = c ∷ were.candidates;
    begins = refl;
    each = (record { verdict = verdict; valid = next.valid; has = has; other = another }, were.each);
    descending = descends last c were.candidates next.after were.begins were.descending;
    counted = let counted = were.counted in omega (arith, counted);
  }

  pub noted : (last : Option Candidate) (count : ℕ) (old new : Asked) (c : path.Candidate) (verdict : Verdict) (first : Option (path.Candidate × Verdict))
      → old.first ≡ first → new.first ≡ option_or first (Some (c, verdict)) → StandsAt accepts held s last count old → IsNextValid accepts s last (seen_candidate c)
      → HasVerdict accepts held s (seen_candidate c) verdict → verdict ≢ Valid → StandsAt accepts held s (Some (seen_candidate c)) (count + 1) new
  noted None count old new c verdict None was is stands next has another = record {
    first = subst (λ first. IsFirstAsked accepts held s (Some (seen_candidate c)) first) (sym is)
        (record { valid = next.valid; first = λ other before. next.first other tt before }, has, another);
    none = none_up_to None count old (seen_candidate c) verdict stands next has another;
    were = were_asked None count (seen_candidate c) verdict stands.were next has another;
  }
  noted None count old new c verdict (Some it) was is stands next has another =
      absurd (subst (λ first. IsFirstAsked accepts held s None first) was stands.first)
  noted (Some last) count old new c verdict None was is stands next has another =
      absurd (subst (λ first. IsFirstAsked accepts held s (Some last) first) was stands.first)
  noted (Some last) count old new c verdict (Some it) was is stands next has another = record {
    first = subst (λ first. IsFirstAsked accepts held s (Some (seen_candidate c)) first) (sym is)
        (subst (λ first. IsFirstAsked accepts held s (Some last) first) was stands.first);
    none = none_up_to (Some last) count old (seen_candidate c) verdict stands next has another;
    were = were_asked (Some last) count (seen_candidate c) verdict stands.were next has another;
  }

  -- no further candidate is valid
  no_clear : (last : Option Candidate) (count : ℕ) (asked : Asked) → StandsAt accepts held s last count asked → HasNoMore accepts s last → HasNoClear accepts held s
  no_clear last count asked stands none c has =
      elim (up_to_or_after last c) [
        | inl up ↦ stands.none c up has
        | inr after ↦ none c after (clear_is_valid exact accepts held s c has)
      ]

  pub ended : (last : Option Candidate) (count : ℕ) (budget : FindingBudget) (asked : Asked) (first : Option (path.Candidate × Verdict))
      → asked.first ≡ first → StandsAt accepts held s last count asked → HasNoMore accepts s last → IsFinding accepts held s budget (found_first first)
  ended None count budget asked None is stands none = λ c. none c tt
  ended None count budget asked (Some first) is stands none = absurd (subst (λ first. IsFirstAsked accepts held s None first) is stands.first)
  ended (Some last) count budget asked None is stands none = absurd (subst (λ first. IsFirstAsked accepts held s (Some last) first) is stands.first)
  ended (Some last) count budget asked (Some it) is stands none =
      let first : IsFirstAsked accepts held s (Some last) (Some it) = subst (λ first. IsFirstAsked accepts held s (Some last) first) is stands.first in
      found_other accepts held s budget (seen_candidate it.0) it.1 first.2
      (record { first = first.0; has = first.1; none = no_clear (Some last) count asked stands none })

-- as many were asked about as may be, and a further one is valid
pub more_than : (accepts : Accepts) (held : HeldFor) (s : Search) (last : Option Candidate) (count : ℕ) (asked : Asked) (c : Candidate)
    (most : ℕ) → StandsAt accepts held s last count asked → IsNextValid accepts s last c → most ≤ count → HasMoreThan accepts held s most
more_than accepts held s last count asked c most stands next all =
    let were = stands.were in
    record {
      candidates = were.candidates;
      further = c;
      each = were.each;
      valid = next.valid;
      descending = descends last c were.candidates next.after were.begins were.descending;
      enough = let counted = were.counted in omega (arith, counted, all);
    }

pub stands_first : (asked : Asked) → asked.first ≡ None → (accepts : Accepts) (held : HeldFor) (s : Search) → StandsAt accepts held s None 0 asked
stands_first asked is accepts held s = record {
  first = subst (λ first. IsFirstAsked accepts held s None first) (sym is) tt;
  none = λ c up. absurd up;
  were = record { candidates = []; begins = refl; each = tt; descending = tt; counted = refl };
}

-- no more paths may be asked about
pub ends_with : (paths next : Paths) (asked : Asked) (finding : code.Finding) (answer : Answer) → AnswersNext paths next answer → answer ≡ A.NotFound
    → Ends asked finding → EndsBehind paths asked finding
ends_with paths next asked finding answer answers is ends accepts held s budget last count are stands all =
    ends accepts held s last count budget stands (subst (IsNextAnswer accepts s budget.search last) is (answers accepts s budget.search last are).0)

pub ends_before : (paths next : Paths) (asked : Asked) (c : path.Candidate) (answer : Answer) → AnswersNext paths next answer → answer ≡ A.Found c
    → EndsBehind paths asked C.GaveUp
ends_before paths next asked c answer answers is accepts held s budget last count are stands all =
    inr (more_than accepts held s last count asked (seen_candidate c) budget.verdicts stands
    (subst (IsNextAnswer accepts s budget.search last) is (answers accepts s budget.search last are).0) all)

pub ends_early : (paths next : Paths) (asked : Asked) (answer : Answer) → AnswersNext paths next answer → answer ≡ A.GaveUp → EndsBehind paths asked C.GaveUp
ends_early paths next asked answer answers is accepts held s budget last count are stands all =
    inl (subst (IsNextAnswer accepts s budget.search last) is (answers accepts s budget.search last are).0)

pub found_behind : (paths next : Paths) (asked : Asked) (finding : code.Finding) (answer : Answer) → AnswersNext paths next answer → answer ≡ A.NotFound
    → WasAsked asked finding → FoundBehind paths asked finding
found_behind paths next asked (C.Found c verdict) answer answers is was = was
found_behind paths next asked C.NotFound answer answers is was =
    (was, λ accepts s budget last are. subst (IsNextAnswer accepts s budget last) is (answers accepts s budget last are).0)
found_behind paths next asked C.GaveUp answer answers is was = tt

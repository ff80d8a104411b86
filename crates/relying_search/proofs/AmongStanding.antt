-- Where a search for a verdict stands, and what is found then.
use Rattle.std.proofs.Common.{◌≡◌, ◌≢◌, ◌⊎◌, ◌+◌, ◌≤◌, ℕ, List, [], ◌∷◌, Option, Some, None, arith, refl, sym, subst, inl, inr}
use Rattle.std.specs.Option.{option_or}
use Rattle.path.specs.Query.{Accepts}
use Rattle.path_issuers.specs.Search.{Search, Candidate, IsBefore, IsValidCandidate, CandidatesAreOrdered}
use Rattle.path_search.specs.Answer.{IsAfter, IsNextValid, HasNoMore, seen_candidate}
use Rattle.path_search.specs.declared.answer.Candidate as path
use Rattle.relying_agreement.specs.Verdict.{ValidExactlyWhere, VerdictIsOne}
use Rattle.relying_agreement.specs.declared.verdict.Verdict.{Verdict}
use Rattle.relying_agreement.specs.declared.verdict.Verdict.TheVariants.{Valid, Invalid, Revoked, Unknown}
use Rattle.relying_search.specs.Asked.{BeginsWith, IsUpTo, found_first}
use Rattle.relying_search.specs.Finding.{AreDescending, Finding, HasVerdict, HeldFor}
use Rattle.relying_search.specs.declared.finding.FindingBudget.{FindingBudget}
use Rattle.relying_search.specs.Among.{HasMoreThanAmong, HasNoClearAmong, IsCounted, IsFindingAmong, IsFirstClearAmong, IsFirstOtherAmong}
use Rattle.relying_search.specs.AskedAmong.{IsFirstAskedAmong, StandsAtAmong}
use Rattle.relying_search.specs.declared.among_asked.AskedAmong.{AskedAmong}

pub clear_is_valid : ValidExactlyWhere → (accepts : Accepts) (held : HeldFor) (s : Search) (c : Candidate) → HasVerdict accepts held s c Valid → IsValidCandidate accepts s c
clear_is_valid exact accepts held s c has = record { candidate = has.candidate; valid = ((exact accepts _ _).0 has.verdict_is).0 }

-- the next one comes before none of those in front
descends : (last : Option Candidate) (c : Candidate) (candidates : List Candidate) → IsAfter last c → BeginsWith last candidates → AreDescending candidates
    → AreDescending (c ∷ candidates)
descends None c [] after begins descending = tt
descends None c (next ∷ more) after begins descending = absurd cc
descends (Some last) c [] after begins descending = tt
descends (Some last) c (next ∷ more) after begins descending = (subst (λ (one : Candidate). IsBefore one c) (sym begins) after, descending)

module _ (counts : Candidate → Type 0) (accepts : Accepts) (held : HeldFor) (s : Search) where
  -- a verdict other than Valid is found as the first path that counts has it
  found_other : (budget : FindingBudget) (c : Candidate) (verdict : Verdict)
      → verdict ≢ Valid → IsFirstOtherAmong counts accepts held s c verdict → IsFindingAmong counts accepts held s budget (Finding.Found c verdict)
  found_other budget c Valid other is = absurd (other refl)
  found_other budget c (Invalid j reason) other is = is
  found_other budget c (Revoked j reason) other is = is
  found_other budget c (Unknown j) other is = is

  pub found_clear : (budget : FindingBudget) (c : Candidate) (verdict : Verdict)
      → verdict ≡ Valid → IsFirstClearAmong counts accepts held s c → IsFindingAmong counts accepts held s budget (Finding.Found c verdict)
  found_clear budget c verdict is clear = subst (λ v. IsFindingAmong counts accepts held s budget (Finding.Found c v)) (sym is) clear

  pub stands_first : (asked : AskedAmong) → asked.first ≡ None → StandsAtAmong counts accepts held s None 0 asked
  stands_first asked is = record {
    first = subst (λ first. IsFirstAskedAmong counts accepts held s None first) (sym is) (λ c up. absurd up);
    none = λ c up. absurd up;
    were = record { candidates = []; begins = refl; each = tt; descending = tt; counted = refl };
  }

  -- as many were asked about as may be, and a further one is valid
  pub more_than : (last : Option Candidate) (count : ℕ) (asked : AskedAmong) (c : Candidate) (most : ℕ) → StandsAtAmong counts accepts held s last count asked
      → IsNextValid accepts s last c → most ≤ count → HasMoreThanAmong counts accepts held s most
  more_than last count asked c most stands next all =
      let were = stands.were in
      record {
        candidates = were.candidates;
        further = c;
        each = were.each;
        valid = next.valid;
        descending = descends last c were.candidates next.after were.begins were.descending;
        enough = let counted = were.counted in omega (arith, counted, all);
      }

module _ (ordered : CandidatesAreOrdered) (exact : ValidExactlyWhere) (one_verdict : VerdictIsOne)
    (counts : Candidate → Type 0) (accepts : Accepts) (held : HeldFor) (s : Search) where
  up_to_or_after : (last : Option Candidate) (c : Candidate) → IsUpTo last c ⊎ IsAfter last c
  up_to_or_after None c = inr tt
  up_to_or_after (Some last) c =
      elim (ordered c last) [
        | inl before ↦ inl (inl before)
        | inr o ↦ elim o [ inl same ↦ inl (inr same) | inr after ↦ inr after ]
      ]

  none_before : (last : Option Candidate) (count : ℕ) (asked : AskedAmong) (c : Candidate) → StandsAtAmong counts accepts held s last count asked
      → IsNextValid accepts s last c → (other : Candidate) → IsBefore other c → counts other → ¬ HasVerdict accepts held s other Valid
  none_before last count asked c stands next other before counted has =
      elim (up_to_or_after last other) [
        | inl up ↦ stands.none other up counted has
        | inr after ↦ next.first other after before (clear_is_valid exact accepts held s other has)
      ]

  -- if no candidate up to the last one counts, none before the next one does
  none_counted_before : (last : Option Candidate) (c : Candidate) → IsFirstAskedAmong counts accepts held s last None → IsNextValid accepts s last c
      → (other : Candidate) → IsBefore other c → ¬ IsCounted counts accepts s other
  none_counted_before last c none next other before is =
      elim (up_to_or_after last other) [
        | inl up ↦ none other up is
        | inr after ↦ next.first other after before is.valid
      ]

  -- the next one counts and has the verdict Valid
  pub first_clear : (last : Option Candidate) (count : ℕ) (asked : AskedAmong) (c : Candidate) → StandsAtAmong counts accepts held s last count asked
      → IsNextValid accepts s last c → counts c → HasVerdict accepts held s c Valid → IsFirstClearAmong counts accepts held s c
  first_clear last count asked c stands next counted has = record { clear = has; counted = counted; first = none_before last count asked c stands next }

  -- it does not count

  first_passed : (last : Option Candidate) (c : Candidate) (first : Option (path.Candidate × Verdict)) → IsFirstAskedAmong counts accepts held s last first
      → IsNextValid accepts s last c → ¬ counts c → IsFirstAskedAmong counts accepts held s (Some c) first
  first_passed last c None none next not = λ other up is.
      elim up [ inl before ↦ none_counted_before last c none next other before is | inr same ↦ not (subst counts same is.counted) ]
  first_passed last c (Some it) first next not = first

  none_passed : (last : Option Candidate) (count : ℕ) (asked : AskedAmong) (c : Candidate) → StandsAtAmong counts accepts held s last count asked
      → IsNextValid accepts s last c → ¬ counts c → (other : Candidate) → IsUpTo (Some c) other → counts other → ¬ HasVerdict accepts held s other Valid
  none_passed last count asked c stands next not other (inl before) counted has = none_before last count asked c stands next other before counted has
  none_passed last count asked c stands next not other (inr same) counted has = not (subst counts same counted)

  pub passed_over : (last : Option Candidate) (count : ℕ) (asked : AskedAmong) (c : Candidate) → StandsAtAmong counts accepts held s last count asked
      → IsNextValid accepts s last c → ¬ counts c → StandsAtAmong counts accepts held s (Some c) (count + 1) asked
  passed_over last count asked c stands next not = record {
    first = first_passed last c asked.first stands.first next not;
    none = none_passed last count asked c stands next not;
    were =
        let were = stands.were in
        record {
          candidates = c ∷ were.candidates;
          begins = refl;
          each = (inl (next.valid, not), were.each);
          descending = descends last c were.candidates next.after were.begins were.descending;
          counted = let counted = were.counted in omega (arith, counted);
        };
  }

  -- it counts, and has another verdict

  none_noted : (last : Option Candidate) (count : ℕ) (asked : AskedAmong) (c : Candidate) (verdict : Verdict) → StandsAtAmong counts accepts held s last count asked
      → IsNextValid accepts s last c → HasVerdict accepts held s c verdict → verdict ≢ Valid → (other : Candidate) → IsUpTo (Some c) other → counts other
      → ¬ HasVerdict accepts held s other Valid
  none_noted last count asked c verdict stands next has another other (inl before) counted clear = none_before last count asked c stands next other before counted clear
  none_noted last count asked c verdict stands next has another other (inr same) counted clear =
      let here : HasVerdict accepts held s c Valid = subst (λ (one : Candidate). HasVerdict accepts held s one Valid) same clear in
      another (one_verdict accepts _ _ verdict Valid has.verdict_is here.verdict_is)

  first_noted : (last : Option Candidate) (c : path.Candidate) (verdict : Verdict) (first : Option (path.Candidate × Verdict))
      → IsFirstAskedAmong counts accepts held s last first → IsNextValid accepts s last (seen_candidate c) → counts (seen_candidate c)
      → HasVerdict accepts held s (seen_candidate c) verdict → verdict ≢ Valid
      → IsFirstAskedAmong counts accepts held s (Some (seen_candidate c)) (option_or first (Some (c, verdict)))
  first_noted last c verdict None none next counted has another = (
    record { is = record { valid = next.valid; counted = counted }; first = none_counted_before last (seen_candidate c) none next },
    has,
    another,
  )
  first_noted last c verdict (Some it) first next counted has another = first

  pub noted : (last : Option Candidate) (count : ℕ) (old new : AskedAmong) (c : path.Candidate) (verdict : Verdict)
      → new.first ≡ option_or old.first (Some (c, verdict)) → StandsAtAmong counts accepts held s last count old → IsNextValid accepts s last (seen_candidate c)
      → counts (seen_candidate c) → HasVerdict accepts held s (seen_candidate c) verdict → verdict ≢ Valid
      → StandsAtAmong counts accepts held s (Some (seen_candidate c)) (count + 1) new
  noted last count old new c verdict is stands next counted has another = record {
    first = subst (IsFirstAskedAmong counts accepts held s (Some (seen_candidate c))) (sym is)
        (first_noted last c verdict old.first stands.first next counted has another);
    none = none_noted last count old (seen_candidate c) verdict stands next has another;
    were =
        let were = stands.were in
        record {
          candidates = seen_candidate c ∷ were.candidates;
          begins = refl;
          each = (inr (counted, record { verdict = verdict; valid = next.valid; has = has; other = another }), were.each);
          descending = descends last (seen_candidate c) were.candidates next.after were.begins were.descending;
          counted = let long = were.counted in omega (arith, long);
        };
  }

  -- no further candidate is valid

  no_clear : (last : Option Candidate) (count : ℕ) (asked : AskedAmong) → StandsAtAmong counts accepts held s last count asked → HasNoMore accepts s last
      → HasNoClearAmong counts accepts held s
  no_clear last count asked stands none c counted has =
      elim (up_to_or_after last c) [
        | inl up ↦ stands.none c up counted has
        | inr after ↦ none c after (clear_is_valid exact accepts held s c has)
      ]

  ended_with : (last : Option Candidate) (budget : FindingBudget) (first : Option (path.Candidate × Verdict)) → HasNoClearAmong counts accepts held s
      → IsFirstAskedAmong counts accepts held s last first → HasNoMore accepts s last → IsFindingAmong counts accepts held s budget (found_first first)
  ended_with last budget None clear first none = λ c is.
      elim (up_to_or_after last c) [ inl up ↦ first c up is | inr after ↦ none c after is.valid ]
  ended_with last budget (Some it) clear first none =
      found_other counts accepts held s budget (seen_candidate it.0) it.1 first.2 (record { first = first.0; has = first.1; none = clear })

  pub ended : (last : Option Candidate) (count : ℕ) (budget : FindingBudget) (asked : AskedAmong) → StandsAtAmong counts accepts held s last count asked
      → HasNoMore accepts s last → IsFindingAmong counts accepts held s budget (found_first asked.first)
  ended last count budget asked stands none = ended_with last budget asked.first (no_clear last count asked stands none) stands.first none

-- What a search answers.
use Rattle.std.specs.Prelude.{◌≢◌, ◌⊎◌, ◌<◌, ◌≤◌, ℕ, List, [], ◌∷◌, Option, Some, None, length}
use Rattle.std.specs.List.{AllByRecursion}
use Rattle.path.specs.Query.{Accepts}
use Rattle.path_issuers.specs.Asking.{count_pairs}
use Rattle.path_issuers.specs.Factors.{AreRight}
use Rattle.path_issuers.specs.Search.{Search, Candidate, path_down_to, IsValidCandidate, IsBefore, IsFirstValid, HasNoValid}
use Rattle.path_search.specs.declared.answer.Budget.{Budget}
use Rattle.path_search.specs.declared.answer.Candidate as found
use Rattle.path_search.specs.declared.answer.Answer.{Answer}
use Rattle.path_search.specs.declared.answer.Answer.TheVariants.{Found, NotFound, GaveUp}

abbrev pub seen_candidate : found.Candidate → Candidate
seen_candidate c = record { anchor = c.anchor; above = c.above.items }

-- the places are those of certificates that are right above the target, whatever stands above them
pub record IsRightTail (accepts : Accepts) (s : Search) (above : List ℕ) : Type 0 where
  pub there : AllByRecursion (λ place. place < length s.bag) above
  pub right : AreRight s.options accepts s.moment s.purpose (path_down_to s.target s.bag above)

abbrev pub AreDifferent : List (List ℕ) → Type 0
AreDifferent [] = Unit {0}
AreDifferent (above ∷ others) = AllByRecursion (λ other. above ≢ other) others × AreDifferent others

-- there are at least as many right tails
pub record HasRightTails (accepts : Accepts) (s : Search) (count : ℕ) : Type 0 where
  pub tails : List (List ℕ)
  pub right : AllByRecursion (IsRightTail accepts s) tails
  pub different : AreDifferent tails
  pub enough : count ≤ length tails

-- it comes after the last one, if there is a last one
abbrev pub IsAfter : Option Candidate → Candidate → Type 0
IsAfter None c = Unit {0}
IsAfter (Some last) c = IsBefore last c

-- the first valid candidate after the last one
pub record IsNextValid (accepts : Accepts) (s : Search) (last : Option Candidate) (c : Candidate) : Type 0 where
  pub valid : IsValidCandidate accepts s c
  pub after : IsAfter last c
  pub first : (other : Candidate) → IsAfter last other → IsBefore other c → ¬ IsValidCandidate accepts s other

-- there is none
abbrev pub HasNoMore : Accepts → Search → Option Candidate → Type 0
HasNoMore accepts s last = (c : Candidate) → IsAfter last c → ¬ IsValidCandidate accepts s c

-- the walk from the target upward answers, which may look at so many tails
abbrev pub IsAnswerWithin : Accepts → Search → ℕ → Option Candidate → Answer → Type 0
IsAnswerWithin accepts s steps last (Found c) = IsNextValid accepts s last (seen_candidate c)
IsAnswerWithin accepts s steps last NotFound = HasNoMore accepts s last
IsAnswerWithin accepts s steps last GaveUp = HasRightTails accepts s steps

-- a search for the first valid candidate answers; or one of its two budgets is used up
abbrev pub IsAnswer : Accepts → Search → Budget → Answer → Type 0
IsAnswer accepts s budget (Found c) = IsFirstValid accepts s (seen_candidate c)
IsAnswer accepts s budget NotFound = HasNoValid accepts s
IsAnswer accepts s budget GaveUp = (budget.signatures < count_pairs s) ⊎ HasRightTails accepts s budget.steps

-- The valid paths of a search, one after the other.
use Rattle.std.specs.Prelude.{◌≡◌, ◌⊎◌, ◌<◌, ℕ, Option, Some, None}
use Rattle.path.specs.Query.{Accepts}
use Rattle.path_issuers.specs.Search.{Search, Candidate}
use Rattle.path_issuers.specs.Links.{AreLinks, seen_links}
use Rattle.path_search.specs.Answer.{HasRightTails, IsAnswerWithin, IsNextValid, HasNoMore, seen_candidate}
use Rattle.path_issuers.specs.View.{seen_search}
use Rattle.path_issuers.specs.Asking.{count_pairs}
use Rattle.path_search.specs.Walk.{StandsBehind, last_after}
use Rattle.path_search.specs.declared.answer.Budget.{Budget}
use Rattle.path_search.specs.declared.answer.Answer.{Answer}
use Rattle.path_search.specs.declared.answer.Answer.TheVariants.{Found, NotFound, GaveUp}
use Rattle.path_search.specs.declared.walk.Walk.{Walk}
use Rattle.path_search.specs.declared.paths.Paths.{Paths}

-- a walk over the search, by links that are right, which stands behind the last candidate
pub record IsWalk (accepts : Accepts) (s : Search) (last : Option Candidate) (walk : Walk) : Type 0 where
  pub search : seen_search walk.ground.search.now ≡ s
  pub links : AreLinks accepts s (seen_links walk.ground.links)
  pub stands : StandsBehind accepts s (seen_links walk.ground.links) last walk.queue

-- there is none if that would take more questions than there may be
abbrev pub MayWalk : Accepts → Search → Budget → Option Candidate → Option Walk → Type 0
MayWalk accepts s budget last None = budget.signatures < count_pairs s
MayWalk accepts s budget last (Some walk) = IsWalk accepts s last walk

-- wherever it stands, the walk answers what comes next, and stands behind that then
abbrev pub WalksOn : ℕ → Walk → Walk → Answer → Type 0
WalksOn steps old new answer =
    (accepts : Accepts) (s : Search) (last : Option Candidate) → IsWalk accepts s last old
    → IsAnswerWithin accepts s steps last answer × IsWalk accepts s (last_after last answer) new

-- wherever it stands, it stands there still
abbrev pub WalkStays : Walk → Walk → Type 0
WalkStays old new = (accepts : Accepts) (s : Search) (last : Option Candidate) → IsWalk accepts s last old → IsWalk accepts s last new

-- what is left of the paths of a search, within a budget, once the last candidate was answered
pub record ArePaths (accepts : Accepts) (s : Search) (budget : Budget) (last : Option Candidate) (paths : Paths) : Type 0 where
  pub within : paths.budget ≡ budget
  pub ahead : MayWalk accepts s budget last paths.walk

-- the first valid candidate after the last one; or there is none; or one of the two budgets is used up
abbrev pub IsNextAnswer : Accepts → Search → Budget → Option Candidate → Answer → Type 0
IsNextAnswer accepts s budget last (Found c) = IsNextValid accepts s last (seen_candidate c)
IsNextAnswer accepts s budget last NotFound = HasNoMore accepts s last
IsNextAnswer accepts s budget last GaveUp = (budget.signatures < count_pairs s) ⊎ HasRightTails accepts s budget.steps

-- whatever paths are left, the answer is the next one, and those behind it are left then
abbrev pub AnswersNext : Paths → Paths → Answer → Type 0
AnswersNext old new answer =
    (accepts : Accepts) (s : Search) (budget : Budget) (last : Option Candidate) → ArePaths accepts s budget last old
    → IsNextAnswer accepts s budget last answer × ArePaths accepts s budget (last_after last answer) new

-- whatever paths are left, they are left still
abbrev pub PathsStay : Paths → Paths → Type 0
PathsStay old new =
    (accepts : Accepts) (s : Search) (budget : Budget) (last : Option Candidate) → ArePaths accepts s budget last old → ArePaths accepts s budget last new

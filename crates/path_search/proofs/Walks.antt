-- A walk over a search, and what it answers.
use Rattle.std.proofs.Common.{◌≡◌, ℕ, List, [], Option, Some, None, arith, map, subst, sym, inl, inr}
use Rattle.std.specs.Global.{Vec}
use Rattle.path.specs.Query.{Accepts}
use Rattle.path_issuers.specs.Search.{Search, Candidate}
use Rattle.path_issuers.specs.Links.{Links, AreLinks, seen_links}
use Rattle.path_search.specs.Answer.{IsAnswer, IsAnswerWithin}
use Rattle.path_issuers.specs.View.{seen_search}
use Rattle.path_search.specs.Queue.{StandsFirst, places_of}
use Rattle.path_search.specs.Walk.{AreFirst, Answers, HasRightTarget, IsQueueOf, StandsBehind, Stays, last_after}
use Rattle.path_search.specs.Paths.{MayWalk, WalksOn, IsNextAnswer, AnswersNext, PathsStay, WalkStays}
use Rattle.path_search.specs.declared.answer.Answer.{Answer}
use Rattle.path_search.specs.declared.answer.Answer.TheVariants.{Found, NotFound, GaveUp}
use Rattle.path_search.specs.declared.answer.Budget.{Budget}
use Rattle.path_issuers.specs.declared.links.Links as code
use Rattle.path_search.specs.declared.queue.Queue.{Queue}
use Rattle.path_search.specs.declared.walk.Walk.{Walk}
use Rattle.path_search.specs.declared.paths.Paths.{Paths}
use Rattle.path_search.proofs.Walking.{started_walk, target_is_right}

-- if the target is not right, no links are needed

no_links_seen : (accepts : Accepts) (s : Search) → ¬ HasRightTarget s → AreLinks accepts s (record { issuers = []; anchors = [] })
no_links_seen accepts s wrong = record {
  issuers = λ below place among. absurd (omega (arith, among.1));
  anchors = λ below place among. absurd (omega (arith, among.1));
  issuers_ascend = λ below k h. absurd (omega arith);
  anchors_ascend = λ below k h. absurd (omega arith);
  whole = λ c valid. absurd (wrong (target_is_right accepts s c valid));
}

pub no_links : (accepts : Accepts) (s : Search) → ¬ HasRightTarget s
    → (links : code.Links) → links.issuers.items ≡ [] → links.anchors.items ≡ [] → AreLinks accepts s (seen_links links)
no_links accepts s wrong links issuers anchors =
    let items : Vec ℕ → List ℕ = λ v. v.items in
    subst (λ (l : List (Vec ℕ)). AreLinks accepts s (record { issuers = map items l; anchors = map items links.anchors.items })) (sym issuers)
    (subst (λ (l : List (Vec ℕ)). AreLinks accepts s (record { issuers = []; anchors = map items l })) (sym anchors) (no_links_seen accepts s wrong))

module _ (accepts : Accepts) (s : Search) (links : Links) (are : AreLinks accepts s links) where
  -- where the target is not right, nothing waits
  started_empty : ¬ HasRightTarget s → IsQueueOf accepts s links None [] 0 0
  started_empty wrong = record {
    right = λ k d h. absurd (omega arith);
    ordered = λ i j d less h. absurd (omega arith);
    grown = λ h. absurd (omega arith);
    waiting = λ above wanted. absurd (wrong (target_is_right accepts s (record { anchor = wanted.anchor; above = above }) wanted.valid));
  }

  started_with : (tails : List (List ℕ)) → AreFirst s tails → IsQueueOf accepts s links None tails 0 0
  started_with tails (inl right) = subst (λ l. IsQueueOf accepts s links None l 0 0) (sym right.1) (started_walk accepts s links are right.0)
  started_with tails (inr wrong) = subst (λ l. IsQueueOf accepts s links None l 0 0) (sym wrong.1) (started_empty wrong.0)

  -- a walk begins before all candidates
  pub stands_first : (tails : Vec (Vec ℕ)) (queue : Queue) → AreFirst s (places_of tails) → StandsFirst tails queue → StandsBehind accepts s links None queue
  stands_first tails queue first is =
      subst (λ (q : Queue). StandsBehind accepts s links None q) (sym is) (record { tails = started_with (places_of tails) first; handed = λ there. tt })

-- what a walk says of its own search, it says of an equal one
pub walks_on : (walk : Walk) (queue : Queue) (steps : ℕ) (answer : Answer)
    → Answers (seen_search walk.ground.search.now) (seen_links walk.ground.links) steps walk.queue queue answer
    → WalksOn steps walk (record { ground = walk.ground; queue = queue }) answer
walks_on walk queue steps answer answers accepts s last w =
    let links = seen_links walk.ground.links in
    let found = answers accepts last (subst (λ (q : Search). AreLinks accepts q links) (sym w.search) w.links)
    (subst (λ (q : Search). StandsBehind accepts q links last walk.queue) (sym w.search) w.stands) in (
      subst (λ (q : Search). IsAnswerWithin accepts q steps last answer) w.search found.0,
      record {
        search = w.search;
        links = w.links;
        stands = subst (λ (q : Search). StandsBehind accepts q links (last_after last answer) queue) w.search found.1;
      },
    )

pub walk_stays : (walk : Walk) (queue : Queue) → Stays (seen_search walk.ground.search.now) (seen_links walk.ground.links) walk.queue queue
    → WalkStays walk (record { ground = walk.ground; queue = queue })
walk_stays walk queue stays accepts s last w =
    let links = seen_links walk.ground.links in
    let still = stays accepts last (subst (λ (q : Search). AreLinks accepts q links) (sym w.search) w.links)
    (subst (λ (q : Search). StandsBehind accepts q links last walk.queue) (sym w.search) w.stands) in
    record { search = w.search; links = w.links; stands = subst (λ (q : Search). StandsBehind accepts q links last queue) w.search still }

-- an answer of a walk is one within a budget
within : (accepts : Accepts) (s : Search) (budget : Budget) (last : Option Candidate) (answer : Answer)
    → IsAnswerWithin accepts s budget.steps last answer → IsNextAnswer accepts s budget last answer
within accepts s budget last (Found c) is = is
within accepts s budget last NotFound is = is
within accepts s budget last GaveUp is = inr is

pub answers_next : (old : Paths) (walk new : Walk) (answer : Answer) → old.walk ≡ Some walk → WalksOn old.budget.steps walk new answer
    → AnswersNext old (record { walk = Some new; budget = old.budget }) answer
answers_next old walk new answer is walks accepts s budget last paths =
    let found = walks accepts s last (subst (λ (w : Option Walk). MayWalk accepts s budget last w) is paths.ahead) in (
      subst (λ (b : Budget). IsNextAnswer accepts s b last answer) paths.within (within accepts s old.budget last answer found.0),
      record { within = paths.within; ahead = found.1 },
    )

pub paths_stay : (old : Paths) (walk new : Walk) → old.walk ≡ Some walk → WalkStays walk new → PathsStay old (record { walk = Some new; budget = old.budget })
paths_stay old walk new is stays accepts s budget last paths = record {
  within = paths.within;
  ahead = stays accepts s last (subst (λ (w : Option Walk). MayWalk accepts s budget last w) is paths.ahead);
}

-- the next answer behind none is the first
pub first_answer : (accepts : Accepts) (s : Search) (budget : Budget) (answer : Answer)
    → IsNextAnswer accepts s budget None answer → IsAnswer accepts s budget answer
first_answer accepts s budget (Found c) is = record { valid = is.valid; first = λ other before. is.first other tt before }
first_answer accepts s budget NotFound is = λ c. is c tt
first_answer accepts s budget GaveUp is = is

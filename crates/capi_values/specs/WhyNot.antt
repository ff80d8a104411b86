-- Why no path is found, as numbers: certificates by their numbers in the search, conditions by their ranks.
use Rattle.std.specs.Prelude.{◌≡◌, ◌⊎◌, ◌+◌, ℕ, List, Option, Some, None, length, map}
use Rattle.path.specs.Query.{Accepts}
use Rattle.path.specs.Reason.{reason_rank}
use Rattle.path_issuers.specs.Search.{Search}
use Rattle.path_search.specs.WhyNot.{IsWhyNot, places_of_obstacles}
use Rattle.path_search.specs.declared.diagnosis.Stuck.{Stuck}
use Rattle.path_search.specs.declared.diagnosis.WhyNot.{WhyNot}
use Rattle.path_search.specs.declared.diagnosis.WhyNot.TheVariants as why
use Rattle.path_search.specs.declared.obstacles.Obstacle.{Obstacle}
use Rattle.relying_questions.specs.Agreement.{AcceptsPrints}
use Rattle.capi_values.specs.Arrays.{AreWrittenTo}
use Rattle.capi_values.specs.Finding.{HavePlaces}
use Rattle.capi_values.specs.Refusal.{TellsBadCertificate, no_memory, no_refusal}
use Rattle.capi_values.specs.Searching.{IsSearchRead, budget_of, search_certificates}
use Rattle.capi_values.specs.declared.diagnosis.NumberedObstacle.{NumberedObstacle}
use Rattle.capi_values.specs.declared.diagnosis.WhyNotAnswer.{WhyNotAnswer}
use Rattle.capi_values.specs.declared.refusal.Refusal.{Refusal}
use Rattle.capi_values.specs.declared.searching.SearchOfTexts.{SearchOfTexts}

-- the certificates at these places of the bag by their numbers, where there are so many anchors
abbrev pub bag_numbers : ℕ → List ℕ → List ℕ
bag_numbers anchors places = map (λ place. anchors + 1 + place) places

-- the number of a certificate, and the rank of the condition that it does not meet
abbrev pub obstacle_numbers : ℕ → Obstacle → NumberedObstacle
obstacle_numbers anchors obstacle = record {
  certificate = anchors + 1 + obstacle.place;
  reason = reason_rank obstacle.reason;
}

-- the numbers of the certificates fit into 64 bits
abbrev pub HasEndNumbers : ℕ → Option WhyNot → Type 0
HasEndNumbers anchors None = Unit {0}
HasEndNumbers anchors (Some (why.Target reason)) = Unit {0}
HasEndNumbers anchors (Some (why.Stuck stuck)) =
    HavePlaces anchors stuck.above.items × HavePlaces anchors (places_of_obstacles stuck.bag.items)

-- what the three arrays of the caller hold
pub record Rooms : Type 0 where
  pub above : List ℕ
  pub anchors : List ℕ
  pub obstacles : List NumberedObstacle

abbrev pub rooms : List ℕ → List ℕ → List NumberedObstacle → Rooms
rooms above anchors obstacles = record { above = above; anchors = anchors; obstacles = obstacles }

-- an answer with this number, which tells of no certificates
abbrev pub without_end : ℕ → ℕ → Refusal → WhyNotAnswer
without_end why reason told = record {
  why = why;
  reason = reason;
  above_count = 0;
  anchor_count = 0;
  obstacle_count = 0;
  refusal = told;
}

-- where the paths end, which 9 stands for: the certificates above the target, upward from it; the anchors in the way; and the obstacles
pub record TellsEnd (count : ℕ) (answer : WhyNotAnswer) (old new : Rooms) (stuck : Stuck) : Type 0 where
  pub why : answer.why ≡ 9
  pub reason : answer.reason ≡ 0
  pub above : AreWrittenTo (bag_numbers count stuck.above.items) old.above new.above answer.above_count
  pub anchors : AreWrittenTo stuck.anchors.items old.anchors new.anchors answer.anchor_count
  pub obstacles : AreWrittenTo (map (obstacle_numbers count) stuck.bag.items) old.obstacles new.obstacles answer.obstacle_count
  pub refusal : answer.refusal ≡ no_refusal

-- where there are so many anchors; 7 stands for limits that are used up, and 8 for a target that is at fault itself
abbrev pub TellsWhyNot : ℕ → WhyNotAnswer → Rooms → Rooms → Option WhyNot → Type 0
TellsWhyNot count answer old new None = (answer ≡ without_end 7 0 no_refusal) × (new ≡ old)
TellsWhyNot count answer old new (Some (why.Target reason)) =
    (answer ≡ without_end 8 (reason_rank reason) no_refusal) × (new ≡ old)
TellsWhyNot count answer old new (Some (why.Stuck stuck)) = TellsEnd count answer old new stuck

-- Why who accepts so finds no path, within the limits.
pub record IsWhyNotFor (accepts : Accepts) (search : SearchOfTexts) (found : Option WhyNot) : Type 0 where
  pub read : Search
  pub is_read : IsSearchRead search read
  pub is_why_not : IsWhyNot accepts read (budget_of search.limits).search found

-- The same of who accepts exactly the signatures that have these fingerprints.
pub record IsWhyNotOn (search : SearchOfTexts) (prints : List (List ℕ)) (found : Option WhyNot) : Type 0 where
  pub accepts : Accepts
  pub accepts_prints : AcceptsPrints accepts prints
  pub is_why_not : IsWhyNotFor accepts search found

-- a certificate is refused; then nothing is written
abbrev pub TellsNoSearch : SearchOfTexts → WhyNotAnswer → Rooms → Rooms → Refusal → Type 0
TellsNoSearch search answer old new told =
    TellsBadCertificate (search_certificates search) told × (answer ≡ without_end 5 0 told) × (new ≡ old)

-- the answer tells why no path is found, or which certificate is refused
abbrev pub TellsWhyNotAnswer : WhyNotAnswer → SearchOfTexts → List (List ℕ) → Rooms → Rooms → Type 0
TellsWhyNotAnswer answer search prints old new =
    ((found : Option WhyNot) × IsWhyNotOn search prints found × TellsWhyNot (length search.anchors.now) answer old new found)
    ⊎ ((told : Refusal) × TellsNoSearch search answer old new told)

-- the answer tells why who accepts so finds no path, or that memory was refused
abbrev pub TellsWhyNotOf : WhyNotAnswer → Accepts → SearchOfTexts → Rooms → Rooms → Type 0
TellsWhyNotOf answer accepts search old new =
    ((found : Option WhyNot) × IsWhyNotFor accepts search found × TellsWhyNot (length search.anchors.now) answer old new found)
    ⊎ ((answer ≡ without_end 5 0 no_memory) × (new ≡ old))

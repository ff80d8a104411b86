-- What the walk knows of who issued the top of a tail, and what it finds above it.
use Rattle.std.specs.Prelude.{ℕ, List, [], ◌∷◌, Option, Some, None, Contains}
use Rattle.std.specs.List.{All}
use Rattle.path.specs.declared.reason.Reason.{Reason}
use Rattle.path.specs.Query.{Accepts}
use Rattle.path_issuers.specs.Search.{Search, path_down_to}
use Rattle.path_issuers.specs.Asking.{ArePicked}
use Rattle.path_issuers.specs.Links.{certificate_at}
use Rattle.path_search.specs.WhyNot.{IsFirstUnmet, IsSpent, IsStuck, MeetsAbove, MeetsEach, places_of_obstacles}
use Rattle.path_search.specs.declared.answer.Budget.{Budget}
use Rattle.path_search.specs.declared.obstacles.Obstacle.{Obstacle}
use Rattle.path_search.specs.declared.diagnosis.Stuck.{Stuck}

-- the conditions on the certificate at a place above a tail, whose top those at some places issued
abbrev pub MeetsBySigners : Search → List ℕ → List ℕ → ℕ → Reason → Type 0
MeetsBySigners s above signers place =
    MeetsAbove s.options (Contains signers place) s.moment (certificate_at s place) (path_down_to s.target s.bag above)

-- the place with the condition that its certificate does not meet, if there is one
abbrev pub obstacle_of : ℕ → Option Reason → List Obstacle
obstacle_of place None = []
obstacle_of place (Some reason) = record { place = place; reason = reason } ∷ []

-- for those of the places whose certificates do not meet all of them, the first one
pub record AreUnmetAt (s : Search) (above signers asked : List ℕ) (obstacles : List Obstacle) : Type 0 where
  pub places : ArePicked (λ place. ¬ MeetsEach (MeetsBySigners s above signers place)) asked (places_of_obstacles obstacles)
  pub reasons : All (λ o. IsFirstUnmet (MeetsBySigners s above signers o.place) o.reason) obstacles

-- where the paths to a target end that is right by itself
abbrev pub IsEnd : Accepts → Search → Budget → Option Stuck → Type 0
IsEnd accepts s budget None = IsSpent accepts s budget
IsEnd accepts s budget (Some stuck) = IsStuck accepts s stuck

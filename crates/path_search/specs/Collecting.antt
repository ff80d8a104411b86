-- The walk from the target upward, which collects all right tails in order.
use Rattle.std.specs.Prelude.{◌≡◌, ◌≢◌, ◌⊎◌, ◌+◌, ◌<◌, ◌≤◌, ℕ, Bool, true, false, List, [], Option, Some, None, length, slice_index_or, take}
use Rattle.std.specs.Global.{Vec}
use Rattle.std.specs.List.{All, AllPairs}
use Rattle.path.specs.Query.{Accepts}
use Rattle.path_issuers.specs.Search.{Search, ArePlacesBefore}
use Rattle.path_search.specs.Answer.{HasRightTails}
use Rattle.path_issuers.specs.Links.{Links}
use Rattle.path_issuers.specs.Lists.{list_at}
use Rattle.path_search.specs.Queue.{IsQueue, IsTailBefore, places_of, seen_tails}
use Rattle.path_issuers.specs.Upward.{AreAuthorityLinks}
use Rattle.path_search.specs.Walk.{HasGrown, IsTail, issuers_above}
use Rattle.path_search.specs.declared.queue.Queue as code

-- a tail that is none of these
pub record IsFurther (accepts : Accepts) (s : Search) (done : List (List ℕ)) (above : List ℕ) : Type 0 where
  pub tail : IsTail accepts s above
  pub other : All (λ tail. tail ≢ above) done

-- the walk is done with these tails, and each other one grows out of one in the queue
pub record IsCollecting (accepts : Accepts) (s : Search) (links : Links) (done : List (List ℕ)) (queue : code.Queue) : Type 0 where
  pub before : take queue.index (seen_tails queue) ≡ done
  pub tails : IsQueue (issuers_above s links) (IsTail accepts s) (IsFurther accepts s done) (seen_tails queue) queue.index queue.tried

-- the same at a tail
pub record IsCollectingAt (accepts : Accepts) (s : Search) (links : Links) (done : List (List ℕ)) (above : List ℕ) (queue : code.Queue) : Type 0 where
  pub there : queue.index < length (seen_tails queue)
  pub is : slice_index_or (seen_tails queue) queue.index [] ≡ above
  pub tails : IsCollecting accepts s links done queue

-- wherever the links are right, the queue stands at the tail as before, with each place above it tried; or there was no room for a tail
abbrev pub GrowsOn : Search → Links → ℕ → List ℕ → code.Queue → code.Queue → Bool → Type 0
GrowsOn s links steps above old new grown =
    (accepts : Accepts) (done : List (List ℕ)) → AreAuthorityLinks accepts s links → IsCollectingAt accepts s links done above old
    → IsCollectingAt accepts s links done above new × HasGrown accepts s links steps above new grown

-- a tail more is done with; or there was no room
abbrev pub HasPassed : Accepts → Search → Links → ℕ → code.Queue → Bool → Type 0
HasPassed accepts s links steps queue true = (done : List (List ℕ)) × IsCollecting accepts s links done queue
HasPassed accepts s links steps queue false = HasRightTails accepts s steps

-- wherever the links are right, a tail more is done with
abbrev pub Passes : Search → Links → ℕ → code.Queue → code.Queue → Bool → Type 0
Passes s links steps old new passed =
    (accepts : Accepts) (done : List (List ℕ)) → AreAuthorityLinks accepts s links → IsCollecting accepts s links done old
    → HasPassed accepts s links steps new passed

-- the walk stands at the tail behind, if one more is done with
abbrev pub IsAtNextTail : code.Queue → code.Queue → Bool → Type 0
IsAtNextTail old new true = new.index ≡ old.index + 1
IsAtNextTail old new false = Unit {0}

-- all right tails, in order
pub record AreAllTails (accepts : Accepts) (s : Search) (tails : List (List ℕ)) : Type 0 where
  pub right : All (IsTail accepts s) tails
  pub ordered : AllPairs IsTailBefore tails
  pub all : (above : List ℕ) → IsTail accepts s above → ¬ All (λ tail. tail ≢ above) tails

-- all right tails; or there are as many as the walk may look at
abbrev pub AreTailsWithin : Accepts → Search → ℕ → Option (Vec (Vec ℕ)) → Type 0
AreTailsWithin accepts s steps None = HasRightTails accepts s steps
AreTailsWithin accepts s steps (Some tails) = AreAllTails accepts s (places_of tails)

-- of two lists by their places, the longer one; if they are as long, the first
abbrev pub IsLonger : List (List ℕ) → ℕ → ℕ → ℕ → Type 0
IsLonger lists one other longer =
    ((length (list_at lists one) < length (list_at lists other)) × (longer ≡ other))
    ⊎ ((length (list_at lists other) ≤ length (list_at lists one)) × (longer ≡ one))

-- of the lists before a bound, the first of the longest; at first the place 0
pub record IsFirstLongestBefore (bound : ℕ) (lists : List (List ℕ)) (place : ℕ) : Type 0 where
  pub there : 0 < bound → place < bound
  pub start : bound ≡ 0 → place ≡ 0
  pub longest : (k : ℕ) → k < bound → length (list_at lists k) ≤ length (list_at lists place)
  pub first : (k : ℕ) → k < place → length (list_at lists k) < length (list_at lists place)

abbrev pub IsFirstLongest : List (List ℕ) → ℕ → Type 0
IsFirstLongest lists place = IsFirstLongestBefore (length lists) lists place

-- a right tail; none is longer, and none of its length stands before it
pub record IsFurthest (accepts : Accepts) (s : Search) (above : List ℕ) : Type 0 where
  pub tail : IsTail accepts s above
  pub longest : (other : List ℕ) → IsTail accepts s other → length other ≤ length above
  pub first : (other : List ℕ) → IsTail accepts s other → length other ≡ length above → ¬ ArePlacesBefore other above

abbrev pub IsFurthestWithin : Accepts → Search → ℕ → Option (Vec ℕ) → Type 0
IsFurthestWithin accepts s steps None = HasRightTails accepts s steps
IsFurthestWithin accepts s steps (Some above) = IsFurthest accepts s above.items

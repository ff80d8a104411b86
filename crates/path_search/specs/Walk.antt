-- The walk from the target upward, which hands out candidates in order.
use Rattle.std.specs.Prelude.{◌≡◌, ◌⊎◌, ◌+◌, ◌<◌, ◌≤◌, ℕ, zero, suc, Bool, true, false, List, [], ◌∷◌, ◌++◌, Option, Some, None, if◌then◌else◌, length, max, nat_lt, slice_index, slice_index_or}
use Rattle.path.specs.Query.{Accepts}
use Rattle.path_issuers.specs.Search.{Search, Candidate, IsValidCandidate, path_down_to}
use Rattle.path_issuers.specs.Factors.{IsRightAsTarget}
use Rattle.path_search.specs.Authority.{FitsAbove}
use Rattle.path_issuers.specs.Links.{Links, AreLinks, issuers_of, anchors_of, certificate_at}
use Rattle.path_search.specs.Answer.{IsRightTail, HasRightTails, IsAfter, IsAnswerWithin, seen_candidate}
use Rattle.path_search.specs.Queue.{IsTailBefore, IsQueue, seen_tails}
use Rattle.path_search.specs.declared.answer.Answer.{Answer}
use Rattle.path_search.specs.declared.answer.Answer.TheVariants.{Found, NotFound, GaveUp}
use Rattle.path_search.specs.declared.queue.Queue as code

-- tails

-- the place of the certificate at the top of a tail, if that of the target is `below`
abbrev pub top_of : ℕ → List ℕ → ℕ
top_of below [] = below
top_of below (place ∷ above) = top_of place above

-- the anchors that issued the top
abbrev pub anchors_above : Search → Links → List ℕ → List ℕ
anchors_above s links above = anchors_of links (top_of (length s.bag) above)

-- the certificates that issued the top; none if a path has no room for one more, of 128
abbrev pub issuers_above : Search → Links → List ℕ → List ℕ
issuers_above s links above = if nat_lt (length above) 127 then issuers_of links (top_of (length s.bag) above) else []

-- the certificate at the place is there, and fits above the tail
pub record MayStandAbove (s : Search) (above : List ℕ) (place : ℕ) : Type 0 where
  pub there : place < length s.bag
  pub fits : FitsAbove (certificate_at s place) (path_down_to s.target s.bag above)

-- right, and not too long for a path
pub record IsTail (accepts : Accepts) (s : Search) (above : List ℕ) : Type 0 where
  pub right : IsRightTail accepts s above
  pub short : length above ≤ 127

-- a valid candidate after the last one has these certificates above its target
pub record IsWanted (accepts : Accepts) (s : Search) (last : Option Candidate) (above : List ℕ) : Type 0 where
  pub anchor : ℕ
  pub valid : IsValidCandidate accepts s (record { anchor = anchor; above = above })
  pub after : IsAfter last (record { anchor = anchor; above = above })

-- where a walk stands in its queue

-- the queue of a search: out of it grows each valid candidate after the last one
abbrev pub IsQueueOf : Accepts → Search → Links → Option Candidate → List (List ℕ) → ℕ → ℕ → Type 0
IsQueueOf accepts s links last tails index tried =
    IsQueue (issuers_above s links) (IsTail accepts s) (IsWanted accepts s last) tails index tried

-- the last candidate is that of the tail and the anchor before this number; or, at the first number, one of an earlier tail, or none
abbrev pub IsLast : List ℕ → List ℕ → ℕ → Option Candidate → Type 0
IsLast anchors tail zero None = Unit {0}
IsLast anchors tail zero (Some last) = IsTailBefore last.above tail
IsLast anchors tail (suc number) None = ⊥
IsLast anchors tail (suc number) (Some last) =
    (last.above ≡ tail) × (number < length anchors) × (last.anchor ≡ slice_index anchors number)

-- the next tail of the queue has these places, and the queue stands behind the last candidate
pub record IsAt (accepts : Accepts) (s : Search) (links : Links) (last : Option Candidate) (above : List ℕ) (queue : code.Queue) : Type 0 where
  pub there : queue.index < length (seen_tails queue)
  pub is : slice_index_or (seen_tails queue) queue.index [] ≡ above
  pub tails : IsQueueOf accepts s links last (seen_tails queue) queue.index queue.tried
  pub handed : IsLast (anchors_above s links above) above queue.number last

-- the queue stands behind the last candidate, at its next tail, if there is one
pub record StandsBehind (accepts : Accepts) (s : Search) (links : Links) (last : Option Candidate) (queue : code.Queue) : Type 0 where
  pub tails : IsQueueOf accepts s links last (seen_tails queue) queue.index queue.tried
  pub handed : queue.index < length (seen_tails queue) →
      IsLast (anchors_above s links (slice_index_or (seen_tails queue) queue.index [])) (slice_index_or (seen_tails queue) queue.index []) queue.number last

-- what a step does

-- if the certificate may stand above the tail, the tail with it stands behind the others; or there was no room for that
abbrev pub HasTried : Search → ℕ → List ℕ → ℕ → List (List ℕ) → List (List ℕ) → Bool → Type 0
HasTried s steps above place old new true =
    (MayStandAbove s above place × (new ≡ old ++ (above ++ place ∷ []) ∷ []) × (length new ≤ steps))
    ⊎ ((¬ MayStandAbove s above place) × (new ≡ old))
HasTried s steps above place old new false = (new ≡ old) × (steps ≤ length old)

-- each place above the tail was tried; or there was no room for a tail more
abbrev pub HasGrown : Accepts → Search → Links → ℕ → List ℕ → code.Queue → Bool → Type 0
HasGrown accepts s links steps above queue true = length (issuers_above s links above) ≤ queue.tried
HasGrown accepts s links steps above queue false = HasRightTails accepts s steps

-- wherever the links are right, the queue stands at the tail as before, with each place above it tried; or there was no room for a tail
abbrev pub Grows : Search → Links → ℕ → List ℕ → code.Queue → code.Queue → Bool → Type 0
Grows s links steps above old new done =
    (accepts : Accepts) (last : Option Candidate) → AreLinks accepts s links → IsAt accepts s links last above old
    → IsAt accepts s links last above new × HasGrown accepts s links steps above new done

-- the last candidate, once the answer is out
abbrev pub last_after : Option Candidate → Answer → Option Candidate
last_after last (Found c) = Some (seen_candidate c)
last_after last NotFound = last
last_after last GaveUp = last

-- an answer, behind which the queue stands then; or the queue stands behind the last candidate still, at a later tail
abbrev pub StepsTo : Accepts → Search → Links → ℕ → Option Candidate → code.Queue → Option Answer → Type 0
StepsTo accepts s links steps last queue None = StandsBehind accepts s links last queue
StepsTo accepts s links steps last queue (Some answer) =
    IsAnswerWithin accepts s steps last answer × StandsBehind accepts s links (last_after last answer) queue

-- wherever the links are right and each anchor above the tail was handed out, a step is taken
abbrev pub Turns : Search → Links → ℕ → List ℕ → code.Queue → code.Queue → Option Answer → Type 0
Turns s links steps above old new answer =
    (accepts : Accepts) (last : Option Candidate) → AreLinks accepts s links → IsAt accepts s links last above old
    → length (anchors_above s links above) ≤ old.number → StepsTo accepts s links steps last new answer

-- wherever the links are right, a step is taken
abbrev pub Steps : Search → Links → ℕ → code.Queue → code.Queue → Option Answer → Type 0
Steps s links steps old new answer =
    (accepts : Accepts) (last : Option Candidate) → AreLinks accepts s links → StandsBehind accepts s links last old
    → StepsTo accepts s links steps last new answer

-- wherever the links are right, the queue stands at the tail as before
abbrev pub StaysAt : Search → Links → List ℕ → code.Queue → code.Queue → Type 0
StaysAt s links above old new =
    (accepts : Accepts) (last : Option Candidate) → AreLinks accepts s links → IsAt accepts s links last above old → IsAt accepts s links last above new

-- wherever the links are right, the queue stands behind the same candidate as before
abbrev pub Stays : Search → Links → code.Queue → code.Queue → Type 0
Stays s links old new =
    (accepts : Accepts) (last : Option Candidate) → AreLinks accepts s links → StandsBehind accepts s links last old → StandsBehind accepts s links last new

-- wherever the links are right, the answer is that behind the last candidate, and the queue stands behind it
abbrev pub Answers : Search → Links → ℕ → code.Queue → code.Queue → Answer → Type 0
Answers s links steps old new answer =
    (accepts : Accepts) (last : Option Candidate) → AreLinks accepts s links → StandsBehind accepts s links last old
    → IsAnswerWithin accepts s steps last answer × StandsBehind accepts s links (last_after last answer) new

-- with no answer the queue stands at the next tail
abbrev pub IsOnward : Option Answer → code.Queue → code.Queue → Type 0
IsOnward None old new = new.index ≡ old.index + 1
IsOnward (Some answer) old new = Unit {0}

-- the walk stands at the same tail, and has handed out as many anchors above it
abbrev pub IsAtSameTail : code.Queue → code.Queue → Type 0
IsAtSameTail old new = (new.index ≡ old.index) × (new.number ≡ old.number)

-- more tails than these are in the queue only if they were before
abbrev pub IsBounded : ℕ → code.Queue → code.Queue → Type 0
IsBounded steps old new = length (seen_tails new) ≤ max steps (length (seen_tails old))

-- the target is right by itself
abbrev pub HasRightTarget : Search → Type 0
HasRightTarget s = IsRightAsTarget s.options s.moment s.purpose s.target

-- the tail that has the target alone, if it is right; otherwise none
abbrev pub AreFirst : Search → List (List ℕ) → Type 0
AreFirst s tails = (HasRightTarget s × (tails ≡ [] ∷ [])) ⊎ ((¬ HasRightTarget s) × (tails ≡ []))

-- Tails in a queue: ends of paths, each given by the places above the target.
use Rattle.std.specs.Prelude.{◌≡◌, ◌⊎◌, ◌<◌, ◌≤◌, ℕ, List, [], ◌∷◌, ◌++◌, length, map, take, slice_index, slice_index_or}
use Rattle.std.specs.Global.{Vec}
use Rattle.std.specs.List.{All, AllPairs}
use Rattle.path_issuers.specs.Search.{ArePlacesBefore}
use Rattle.path_search.specs.declared.queue.Queue as code

-- the shorter tail first, and of those as long the one with the lesser place where they first differ
abbrev pub IsTailBefore : List ℕ → List ℕ → Type 0
IsTailBefore one other = (length one < length other) ⊎ ((length one ≡ length other) × ArePlacesBefore one other)

-- the place is one of the first `tried` ones
abbrev pub IsTried : List ℕ → ℕ → ℕ → Type 0
IsTried places tried place = (k : ℕ) × (k < tried) × (k < length places) × (slice_index places k ≡ place)

-- the place is one of the others
abbrev pub IsUntried : List ℕ → ℕ → ℕ → Type 0
IsUntried places tried place = (k : ℕ) × (tried ≤ k) × (k < length places) × (slice_index places k ≡ place)

-- the tail is one before `above` with a place more, or `above` with one of the places that were tried above it
pub record IsGrown (next : List ℕ → List ℕ) (above : List ℕ) (tried : ℕ) (tail : List ℕ) : Type 0 where
  pub below : List ℕ
  pub place : ℕ
  pub is : tail ≡ below ++ place ∷ []
  pub early : IsTailBefore below above ⊎ ((below ≡ above) × IsTried (next above) tried place)

-- a front of the places is in the queue, and the place that follows there has not been tried
pub record IsWaiting (next : List ℕ → List ℕ) (tails : List (List ℕ)) (index tried : ℕ) (above : List ℕ) : Type 0 where
  pub front : ℕ
  pub at : ℕ
  pub short : front ≤ length above
  pub there : at < length tails
  pub ahead : index ≤ at
  pub is : slice_index_or tails at [] ≡ take front above
  pub untried : at ≡ index → front < length above → IsUntried (next (take front above)) tried (slice_index above front)

-- A queue of right tails, in order. The walk is done with the first `index` ones, and has tried the first `tried` places above the next
-- one; `next` has those that may be tried above a tail. Each tail that is wanted grows out of one in the queue.
pub record IsQueue (next : List ℕ → List ℕ) (Right Wanted : List ℕ → Type 0) (tails : List (List ℕ)) (index tried : ℕ) : Type 0 where
  pub right : All Right tails
  pub ordered : AllPairs IsTailBefore tails
  pub grown : index < length tails → All (λ tail. (tail ≡ []) ⊎ IsGrown next (slice_index_or tails index []) tried tail) tails
  pub waiting : (above : List ℕ) → Wanted above → IsWaiting next tails index tried above

abbrev pub places_of : Vec (Vec ℕ) → List (List ℕ)
places_of tails = map (λ tail. tail.items) tails.items

abbrev pub seen_tails : code.Queue → List (List ℕ)
seen_tails queue = places_of queue.tails

-- a walk over the tails stands at the first of them
abbrev pub StandsFirst : Vec (Vec ℕ) → code.Queue → Type 0
StandsFirst tails queue = queue ≡ record { tails = tails; index = 0; number = 0; tried = 0 }

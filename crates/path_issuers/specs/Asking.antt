-- What is asked of a verifier, and what the answers are.
use Rattle.std.specs.Prelude.{◌≡◌, ◌⊎◌, ◌+◌, ◌*◌, ◌<◌, ◌≤◌, ℕ, zero, suc, List, [], ◌++◌, Option, Some, None, Contains, length, map, vec_len}
use Rattle.std.specs.List.Sorted.{IsStrictlyIncreasing}
use Rattle.path.specs.Query.{Accepts}
use Rattle.path_issuers.specs.Search.{Search}
use Rattle.path_issuers.specs.Links.{IsIssuer, IsAnchor}
use Rattle.path_issuers.specs.Lists.{list_at}
use Rattle.path_issuers.specs.Naming.{IsUseful, anchors_naming, named_by}
use Rattle.path_issuers.specs.Frontier.{IsSeen, Waits, left_of}
use Rattle.path_issuers.specs.Questions.{IsAnsweredYes}
use Rattle.path_issuers.specs.declared.asking.Sought.{Sought}
use Rattle.path_issuers.specs.declared.asking.Sought.TheVariants.{AnchorsOf, IssuedBy}
use Rattle.path_issuers.specs.declared.question.Issuer.TheVariants.{Anchor, Bag}
use Rattle.path_issuers.specs.declared.question.SearchQuestion.{SearchQuestion}
use Rattle.path_issuers.specs.declared.naming.Naming.{Naming}
use Rattle.path_issuers.specs.declared.frontier.Frontier.{Frontier}

-- how many questions there can be: each certificate, and who may have issued it
abbrev pub count_pairs : Search → ℕ
count_pairs s = (length s.bag + 1) * (length s.anchors + length s.bag)

-- so many questions are asked at most; if there is no answer, fewer were left
abbrev pub IsWithin : {X : Type 0} → ℕ → ℕ → ℕ → Option X → Type 0
IsWithin most old new None = old < most
IsWithin most old new (Some answer) = old ≤ new + most

-- those of the places that pass a test, in their order
pub record ArePicked (IsPicked : ℕ → Type 0) (places picked : List ℕ) : Type 0 where
  pub pass : (place : ℕ) → Contains picked place → Contains places place × IsPicked place
  pub all : (place : ℕ) → Contains places place → IsPicked place → Contains picked place
  pub ascending : IsStrictlyIncreasing places → IsStrictlyIncreasing picked

-- up to a bound, all anchors that issued the useful certificates, and none that did not issue one
pub record AreAnchors (accepts : Accepts) (s : Search) (naming : Naming) (bound : ℕ) (anchors : List (List ℕ)) : Type 0 where
  pub count : length anchors ≡ bound
  pub each : (below anchor : ℕ) → Contains (list_at anchors below) anchor → IsAnchor accepts s below anchor
  pub all : (below anchor : ℕ) → below < bound → IsUseful naming below → IsAnchor accepts s below anchor → Contains (list_at anchors below) anchor
  pub ascending : (below : ℕ) → IsStrictlyIncreasing (list_at anchors below)

-- the useful certificates that the one at a place issued
pub record AreIssuedBy (accepts : Accepts) (s : Search) (naming : Naming) (place : ℕ) (issued : List ℕ) : Type 0 where
  pub each : (below : ℕ) → Contains issued below → (below < length s.bag + 1) × IsIssuer accepts s below place
  pub all : (below : ℕ) → below ≤ length s.bag → IsUseful naming below → IsIssuer accepts s below place → Contains issued below
  pub ascending : IsStrictlyIncreasing issued

-- what is known while places that were reached wait: each other one has whom it issued recorded and reached
pub record IsDescending (accepts : Accepts) (s : Search) (naming : Naming) (start frontier : Frontier) (issued : List (List ℕ)) : Type 0 where
  pub size : vec_len frontier.seen ≡ length s.bag
  pub count : length issued ≡ length s.bag
  pub kept : (place : ℕ) → IsSeen start place → IsSeen frontier place
  pub each : (below place : ℕ) → Contains (list_at issued place) below → (below < length s.bag + 1) × IsIssuer accepts s below place
  pub all : (below place : ℕ) → below ≤ length s.bag → IsUseful naming below → IsSeen frontier place → IsIssuer accepts s below place
      → (Contains (list_at issued place) below × (below < length s.bag → IsSeen frontier below)) ⊎ Waits frontier place
  pub ascending : (place : ℕ) → IsStrictlyIncreasing (list_at issued place)

-- from the places that are seen at first on downward, all that reached authorities issued
pub record AreReached (accepts : Accepts) (s : Search) (naming : Naming) (start : Frontier) (issued : List (List ℕ)) : Type 0 where
  pub last : Frontier
  pub count : length issued ≡ length s.bag
  pub kept : (place : ℕ) → IsSeen start place → IsSeen last place
  pub each : (below place : ℕ) → Contains (list_at issued place) below → (below < length s.bag + 1) × IsIssuer accepts s below place
  pub all : (below place : ℕ) → below ≤ length s.bag → IsUseful naming below → IsSeen last place → IsIssuer accepts s below place
      → Contains (list_at issued place) below × (below < length s.bag → IsSeen last below)
  pub ascending : (place : ℕ) → IsStrictlyIncreasing (list_at issued place)

-- the places that have an anchor are seen
abbrev pub SeesAnchored : ℕ → List (List ℕ) → Frontier → Type 0
SeesAnchored count anchors frontier = (place anchor : ℕ) → place < count → Contains (list_at anchors place) anchor → IsSeen frontier place

-- each place that is seen waits
abbrev pub AllWait : Frontier → Type 0
AllWait frontier = (place : ℕ) → IsSeen frontier place → Waits frontier place

-- the same so far, of a walk that has gone on from no place yet
pub record IsStarting (count bound : ℕ) (anchors : List (List ℕ)) (frontier : Frontier) : Type 0 where
  pub size : vec_len frontier.seen ≡ count
  pub left : left_of frontier ≡ count
  pub seen : (place anchor : ℕ) → place < bound → place < count → Contains (list_at anchors place) anchor → IsSeen frontier place
  pub wait : AllWait frontier

-- the places are seen
abbrev pub SeesEach : List ℕ → Frontier → Frontier → Type 0
SeesEach places old new = (place : ℕ) → Contains places place → place < vec_len old.seen → IsSeen new place

-- lists one behind the other, of the numbers below a bound
abbrev pub joined_below : {X : Type 0} → (ℕ → List X) → ℕ → List X
joined_below lists zero = []
joined_below lists (suc bound) = joined_below lists bound ++ lists bound

-- the question about the one at a place, of those that are sought
abbrev pub question_about : Sought → ℕ → SearchQuestion
question_about (AnchorsOf below) anchor = record { issuer = Anchor anchor; certificate = below }
question_about (IssuedBy place) below = record { issuer = Bag place; certificate = below }

-- the one at the place is sought
abbrev pub IsSought : Accepts → Search → Sought → ℕ → Type 0
IsSought accepts s sought place = IsAnsweredYes accepts s (question_about sought place)

-- the questions about a certificate and the anchors that have the name of its issuer
abbrev pub about_anchors : Naming → ℕ → List SearchQuestion
about_anchors naming below = map (question_about (AnchorsOf below)) (anchors_naming naming below)

-- the questions about a certificate and those whose issuer has its name
abbrev pub about_issued : Naming → ℕ → List SearchQuestion
about_issued naming place = map (question_about (IssuedBy place)) (named_by naming place)

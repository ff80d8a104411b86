-- Which path is found among the certificates of a bag, under the anchors of a list (RFC 4158).
use Rattle.std.specs.Prelude.{◌≡◌, ◌⊎◌, ◌<◌, ℕ, ℤ, List, [], ◌∷◌, ◌++◌, Option, length, map, reverse, slice_index_or}
use Rattle.std.specs.List.{AllByRecursion}
use Rattle.cert.specs.Certificate.{Certificate}
use Rattle.path.specs.declared.options.Options.{Options}
use Rattle.path.specs.Query.{Accepts, Query}
use Rattle.path.specs.Validity.{IsValidPath}

-- What is searched: the anchors, of which the name and the key alone are used, the certificates at hand, and the one that is asked about.
pub record Search : Type 0 where
  pub anchors : List Certificate
  pub bag : List Certificate
  pub target : Certificate
  -- in seconds from 1970-01-01T00:00:00Z
  pub moment : ℤ
  -- the contents of an OBJECT IDENTIFIER
  pub purpose : Option (List ℕ)
  -- what is asked for besides
  pub options : Options

-- A candidate: the place of its anchor, and the places in the bag of the certificates above the target, from the target upward.
pub record Candidate : Type 0 where
  pub anchor : ℕ
  pub above : List ℕ

-- the anchor and the certificates are there
pub record IsCandidate (s : Search) (c : Candidate) : Type 0 where
  pub anchor : c.anchor < length s.anchors
  pub above : AllByRecursion (λ place. place < length s.bag) c.above

-- the certificates at places of a bag; at a place that is not there, the target
abbrev pub certificates_at : Certificate → List Certificate → List ℕ → List Certificate
certificates_at target bag places = map (λ place. slice_index_or bag place target) places

-- the certificates down to a target, of which those above it are given by their places, from the target upward
abbrev pub path_down_to : Certificate → List Certificate → List ℕ → List Certificate
path_down_to target bag above = reverse (target ∷ certificates_at target bag above)

-- the question about its path (RFC 5280, 6.1.1)
abbrev pub query_about : Search → Candidate → Query
query_about s c = record {
  anchor = slice_index_or s.anchors c.anchor s.target;
  certificates = path_down_to s.target s.bag c.above;
  moment = s.moment;
  purpose = s.purpose;
  options = s.options;
}

-- its path is valid (RFC 5280, 6.1)
pub record IsValidCandidate (accepts : Accepts) (s : Search) (c : Candidate) : Type 0 where
  pub candidate : IsCandidate s c
  pub valid : IsValidPath accepts (query_about s c)

-- the lesser place decides where two lists first differ
abbrev pub ArePlacesBefore : List ℕ → List ℕ → Type 0
ArePlacesBefore [] others = ⊥
ArePlacesBefore (place ∷ places) [] = ⊥
ArePlacesBefore (place ∷ places) (other ∷ others) = (place < other) ⊎ ((place ≡ other) × ArePlacesBefore places others)

-- the same of the certificates above the target, and of the anchors where these are the same
abbrev pub IsBeforeAtSameLength : Candidate → Candidate → Type 0
IsBeforeAtSameLength one other =
    ArePlacesBefore one.above other.above ⊎ ((one.above ≡ other.above) × (one.anchor < other.anchor))

-- the order in which candidates are tried: the shorter path first
abbrev pub IsBefore : Candidate → Candidate → Type 0
IsBefore one other =
    (length one.above < length other.above) ⊎ ((length one.above ≡ length other.above) × IsBeforeAtSameLength one other)

-- the first valid candidate
pub record IsFirstValid (accepts : Accepts) (s : Search) (c : Candidate) : Type 0 where
  pub valid : IsValidCandidate accepts s c
  pub first : (other : Candidate) → IsBefore other c → ¬ IsValidCandidate accepts s other

-- there is none
abbrev pub HasNoValid : Accepts → Search → Type 0
HasNoValid accepts s = (c : Candidate) → ¬ IsValidCandidate accepts s c

-- laws

-- a further place puts its certificate at the top
abbrev pub TailGrows : Type 0
TailGrows =
    (target : Certificate) (bag : List Certificate) (above : List ℕ) (place : ℕ) →
    path_down_to target bag (above ++ place ∷ []) ≡ slice_index_or bag place target ∷ path_down_to target bag above

-- a search has at most one first valid candidate
abbrev pub FirstValidIsOne : Type 0
FirstValidIsOne =
    (accepts : Accepts) (s : Search) (one other : Candidate) →
    IsFirstValid accepts s one → IsFirstValid accepts s other → one ≡ other

-- of two candidates one comes before the other, or both are the same
abbrev pub CandidatesAreOrdered : Type 0
CandidatesAreOrdered = (one other : Candidate) → IsBefore one other ⊎ ((one ≡ other) ⊎ IsBefore other one)

-- Which of the certificates at hand issued which, and which anchors did. A certificate goes by its place in the bag, the target by the
-- place behind the last one.
use Rattle.std.specs.Prelude.{◌<◌, ℕ, List, [], ◌∷◌, Contains, length, map, slice_index_or}
use Rattle.std.specs.List.Sorted.{IsStrictlyIncreasing}
use Rattle.cert.specs.Certificate.{Certificate}
use Rattle.path.specs.Query.{Accepts}
use Rattle.path_issuers.specs.Factors.{IsRightAsAuthority, Issues}
use Rattle.path_issuers.specs.Search.{Search, Candidate, IsValidCandidate}
use Rattle.path_issuers.specs.declared.links.Links as code

-- for each place, those of the certificates that issued the one there, and those of the anchors that did
pub record Links : Type 0 where
  pub issuers : List (List ℕ)
  pub anchors : List (List ℕ)

abbrev pub seen_links : code.Links → Links
seen_links links = record {
  issuers = map (λ issuers. issuers.items) links.issuers.items;
  anchors = map (λ anchors. anchors.items) links.anchors.items;
}

abbrev pub issuers_of : Links → ℕ → List ℕ
issuers_of links place = slice_index_or links.issuers place []

abbrev pub anchors_of : Links → ℕ → List ℕ
anchors_of links place = slice_index_or links.anchors place []

abbrev pub certificate_at : Search → ℕ → Certificate
certificate_at s place = slice_index_or s.bag place s.target

abbrev pub anchor_at : Search → ℕ → Certificate
anchor_at s place = slice_index_or s.anchors place s.target

-- at the place stands an authority of the bag that issued the certificate
pub record IsIssuer (accepts : Accepts) (s : Search) (below place : ℕ) : Type 0 where
  pub there : place < length s.bag
  pub authority : IsRightAsAuthority s.options s.moment (certificate_at s place)
  pub issues : Issues accepts (certificate_at s place) (certificate_at s below)

-- at the place stands an anchor that issued the certificate
pub record IsAnchor (accepts : Accepts) (s : Search) (below place : ℕ) : Type 0 where
  pub there : place < length s.anchors
  pub issues : Issues accepts (anchor_at s place) (certificate_at s below)

-- each certificate is linked to the next one upward, and the last to the anchor
abbrev pub LeadsUp : Links → ℕ → List ℕ → ℕ → Type 0
LeadsUp links below [] anchor = Contains (anchors_of links below) anchor
LeadsUp links below (place ∷ above) anchor = Contains (issuers_of links below) place × LeadsUp links place above anchor

-- each link says who issued whom, and no link of a valid path is missing
pub record AreLinks (accepts : Accepts) (s : Search) (links : Links) : Type 0 where
  pub issuers : (below place : ℕ) → Contains (issuers_of links below) place → IsIssuer accepts s below place
  pub anchors : (below place : ℕ) → Contains (anchors_of links below) place → IsAnchor accepts s below place
  pub issuers_ascend : (below : ℕ) → IsStrictlyIncreasing (issuers_of links below)
  pub anchors_ascend : (below : ℕ) → IsStrictlyIncreasing (anchors_of links below)
  pub whole : (c : Candidate) → IsValidCandidate accepts s c → LeadsUp links (length s.bag) c.above c.anchor

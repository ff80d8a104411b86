-- Who issued whom, of all from whom names lead to the target.
use Rattle.std.specs.Prelude.{◌≡◌, ◌+◌, ◌<◌, ◌≤◌, ℕ, List, Contains, length}
use Rattle.std.specs.List.Sorted.{IsStrictlyIncreasing}
use Rattle.path.specs.Query.{Accepts}
use Rattle.path_issuers.specs.Search.{Search}
use Rattle.path_issuers.specs.Factors.{IsRightAsAuthority, Issues}
use Rattle.path_issuers.specs.Links.{Links, IsIssuer, certificate_at, issuers_of}
use Rattle.path_issuers.specs.Lists.{list_at}
use Rattle.path_issuers.specs.Naming.{IsUseful}
use Rattle.path_issuers.specs.Questions.{LeadsToTarget}
use Rattle.path_issuers.specs.declared.naming.Naming.{Naming}

-- at the place stands a certificate of the bag that issued the other one, whether it is an authority or not
pub record HasIssued (accepts : Accepts) (s : Search) (below place : ℕ) : Type 0 where
  pub there : place < length s.bag
  pub issues : Issues accepts (certificate_at s place) (certificate_at s below)

-- for each place before a bound, all useful certificates that the one there issued, and none that it did not issue
pub record AreIssued (accepts : Accepts) (s : Search) (naming : Naming) (bound : ℕ) (issued : List (List ℕ)) : Type 0 where
  pub count : length issued ≡ bound
  pub each : (below place : ℕ) → Contains (list_at issued place) below → (below < length s.bag + 1) × HasIssued accepts s below place
  pub all : (below place : ℕ) → place < bound → below ≤ length s.bag → IsUseful naming below → HasIssued accepts s below place
      → Contains (list_at issued place) below
  pub ascending : (place : ℕ) → IsStrictlyIncreasing (list_at issued place)

-- for each place, those that issued the certificate there; all of them, if it leads to the target by names
pub record AreSigners (accepts : Accepts) (s : Search) (signers : List (List ℕ)) : Type 0 where
  pub each : (below place : ℕ) → Contains (list_at signers below) place → HasIssued accepts s below place
  pub all : (below place : ℕ) → LeadsToTarget s below → HasIssued accepts s below place → Contains (list_at signers below) place
  pub ascending : (below : ℕ) → IsStrictlyIncreasing (list_at signers below)

-- an authority stands at the place
abbrev pub IsAuthorityAt : Search → ℕ → Type 0
IsAuthorityAt s place = IsRightAsAuthority s.options s.moment (certificate_at s place)

-- each link says who issued whom, and no authority is missing above a certificate that leads to the target by names
pub record AreAuthorityLinks (accepts : Accepts) (s : Search) (links : Links) : Type 0 where
  pub issuers : (below place : ℕ) → Contains (issuers_of links below) place → IsIssuer accepts s below place
  pub ascend : (below : ℕ) → IsStrictlyIncreasing (issuers_of links below)
  pub whole : (below place : ℕ) → LeadsToTarget s below → IsIssuer accepts s below place → Contains (issuers_of links below) place

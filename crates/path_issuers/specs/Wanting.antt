-- Which names lead to the target.
use Rattle.std.specs.Prelude.{◌≡◌, ◌⊎◌, ◌<◌, ℕ, List, Contains, length, slice_index, vec_len}
use Rattle.path_issuers.specs.declared.frontier.Frontier.{Frontier}
use Rattle.path_issuers.specs.Frontier.{IsSeen, Waits}
use Rattle.path_issuers.specs.Naming.{LeadsBelow}

-- the names of the issuers are seen
abbrev pub SeesIssuers : List ℕ → List ℕ → Frontier → Frontier → Type 0
SeesIssuers issuers places old new =
    (place : ℕ) → Contains places place → slice_index issuers place < vec_len old.seen → IsSeen new (slice_index issuers place)

-- the name is that of the issuer of one of the places
abbrev pub IsIssuerOf : List ℕ → List ℕ → ℕ → Type 0
IsIssuerOf issuers places number = (place : ℕ) × Contains places place × (slice_index issuers place ≡ number)

-- what is known while names wait: the first one is seen, and the issuer of each certificate whose name is seen and does not wait
pub record IsWanting (subjects issuers : List ℕ) (count : ℕ) (frontier : Frontier) : Type 0 where
  pub size : vec_len frontier.seen ≡ count
  pub first : IsSeen frontier (slice_index issuers (length subjects))
  pub next : (place : ℕ) → place < length subjects → IsSeen frontier (slice_index subjects place)
      → IsSeen frontier (slice_index issuers place) ⊎ Waits frontier (slice_index subjects place)
  pub seen : (number : ℕ) → IsSeen frontier number → LeadsBelow subjects issuers number
  pub waits : (number : ℕ) → Waits frontier number → LeadsBelow subjects issuers number

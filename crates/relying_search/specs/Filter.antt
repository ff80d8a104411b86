-- What a filter of paths tells.
use Rattle.std.specs.Prelude.{◌↔◌, Bool, IsTrue}
use Rattle.path.specs.Query.{Accepts}
use Rattle.path_issuers.specs.Search.{Search, Candidate, IsValidCandidate}

-- whoever accepts signatures so that the candidate's path is valid, this tells whether it counts
abbrev pub TellsWhether : (Accepts → Search → Candidate → Type 0) → Search → Candidate → Bool → Type 0
TellsWhether counts s c told = (accepts : Accepts) → IsValidCandidate accepts s c → (IsTrue told ↔ counts accepts s c)

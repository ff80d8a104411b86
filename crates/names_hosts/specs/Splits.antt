-- What stands before and behind the last octet of one value, and what stands between two.
use Rattle.std.specs.Prelude.{◌≡◌, ◌≢◌, ◌==◌, ℕ, List, [], ◌∷◌, ◌++◌, Option, Some, None, if◌then◌else◌}
use Rattle.std.specs.Bool.{then_some}
use Rattle.std.specs.List.{All}

-- the text is cut at the last of these octets
pub record IsLastSplit (mark : ℕ) (text front behind : List ℕ) : Type 0 where
  pub joined : text ≡ front ++ mark ∷ behind
  pub none : All (λ octet. octet ≢ mark) behind

abbrev pub split_step : ℕ → ℕ → List ℕ → Option (List ℕ × List ℕ) → Option (List ℕ × List ℕ)
split_step mark octet rest (Some parts) = Some (octet ∷ parts.0, parts.1)
split_step mark octet rest None = then_some (octet == mark) ([], rest)

abbrev pub last_split : ℕ → List ℕ → Option (List ℕ × List ℕ)
last_split mark [] = None
last_split mark (octet ∷ rest) = split_step mark octet rest (last_split mark rest)

-- what stands before an octet at the end
abbrev pub end_step : ℕ → Option (List ℕ) → Option (List ℕ)
end_step octet None = None
end_step octet (Some front) = Some (octet ∷ front)

abbrev pub before_end : ℕ → List ℕ → Option (List ℕ)
before_end close [] = None
before_end close (octet ∷ []) = then_some (octet == close) []
before_end close (octet ∷ next ∷ rest) = end_step octet (before_end close (next ∷ rest))

-- what stands between an octet at the front and another at the end
abbrev pub between : ℕ → ℕ → List ℕ → Option (List ℕ)
between start close [] = None
between start close (octet ∷ rest) = if octet == start then before_end close rest else None

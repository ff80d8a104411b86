-- Lines with which a source of octets begins.
use Rattle.std.specs.Prelude.{◌≢◌, ◌⊎◌, ◌≤◌, ◌<◌, ◌^◌, ℕ, List, [], ◌∷◌, ◌++◌, length, Option, Some, None}
use Rattle.std.specs.List.{AllByRecursion}
use Rattle.std.specs.Io.KnownBytes.{Consumes, IsAtEnd}
use Rattle.cli_answers.specs.declared.lines.LineRead.{LineRead}
use Rattle.cli_answers.specs.declared.lines.LineRead.TheVariants.{Line, TooLong, End}

-- none of the octets is a line feed
abbrev pub HasNoFeed : List ℕ → Type 0
HasNoFeed octets = AllByRecursion (λ octet. octet ≢ 10) octets

-- The source gave these octets, and a line feed behind them or its end.
abbrev pub GivesLine : Option (List ℕ) → Option (List ℕ) → List ℕ → Type 0
GivesLine old new line =
    HasNoFeed line × (Consumes old new (line ++ 10 ∷ []) ⊎ (Consumes old new line × IsAtEnd new))

-- What was read from the source, where the buffer holds these octets then: a line of at most 2^20 octets, which is not empty where it is
-- the last and has no line feed; a longer one, which begins with them; or nothing, at the end.
abbrev pub IsLineRead : Option (List ℕ) → Option (List ℕ) → List ℕ → LineRead → Type 0
IsLineRead old new held Line =
    HasNoFeed held × (length held ≤ 2 ^ 20)
    × (Consumes old new (held ++ 10 ∷ []) ⊎ ((0 < length held) × Consumes old new held × IsAtEnd new))
IsLineRead old new held TooLong =
    (rest : List ℕ) × (2 ^ 20 < length (held ++ rest)) × GivesLine old new (held ++ rest)
IsLineRead old new held End = Consumes old new [] × IsAtEnd new

-- ---- on the way

-- an octet was read, or the source is at its end
abbrev pub TakesOctet : Option (List ℕ) → Option (List ℕ) → Option ℕ → Type 0
TakesOctet old new (Some octet) = Consumes old new (octet ∷ [])
TakesOctet old new None = Consumes old new [] × IsAtEnd new

-- the rest of a line was read
abbrev pub PassesLine : Option (List ℕ) → Option (List ℕ) → Type 0
PassesLine old new = (rest : List ℕ) × GivesLine old new rest

-- behind 2^20 octets: a line feed, the end, or more of the line
abbrev pub EndsFull : Option (List ℕ) → Option (List ℕ) → LineRead → Type 0
EndsFull old new Line = Consumes old new (10 ∷ []) ⊎ (Consumes old new [] × IsAtEnd new)
EndsFull old new TooLong = (rest : List ℕ) × (0 < length rest) × GivesLine old new rest
EndsFull old new End = ⊥

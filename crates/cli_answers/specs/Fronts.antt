-- Texts of which a writer takes a front.
use Rattle.std.specs.Prelude.{ℕ, List, Option, take}
use Rattle.std.specs.Io.KnownBytes.{Appends}

-- a writer has taken a front of the text, which may be nothing
abbrev pub TakesFront : Option (List ℕ) → Option (List ℕ) → List ℕ → Type 0
TakesFront output written text = (n : ℕ) × Appends output written (take n text)

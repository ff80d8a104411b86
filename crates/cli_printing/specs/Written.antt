-- What a writer holds once something was written.
use Rattle.std.specs.Prelude.{ℕ, List, OnOk, Option, Result}
use Rattle.std.specs.Io.KnownBytes.{Appends}

-- where Ok is answered, this text stands behind what the writer held, and nothing else
abbrev pub Writes : {W T E : Type 0} → (W → Option (List ℕ)) → W → W → Result T E → List ℕ → Type 0
Writes contents old new result text = OnOk result (Appends (contents old) (contents new) text)

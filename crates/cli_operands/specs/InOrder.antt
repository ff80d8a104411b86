-- Checks one after the other.
use Rattle.std.specs.Prelude.{◌⊎◌}
use Rattle.cli_failures.specs.declared.failure.Failure.{Failure}

-- The first of two decides: it fails so, or it passes and what comes next fails so.
abbrev pub FailsFirst : (Failure → Type 0) → Type 0 → (Failure → Type 0) → Failure → Type 0
FailsFirst fails passes next failure = fails failure ⊎ (passes × next failure)

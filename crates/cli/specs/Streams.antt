-- The streams of a run.
use Rattle.std.specs.Prelude.{◌≡◌, ◌⊎◌, ℕ, List, Option, Result, Ok, Err}
use Rattle.std.specs.Global.{Vec}
use Rattle.std.specs.Io.KnownBytes.{Appends, Keeps}
use Rattle.cli_failures.specs.declared.failure.Failure.{Failure}
use Rattle.cli_failures.specs.declared.failure.Failure.TheVariants.{Unwritable}
use Rattle.cli_answers.specs.Fronts.{TakesFront}

-- what standard input had left and what standard output took, before the run and behind it, where that is known
pub record Streams : Type 0 where
  pub input : Option (List ℕ)
  pub source : Option (List ℕ)
  pub output : Option (List ℕ)
  pub written : Option (List ℕ)

-- those of a reader and of a writer
abbrev pub streams : {I O : Type 0} → (I → Option (List ℕ)) → I → I → (O → Option (List ℕ)) → O → O → Streams
streams remaining input source contents output written = record {
  input = remaining input;
  source = remaining source;
  output = contents output;
  written = contents written;
}

-- This failed, and nothing was written; or there was a text to write, and standard output failed behind a front of it.
abbrev pub FailsOrCuts : (Failure → Type 0) → (List ℕ → Type 0) → Option (List ℕ) → Option (List ℕ) → Failure → Type 0
FailsOrCuts Fails Is output written failure =
    (Fails failure × Keeps output written)
    ⊎ ((failure ≡ Unwritable) × ((text : List ℕ) × Is text × TakesFront output written text))

-- there is a text, and all of it was written
abbrev pub WritesAll : Result (Vec ℕ) Failure → Option (List ℕ) → Option (List ℕ) → Type 0
WritesAll (Ok text) output written = Appends output written text.items
WritesAll (Err failure) output written = ⊥

-- there is none, for this failure, and nothing was written; or standard output failed behind a front of it
abbrev pub FailsToWrite : Result (Vec ℕ) Failure → Option (List ℕ) → Option (List ℕ) → Failure → Type 0
FailsToWrite (Ok text) output written failure = (failure ≡ Unwritable) × TakesFront output written text.items
FailsToWrite (Err why) output written failure = (failure ≡ why) × Keeps output written

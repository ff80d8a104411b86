-- What is known of a store whose files last from run to run.
use Rattle.std.specs.Prelude.{⊤}
use Rattle.statements_facts.specs.declared.profile.Profile.TheVariants.{Stated}
use Rattle.cli_store.specs.Standing.{Places}

-- No clause knows what a cell holds, so anything may stand at a path, and be left there. What does stand there only tests show.
abbrev pub anything : Places
anything = record {
  profile = Stated;
  stands = λ path met. ⊤;
  leaves = λ path seen. ⊤;
  lasts = λ path left. ⊤;
}

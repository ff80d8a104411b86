use Rattle.cli_steps.proofs.CrashLaws.{loses_nothing}
use Rattle.cli_steps.proofs.laws.crash_law.Goals as goal

pub returns : goal.returns
returns g c = record { loses_nothing = loses_nothing _ }

use Rattle.cli_words.proofs.Behind.{behind_first}
use Rattle.cli_words.proofs.leading.seconds_in.Goals as goal

pub returns-in-Ok-clause-rest : goal.returns-in-Ok-clause-rest
returns-in-Ok-clause-rest c = behind_first c.args.words.now

use Rattle.std.proofs.Common.{rules}
use Rattle.cli_words.proofs.Behind.{behind_both, behind_first}
use Rattle.cli_words.proofs.leading.take_option.Goals as goal

pub returns-in-Some-clause-rest : goal.returns-in-Some-clause-rest
returns-in-Some-clause-rest c =
    behind_both c.args.it.words.now _ c.in-Some.behind.now (behind_first c.args.it.words.now) (search rules)

pub returns-in-Some-profile_in-clause-rest : goal.returns-in-Some-profile_in-clause-rest
returns-in-Some-profile_in-clause-rest c =
    behind_both c.args.it.words.now _ c.in-Some-profile_in.behind.now (behind_first c.args.it.words.now) (search rules)

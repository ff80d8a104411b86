use Rattle.cli_words.proofs.Behind.{behind_first, first_of}
use Rattle.cli_words.proofs.leading.profile_in.Goals as goal

pub returns-in-Some-clause-rest : goal.returns-in-Some-clause-rest
returns-in-Some-clause-rest c = behind_first c.args.words.now

pub returns-in-Some-clause-profile : goal.returns-in-Some-clause-profile
returns-in-Some-clause-profile c = (_, c.in-Some.ensures.profile, first_of c.args.words.now _ c.in-len1-up.len_at_least)

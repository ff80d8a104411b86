use Rattle.cli_words.proofs.Behind.{behind_both}
use Rattle.cli_words.proofs.leading.run_options.Goals as goal

pub returns-clause-rest : goal.returns-clause-rest
returns-clause-rest c =
    behind_both c.args.words.now c.take_option-2.result.words.now c.take_option-3.result.words.now
    (behind_both c.args.words.now c.take_option.result.words.now c.take_option-2.result.words.now c.take_option.ensures.rest c.take_option-2.ensures.rest)
    c.take_option-3.ensures.rest

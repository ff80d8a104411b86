use Rattle.cli_words.proofs.app.compare.Goals as goal

pub returns : goal.returns
returns c = c.arg.ensures _ _ (c.asking.ensures _ c.new-command.ensures) c.needed.ensures

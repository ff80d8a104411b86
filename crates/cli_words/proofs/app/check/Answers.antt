use Rattle.cli_words.proofs.app.check.Goals as goal

pub returns : goal.returns
returns c = c.asking_policies.ensures _ (c.asking.ensures _ c.new-command.ensures)

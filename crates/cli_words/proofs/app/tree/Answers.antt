use Rattle.cli_words.proofs.app.tree.Goals as goal

pub returns : goal.returns
returns c = c.arg.ensures _ _ c.new.ensures c.file.ensures

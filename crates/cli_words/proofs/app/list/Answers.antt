use Rattle.cli_words.proofs.app.list.Goals as goal

pub returns : goal.returns
returns c = c.arg-2.ensures _ _ (c.arg.ensures _ _ c.new.ensures c.store.ensures) c.option.ensures

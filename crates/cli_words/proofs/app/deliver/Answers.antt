use Rattle.cli_words.proofs.app.deliver.Goals as goal

pub returns : goal.returns
returns c = c.arg-4.ensures _ _ (c.arg-3.ensures _ _ (c.arg-2.ensures _ _ (c.arg.ensures _ _ c.new.ensures c.store.ensures) c.verdicts.ensures) c.issuer.ensures) c.file.ensures

use Rattle.cli_words.proofs.app.prints.Goals as goal

pub returns : goal.returns
returns c = c.arg-5.ensures _ _ (c.arg-4.ensures _ _ (c.arg-3.ensures _ _ (c.arg-2.ensures _ _ (c.arg.ensures _ _ c.new.ensures c.issuer.ensures) c.kind.ensures) c.flag.ensures) c.among.ensures) c.file.ensures

use Rattle.cli_words.proofs.app.find.Goals as goal

pub returns : goal.returns
returns c = c.arg-8.ensures _ _ (c.arg-7.ensures _ _ (c.arg-6.ensures _ _ (c.arg-5.ensures _ _ (c.arg-4.ensures _ _ (c.arg-3.ensures _ _ (c.arg-2.ensures _ _ (c.arg.ensures _ _ c.new.ensures c.store.ensures) c.verdicts.ensures) c.moment.ensures) c.anchors.ensures) c.among.ensures) c.purpose.ensures) c.option.ensures) c.target.ensures

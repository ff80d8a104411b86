use Rattle.cli_words.proofs.app.asking.Goals as goal

pub returns : goal.returns
returns c = λ a is. c.arg-6.ensures _ _ (c.arg-5.ensures _ _ (c.arg-4.ensures _ _ (c.arg-3.ensures _ _ (c.arg-2.ensures _ _ (c.arg.ensures _ _ is c.store.ensures) c.verdicts.ensures) c.moment.ensures) c.needed.ensures) c.purpose.ensures) c.certificates.ensures

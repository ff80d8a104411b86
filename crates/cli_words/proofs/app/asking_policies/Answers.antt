use Rattle.cli_words.proofs.app.asking_policies.Goals as goal

pub returns : goal.returns
returns c = λ a is. c.arg-4.ensures _ _ (c.arg-3.ensures _ _ (c.arg-2.ensures _ _ (c.arg.ensures _ _ is c.repeated.ensures) c.flag.ensures) c.flag-2.ensures) c.flag-3.ensures

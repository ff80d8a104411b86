use Rattle.relying_questions.proofs.signatures.key_of.Goals as goal

pub returns-clause-places : goal.returns-clause-places
returns-clause-places c = λ texts is. c.whole.ensures.stands texts is.key_info

use Rattle.relying_questions.proofs.signatures.of_answers.Goals as goal

pub returns-clause-places : goal.returns-clause-places
returns-clause-places c = λ texts signer is. record {
  algorithm = c.whole.ensures.stands texts is.signed.algorithm_stands;
  key_info = c.key_of.ensures.places texts signer;
  message = c.whole-2.ensures.stands texts is.signed.message_stands;
  signature = c.bits.ensures.stands texts is.signed.signature_stands;
}

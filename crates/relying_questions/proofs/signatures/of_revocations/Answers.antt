use Rattle.relying_questions.proofs.signatures.of_revocations.Goals as goal

pub returns-clause-places : goal.returns-clause-places
returns-clause-places c = λ texts issuer is. record {
  algorithm = c.whole.ensures.stands texts is.algorithm_stands;
  key_info = c.key_of.ensures.places texts issuer;
  message = c.whole-2.ensures.stands texts is.message_stands;
  signature = c.bits.ensures.stands texts is.signature_stands;
}

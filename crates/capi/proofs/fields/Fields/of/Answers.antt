use Rattle.std.proofs.Common.{rules, ◌∙◌}
use Rattle.capi.proofs.fields.Fields.of.Goals as goal

pub returns-clause-parts : goal.returns-clause-parts
returns-clause-parts c = λ text stands. record {
  version = c.from.ensures ∙ c.number.ensures;
  not_before = search rules;
  not_after = search rules;
  tbs = c.whole.ensures.part text stands.tbs;
  serial = c.contents.ensures.part text stands.serial;
  algorithm = c.whole-2.ensures.part text stands.algorithm;
  issuer = c.name.ensures.part text stands.issuer;
  subject = c.name-2.ensures.part text stands.subject;
  subject_public_key_info = c.whole-3.ensures.part text stands.key_info;
  key = c.bits.ensures.part text stands.key;
  signature = c.bits-2.ensures.part text stands.signature;
  extensions = c.of.ensures;
}

pub returns-clause-places : goal.returns-clause-places
returns-clause-places c = record {
  tbs = c.whole.ensures.place;
  serial = c.contents.ensures.place;
  algorithm = c.whole-2.ensures.place;
  issuer = c.name.ensures.place;
  subject = c.name-2.ensures.place;
  subject_public_key_info = c.whole-3.ensures.place;
  key = c.bits.ensures.place;
  signature = c.bits-2.ensures.place;
}

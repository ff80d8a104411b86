use Rattle.std.proofs.Common.{option_map}
use Rattle.relying_search.specs.View.{seen_link, seen_lists}
use Rattle.statements_facts.specs.Answer.{seen_ocsp}
use Rattle.relying_texts.specs.View.{facts_in_all}
use Rattle.relying_texts.proofs.Bearing.{bears}
use Rattle.relying_texts.proofs.verdicts.evidence_of.Goals as goal

pub returns : goal.returns
returns c =
    bears (facts_in_all c.args.genuine.now) (seen_link c.args.link.now) c.may_sign_crls.result
    (seen_lists c.in_ok-complete_lists_on.field-0.items) (seen_lists c.in_ok-limited_lists_on.field-0.items) (option_map seen_ocsp c.response_on.result)
    c.may_sign_crls.ensures c.in_ok-complete_lists_on.ensures c.in_ok-limited_lists_on.ensures c.response_on.ensures

use Rattle.std.proofs.Common.{sym, ◌∙◌, ap}
use Rattle.asn.specs.Place.{seen_tlv}
use Rattle.asn.specs.Members.{left}
use Rattle.asn.specs.Walk.{is_one_of}
use Rattle.asn.proofs.Walks.{choice_refused}
use Rattle.asn.proofs.tlv.Cursor.choice.Goals as goal

pub returns-else-contains-clause-walk : goal.returns-else-contains-clause-walk
returns-else-contains-clause-walk g c =
    let value = c.in_ok-value.value in
    choice_refused c.args.tags.now c.args.fault (left c.args.self.now) (seen_tlv value) _ c.in_ok-value.ensures.walk
    (ap (is_one_of c.args.tags.now) (sym value.tag_is) ∙ sym c.contains.ensures.value ∙ c.if-contains.false)

use Rattle.std.proofs.Common.{ap, ◌∙◌}
use Rattle.asn.specs.Place.{seen_tlv}
use Rattle.asn.specs.Members.{Members, left}
use Rattle.cert_hosts.specs.Mailboxes.{mailbox_of, seen_mail}
use Rattle.cert_hosts.specs.OwnNames.{email_of}
use Rattle.cert_hosts.proofs.Adding.{one_added}
use Rattle.cert_hosts.proofs.subject.take_attributes.Goals as goal

pub loop-attribute-preserved : goal.loop-attribute-preserved
loop-attribute-preserved c =
    one_added mailbox_of email_of (seen_mail c.loop-attribute.mail) _ (seen_tlv c.in-Some.attribute) (left c.loop-attribute.attributes).values _
    (ap (λ (m : Members). m.values) c.in-Some.ensures.step) c.in_ok-take_attribute.ensures ∙ c.loop-attribute.invariant

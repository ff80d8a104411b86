use Rattle.std.proofs.Common.{ap, ◌∙◌}
use Rattle.asn.specs.Place.{seen_tlv}
use Rattle.asn.specs.Members.{Members, left}
use Rattle.cert_hosts.specs.Mailboxes.{mailbox_of, seen_mail}
use Rattle.cert_hosts.specs.OwnNames.{emails_of_rdn}
use Rattle.cert_hosts.proofs.Adding.{one_added}
use Rattle.cert_hosts.proofs.subject.take_rdns.Goals as goal

pub loop-rdn-preserved : goal.loop-rdn-preserved
loop-rdn-preserved c =
    one_added mailbox_of emails_of_rdn (seen_mail c.loop-rdn.mail) _ (seen_tlv c.in-Some.rdn) (left c.loop-rdn.rdns).values _
    (ap (λ (m : Members). m.values) c.in-Some.ensures.step) c.in_ok-take_rdn.ensures ∙ c.loop-rdn.invariant

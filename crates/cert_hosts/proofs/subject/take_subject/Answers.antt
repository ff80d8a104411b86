use Rattle.std.proofs.Common.{List, subst}
use Rattle.std.specs.Prelude.{OnOk}
use Rattle.cert_hosts.specs.Mailboxes.{AddsMail, MailValue}
use Rattle.cert_hosts.specs.OwnNames.{emails_of}
use Rattle.cert_hosts.proofs.SameEmails.{rdns_same}
use Rattle.cert_hosts.proofs.subject.take_subject.Goals as goal

pub returns : goal.returns
unfolding emails_of
returns c =
    subst (λ (values : List MailValue). OnOk c.take_rdns.result (AddsMail c.args.mail.now c.take_rdns.new.mail values)) (rdns_same _ _ c.rdns.ensures) c.take_rdns.ensures

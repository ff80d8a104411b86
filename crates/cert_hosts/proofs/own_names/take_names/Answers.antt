use Rattle.std.proofs.Common.{[], subst}
use Rattle.std.specs.List.{cons_option}
use Rattle.names.specs.declared.general.General.{General}
use Rattle.names.specs.GeneralView.{general_name}
use Rattle.cert_hosts.specs.Mailboxes.{AddsMail, mailbox_of, seen_mail}
use Rattle.cert_hosts.specs.OwnNames.{mail_named}
use Rattle.cert_hosts.proofs.Adding.{one_more}
use Rattle.cert_hosts.proofs.own_names.take_names.Goals as goal

pub loop-name-preserved : goal.loop-name-preserved
loop-name-preserved c =
    one_more mailbox_of general_name mail_named c.args.names.now c.loop-name.name-index c.name-item.result (seen_mail c.args.mail.now) (seen_mail c.loop-name.mail) (seen_mail c.take_name.new.mail)
    c.loop-name-test.true c.loop-name.invariant
    (subst (λ (n : General). AddsMail c.loop-name.mail c.take_name.new.mail (cons_option (mail_named (general_name n)) [])) c.name-item.is c.in_ok-take_name.ensures)

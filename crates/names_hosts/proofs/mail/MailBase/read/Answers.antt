use Rattle.std.proofs.Common.{Some, ap}
use Rattle.names_hosts.specs.Mail.{mail_text, one_mailbox}
use Rattle.names_hosts.proofs.MailTests.{mail_base_is_one}
use Rattle.names_hosts.proofs.mail.MailBase.read.Goals as goal

pub returns-in-Some-clause-accepts : goal.returns-in-Some-clause-accepts
returns-in-Some-clause-accepts c = λ names h.
    ap Some (mail_base_is_one c.args.base.now (one_mailbox (mail_text c.in-Some.name)) names c.in-Some.ensures.reads h)

use Rattle.std.proofs.Common.{◌∙◌, false}
use Rattle.names_hosts.proofs.MailTests.{name_reads, mail_name_is_exact}
use Rattle.names_hosts.proofs.mail.MailName.read.Goals as goal

pub returns-clause-reads : goal.returns-clause-reads
returns-clause-reads c = name_reads false c.args.text.now c.read_mailbox.result c.read_mailbox.ensures

pub returns-clause-accepts : goal.returns-clause-accepts
returns-clause-accepts c = λ name m. c.read_mailbox.ensures ∙ (mail_name_is_exact false c.args.text.now name).1 m

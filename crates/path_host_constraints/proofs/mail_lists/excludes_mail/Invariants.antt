use Rattle.std.proofs.Common.{◌↔◌, drop}
use Rattle.names_hosts.specs.Mail.{mail_text}
use Rattle.names_hosts.specs.MailLists.{HasMail}
use Rattle.path_host_constraints.specs.Lists.{members_of}
use Rattle.path_host_constraints.proofs.mail_lists.excludes_mail.Given as goal

-- the earlier indexes do not have the mail address
abbrev pub invariant-loop-index : goal.invariant-loop-index
invariant-loop-index l =
    HasMail (members_of l.indexes) (mail_text l.name) ↔ HasMail (members_of (drop l.index-index l.indexes)) (mail_text l.name)

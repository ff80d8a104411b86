use Rattle.std.proofs.Common.{◌≡◌, ◌++◌, drop, map}
use Rattle.names_hosts.specs.Mail.{mail_text}
use Rattle.names_hosts.specs.MailLists.{mailboxes_in}
use Rattle.names_hosts.proofs.mail_index.mailboxes_of.Given as goal

-- the mailboxes so far, and those of what is left
abbrev pub invariant-loop-base : goal.invariant-loop-base
invariant-loop-base l = mailboxes_in l.list ≡ map mail_text l.mailboxes.items ++ mailboxes_in (drop l.base-index l.list)

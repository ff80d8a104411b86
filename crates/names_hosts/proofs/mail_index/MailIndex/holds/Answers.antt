use Rattle.names_hosts.specs.Hosts.{host_names}
use Rattle.names_hosts.specs.Mail.{mail_text}
use Rattle.names_hosts.proofs.MailMembers.{held_mailbox, held_hosts}
use Rattle.names_hosts.proofs.mail_index.MailIndex.holds.Goals as goal

pub returns-in-Mailbox : goal.returns-in-Mailbox
returns-in-Mailbox c =
    rw c.in-Mailbox.is record {
      decides = held_mailbox c.args.self.now (mail_text c.in-Mailbox.name) c.covers.result c.covers.ensures.decides;
    }

pub returns-in-Hosts : goal.returns-in-Hosts
returns-in-Hosts c =
    let i = c.self.inside in
    rw c.in-Hosts.is record {
      decides = held_hosts i.all.items i.mailboxes.items i.hosts c.args.self.now (host_names c.in-Hosts.hosts) c.holds.result
          c.self.invariant c.self.view_is c.holds.ensures.decides;
    }

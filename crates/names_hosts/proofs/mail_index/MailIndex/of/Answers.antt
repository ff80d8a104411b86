use Rattle.names_hosts.proofs.MailMembers.{indexed}
use Rattle.names_hosts.proofs.mail_index.MailIndex.of.Goals as goal

pub invariant_of-result : goal.invariant_of-result
invariant_of-result c =
    indexed c.args.all.items c.in_ok-mailboxes.mailboxes.items c.sort.new.list.items c.in_ok-hosts_of.field-0.items c.in_ok-hosts.hosts
    (rw c.deref.ensures.value at c.in_ok-mailboxes.ensures) c.sort.ensures.same c.in_ok-sort.ensures.sorted
    (rw c.deref-2.ensures.value at c.in_ok-hosts_of.ensures) c.in_ok-hosts.ensures

use Rattle.names_hosts.proofs.HostMembers.{indexed}
use Rattle.names_hosts.proofs.host_index.HostIndex.of.Goals as goal

pub invariant_of-result : goal.invariant_of-result
invariant_of-result c =
    indexed c.args.all.items c.in_ok-hosts.hosts.items c.sort.new.list.items c.in_ok-domains_of.field-0.items c.in_ok-domains.domains
    (rw c.deref.ensures.value at c.in_ok-hosts.ensures) c.sort.ensures.same c.in_ok-sort.ensures.sorted
    (rw c.deref-2.ensures.value at c.in_ok-domains_of.ensures) c.in_ok-domains.ensures

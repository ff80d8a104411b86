use Rattle.names_hosts.proofs.HostMembers.{held_host, held_below}
use Rattle.names_hosts.proofs.host_index.HostIndex.holds.Goals as goal

pub returns-in-Host : goal.returns-in-Host
returns-in-Host c =
    rw c.in-Host.is record { decides = held_host c.args.self.now c.in-Host.host.now c.covers.result c.covers.ensures.decides }

pub returns-in-Domain : goal.returns-in-Domain
returns-in-Domain c =
    let i = c.self.inside in
    rw c.in-Domain.is record {
      decides = held_below i.all.items i.hosts.items i.domains c.args.self.now c.in-Domain.domain.now c.holds.result
          c.self.invariant c.self.view_is c.holds.ensures;
    }

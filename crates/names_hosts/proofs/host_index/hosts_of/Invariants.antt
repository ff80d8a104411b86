use Rattle.std.proofs.Common.{◌≡◌, ◌++◌, drop, map}
use Rattle.names_hosts.specs.HostLists.{hosts_in, octets_of}
use Rattle.names_hosts.proofs.host_index.hosts_of.Given as goal

-- the hosts so far, and those of what is left
abbrev pub invariant-loop-base : goal.invariant-loop-base
invariant-loop-base l = hosts_in l.list ≡ map octets_of l.hosts.items ++ hosts_in (drop l.base-index l.list)

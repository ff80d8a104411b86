use Rattle.std.proofs.Common.{map, take}
use Rattle.names_hosts.specs.Hosts.{host_names}
use Rattle.path_host_constraints.specs.HostLists.{HostsLieIn}
use Rattle.path_host_constraints.proofs.host_lists.lie_in.Given as goal

abbrev pub invariant-loop-base : goal.invariant-loop-base
invariant-loop-base l = HostsLieIn l.within (map host_names (take l.base-index l.bases))

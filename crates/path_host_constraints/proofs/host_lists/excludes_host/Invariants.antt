use Rattle.std.proofs.Common.{◌↔◌, drop}
use Rattle.names_hosts.specs.HostLists.{HasHost}
use Rattle.path_host_constraints.specs.Lists.{members_of}
use Rattle.path_host_constraints.proofs.host_lists.excludes_host.Given as goal

-- the earlier indexes do not have the host
abbrev pub invariant-loop-index : goal.invariant-loop-index
invariant-loop-index l =
    HasHost (members_of l.indexes) l.host ↔ HasHost (members_of (drop l.index-index l.indexes)) l.host

use Rattle.std.proofs.Common.{◌≡◌, ◌++◌, map, drop}
use Rattle.names_hosts.specs.Hosts.{host_names}
use Rattle.path_host_constraints.specs.Lists.{members_of}
use Rattle.path_host_constraints.proofs.host_lists.bases_of.Given as goal

-- the bases so far, and those of the indexes that are left
abbrev pub invariant-loop-index : goal.invariant-loop-index
invariant-loop-index l = members_of l.indexes ≡ map host_names l.all.items ++ members_of (drop l.index-index l.indexes)

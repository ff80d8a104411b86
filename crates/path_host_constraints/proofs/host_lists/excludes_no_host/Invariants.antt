use Rattle.std.proofs.Common.{map, take}
use Rattle.std.specs.Option.{option_copied}
use Rattle.path_host_constraints.specs.Lists.{members_of}
use Rattle.path_host_constraints.specs.HostLists.{ExcludesNoHost}
use Rattle.path_host_constraints.proofs.host_lists.excludes_no_host.Given as goal

abbrev pub invariant-loop-found : goal.invariant-loop-found
invariant-loop-found l = ExcludesNoHost (members_of l.indexes) (map option_copied (take l.found-index l.hosts))

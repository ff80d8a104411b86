use Rattle.std.proofs.Common.{map, take}
use Rattle.std.specs.Option.{option_copied}
use Rattle.path_host_constraints.specs.Lists.{HasEach}
use Rattle.path_host_constraints.proofs.host_lists.lacks_no_host.Given as goal

abbrev pub invariant-loop-found : goal.invariant-loop-found
invariant-loop-found l = HasEach (map option_copied (take l.found-index l.hosts))

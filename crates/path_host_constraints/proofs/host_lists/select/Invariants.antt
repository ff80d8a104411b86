use Rattle.std.proofs.Common.{◌≤◌, length, map, take}
use Rattle.names_hosts.specs.Hosts.{host_names}
use Rattle.path_host_constraints.specs.HostLists.{SelectsHosts}
use Rattle.path_host_constraints.proofs.host_lists.select.Given as goal

abbrev pub invariant-loop-base : goal.invariant-loop-base
invariant-loop-base l = record {
  selects : SelectsHosts l.within l.except (map host_names (take l.base-index l.list)) (map host_names l.selected.items);
  fewer : length l.selected.items ≤ l.base-index;
}

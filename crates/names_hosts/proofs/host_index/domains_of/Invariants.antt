use Rattle.std.proofs.Common.{◌≡◌, ◌++◌, drop, map}
use Rattle.names.specs.GeneralView.{subtree_base}
use Rattle.names_hosts.specs.HostLists.{domains_in}
use Rattle.names_hosts.proofs.host_index.domains_of.Given as goal

-- the domains so far, and those of what is left
abbrev pub invariant-loop-base : goal.invariant-loop-base
invariant-loop-base l = domains_in l.list ≡ map subtree_base l.domains.items ++ domains_in (drop l.base-index l.list)

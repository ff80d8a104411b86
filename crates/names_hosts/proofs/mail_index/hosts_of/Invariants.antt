use Rattle.std.proofs.Common.{◌≡◌, ◌++◌, drop, map}
use Rattle.names_hosts.specs.Hosts.{host_names}
use Rattle.names_hosts.specs.MailLists.{hosts_at}
use Rattle.names_hosts.proofs.mail_index.hosts_of.Given as goal

-- the hosts so far, and those of what is left
abbrev pub invariant-loop-base : goal.invariant-loop-base
invariant-loop-base l = hosts_at l.list ≡ map host_names l.hosts.items ++ hosts_at (drop l.base-index l.list)

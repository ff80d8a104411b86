use Rattle.names_hosts.proofs.HostLaws.{host_base_is_one, hosts_inside_is_exact, shared_hosts_are_nested}
use Rattle.names_hosts.proofs.HostTests.{host_test_is_exact, host_base_is_exact}
use Rattle.names_hosts.proofs.hosts.host_laws.Goals as goal

pub returns : goal.returns
returns c = record {
  one = host_base_is_one;
  inside = hosts_inside_is_exact;
  nested = shared_hosts_are_nested;
  exact_host = host_test_is_exact;
  exact_base = host_base_is_exact;
}

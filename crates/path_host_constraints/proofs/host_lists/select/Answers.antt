use Rattle.std.proofs.Common.{arith}
use Rattle.names_hosts.specs.Hosts.{host_names, IsAmongHosts, AreHostsInside}
use Rattle.path_host_constraints.proofs.Loops.{selects_more_at}
use Rattle.path_host_constraints.proofs.HostBases.{host_nests}
use Rattle.path_host_constraints.proofs.host_lists.select.Goals as goal

pub loop-base-preserved : goal.loop-base-preserved
loop-base-preserved c = record {
  selects =
      selects_more_at host_names c.args.list.now c.loop-base.base-index _ c.loop-base-test.true
      IsAmongHosts AreHostsInside (host_nests c.host_laws.ensures.inside c.host_laws.ensures.nested) c.args.within.now c.args.except.now _ _ c.in_ok-take_if.ensures.takes c.loop-base.invariant.selects;
  fewer = let more = c.take_if.ensures.fewer in let before = c.loop-base.invariant.fewer in omega arith;
}

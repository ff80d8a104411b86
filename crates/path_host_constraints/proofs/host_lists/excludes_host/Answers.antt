use Rattle.std.proofs.Common.{refl, sym, true≢false}
use Rattle.names_hosts.specs.Hosts.{IsAmongHosts}
use Rattle.path_host_constraints.proofs.Loops.{left_out, has_here}
use Rattle.path_host_constraints.proofs.host_lists.excludes_host.Goals as goal

pub returns-then-covers : goal.returns-then-covers
returns-then-covers c = (
  λ t. c.loop-index.invariant.1
      (has_here IsAmongHosts c.args.indexes.now c.loop-index.index-index c.index-item.result c.args.host.now c.loop-index-test.true c.index-item.is
      (c.if-covers.ensures.decides.0 refl)),
  λ has. refl,
)

pub loop-index-preserved : goal.loop-index-preserved
loop-index-preserved c =
    left_out IsAmongHosts c.args.indexes.now c.loop-index.index-index c.index-item.result c.args.host.now c.loop-index-test.true c.index-item.is
    (λ has. true≢false (sym (c.if-covers.ensures.decides.1 has))) c.loop-index.invariant

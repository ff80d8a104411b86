use Rattle.std.proofs.Common.{take, refl}
use Rattle.names_hosts.specs.Hosts.{host_names}
use Rattle.path_host_constraints.proofs.Loops.{excluded_more}
use Rattle.path_host_constraints.proofs.host_lists.join_hosts.Goals as goal

pub returns : goal.returns
returns c =
    excluded_more host_names c.count_lasting-lasting.result c.args.indexes.now c.in_ok-all.all.items c.args.more.now c.extend_from_slice.new.self.items
    c.in_ok-index.index (take c.count_lasting-lasting.result c.args.indexes.now) _
    c.in_ok-all.ensures c.in_ok-extend_from_slice.ensures.items c.in_ok-index.ensures refl refl

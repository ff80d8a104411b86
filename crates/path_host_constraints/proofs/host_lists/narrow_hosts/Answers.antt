use Rattle.std.proofs.Common.{map}
use Rattle.std.proofs.lemmas.Result.{IfOk-weaker}
use Rattle.names_hosts.specs.Hosts.{host_names}
use Rattle.path_host_constraints.specs.Lists.{changed}
use Rattle.path_host_constraints.proofs.Loops.{not_empty}
use Rattle.path_host_constraints.proofs.HostBases.{narrowed_to}
use Rattle.path_host_constraints.proofs.host_lists.narrow_hosts.Goals as goal

pub returns-clause-narrows : goal.returns-clause-narrows
returns-clause-narrows c =
    IfOk-weaker c.narrowed.result _ _
    (λ change is. narrowed_to c.args.list.now (map host_names c.args.carried.now) (changed c.args.list.now change) (not_empty host_names c.args.carried.now c.if-is_empty.ensures) is)
    c.narrowed.ensures.narrows

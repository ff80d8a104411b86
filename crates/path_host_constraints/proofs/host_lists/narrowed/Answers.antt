use Rattle.std.proofs.Common.{◌↔◌, ◌≤◌, ◌+◌, ℕ, List, length, map, sym, subst}
use Rattle.std.specs.Prelude.{IfOk}
use Rattle.std.proofs.lemmas.Result.{IfOk-weaker}
use Rattle.names_hosts.specs.Hosts.{host_names}
use Rattle.names_hosts.specs.HostLists.{HasHost}
use Rattle.path_host_constraints.specs.Lists.{changed, size_of}
use Rattle.path_host_constraints.specs.HostLists.{PermitsHostIn}
use Rattle.path_host_constraints.proofs.Loops.{size_after}
use Rattle.path_host_constraints.proofs.HostBases.{as_change}
use Rattle.path_host_constraints.proofs.host_lists.narrowed.Goals as goal

pub returns-in-Some-clause-narrows : goal.returns-in-Some-clause-narrows
returns-in-Some-clause-narrows c =
    subst (λ list. IfOk c.narrow.result (λ change. (host : List ℕ) → PermitsHostIn (changed list change) host ↔ (PermitsHostIn list host × HasHost (map host_names c.args.carried.now) host)))
    (sym c.in-Some.is) (IfOk-weaker c.narrow.result _ _ (λ change narrows. as_change c.in-Some.held (map host_names c.args.carried.now) change narrows) c.narrow.ensures.narrows)

pub returns-in-Some-clause-fewer : goal.returns-in-Some-clause-fewer
returns-in-Some-clause-fewer c =
    subst (λ list. IfOk c.narrow.result (λ change. size_of (changed list change) ≤ size_of list + length c.args.carried.now))
    (sym c.in-Some.is) (IfOk-weaker c.narrow.result _ _ (λ change fewer. size_after c.in-Some.held (length c.args.carried.now) change fewer) c.narrow.ensures.fewer)

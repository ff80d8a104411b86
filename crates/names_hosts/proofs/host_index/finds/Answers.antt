use Rattle.std.proofs.Common.{◌≡◌, ◌∙◌, rules, tests}
use Rattle.std.proofs.lemmas.Fn.{always_returns_same}
use Rattle.names_hosts.specs.HostLists.{host_order, is_same_host, octets_of}
use Rattle.names_hosts.proofs.Search.{searched}
use Rattle.names_hosts.proofs.HostOrder.{hosts_total, equal_is_exact}
use Rattle.names_hosts.proofs.host_index.finds.Goals as goal

pub returns : goal.returns
returns c =
    let host = c.args.host.now in
    let search_by = c.binary_search_by in
    c.is_ok.ensures.value
    ∙ searched hosts_total octets_of host (λ one. is_same_host host one.now) (λ one. equal_is_exact host one.now)
    c.args.hosts.now c.requires search_by.result search_by.ensures.bound
    (search_by.ensures.position (λ one. host_order one.now host)
    (always_returns_same _ (λ a r. r ≡ host_order a.0.now.now host) _ (λ a r g k. search (rules, tests))))

-- Bases on hosts are narrowed.
use Rattle.std.proofs.Common.{◌≡◌, ◌≢◌, ◌↔◌, ℕ, Option, None, Some, List, [], ◌++◌, sym, ap, subst, ◌∙◌}
use Rattle.names_hosts.specs.Laws.{HostsInsideIsExact, SharedHostsAreNested}
use Rattle.names_hosts.specs.Hosts.{HostNames, IsAmongHosts, AreHostsInside}
use Rattle.names_hosts.specs.HostLists.{HasHost}
use Rattle.path_host_constraints.specs.Lists.{Selects, left_of, changed}
use Rattle.path_host_constraints.specs.HostLists.{SelectsHosts, NarrowsHosts, HostsLieIn, PermitsHostIn, IsNarrowedHosts}
use Rattle.path_host_constraints.proofs.Narrowed.{Nests, narrowed, lying_in}

pub host_nests : HostsInsideIsExact → SharedHostsAreNested → Nests IsAmongHosts AreHostsInside
host_nests exact nested = record { sound = λ s t x inside among. (exact s t).0 inside x among; nested = nested }

-- what is kept of the held bases, and what enters of those that come, have just the hosts that both have
pub narrowed_hosts : Nests IsAmongHosts AreHostsInside → (held carried carried_index none bases kept kept_index entering index : List HostNames)
    → carried_index ≡ carried → none ≡ [] → bases ≡ held → kept_index ≡ kept → SelectsHosts carried_index none bases kept → SelectsHosts held kept_index carried entering
    → index ≡ entering ++ kept_index → NarrowsHosts held carried index
narrowed_hosts nests held carried carried_index none bases kept kept_index entering index carried_is none_is bases_are kept_is first second index_is name =
    subst (λ (l : List HostNames). HasHost l name ↔ (HasHost held name × HasHost carried name)) (sym (index_is ∙ ap (λ (l : List HostNames). entering ++ l) kept_is))
    (narrowed IsAmongHosts AreHostsInside nests held carried kept entering keeps enters name)
  where
    keeps : Selects IsAmongHosts AreHostsInside carried [] held kept
    keeps =
        subst (λ (l : List HostNames). Selects IsAmongHosts AreHostsInside carried [] l kept) bases_are
        (subst (λ (l : List HostNames). Selects IsAmongHosts AreHostsInside carried l bases kept) none_is
        (subst (λ (l : List HostNames). Selects IsAmongHosts AreHostsInside l none bases kept) carried_is first))

    enters : Selects IsAmongHosts AreHostsInside held kept carried entering
    enters = subst (λ (l : List HostNames). Selects IsAmongHosts AreHostsInside held l carried entering) kept_is second

-- if all held bases lie in those that come, the held ones have these already
pub lying_hosts : Nests IsAmongHosts AreHostsInside → (held carried carried_index bases : List HostNames) → carried_index ≡ carried → bases ≡ held → HostsLieIn carried_index bases
    → NarrowsHosts held carried held
lying_hosts nests held carried carried_index bases carried_is bases_are lie =
    lying_in IsAmongHosts AreHostsInside nests held carried
    (subst (λ (l : List HostNames). HostsLieIn carried l) bases_are (subst (λ (l : List HostNames). HostsLieIn l bases) carried_is lie))

-- what is left of a list that is held is what its change leaves
pub as_change : (held carried : List HostNames) (change : Option (List HostNames)) → NarrowsHosts held carried (left_of held change)
    → (host : List ℕ) → PermitsHostIn (changed (Some held) change) host ↔ (PermitsHostIn (Some held) host × HasHost carried host)
as_change held carried None narrows = narrows
as_change held carried (Some list) narrows = narrows

-- a certificate without permitted bases leaves what is permitted as it is
pub left_alone : (old : Option (List HostNames)) (carried : List HostNames) → carried ≡ [] → IsNarrowedHosts old carried old
left_alone old carried none host = (λ p. (p, λ some. absurd (some none)), λ both. both.0)

-- one with such leaves what both permit
pub narrowed_to : (old : Option (List HostNames)) (carried : List HostNames) (new : Option (List HostNames)) → carried ≢ []
    → ((host : List ℕ) → PermitsHostIn new host ↔ (PermitsHostIn old host × HasHost carried host)) → IsNarrowedHosts old carried new
narrowed_to old carried new some is host = (λ has. let both = (is host).0 has in (both.0, λ _. both.1), λ both. (is host).1 (both.0, both.1 some))

-- Lists of bases on the hosts of URIs, narrowed and joined (RFC 5280, 6.1.4 (g)), and what they say of hosts.
use Rattle.std.specs.Prelude.{◌≢◌, ◌↔◌, ℕ, List, [], Bool, true, false, Option, Contains}
use Rattle.names_hosts.specs.Hosts.{HostNames, IsAmongHosts, AreHostsInside}
use Rattle.names_hosts.specs.HostLists.{HasHost, HoldsHosts}
use Rattle.path_host_constraints.specs.Lists.{Selects, TakesIf, PermitsIn, PermitsFoundIn, PermitsAllIn, HasFound, HasNone}

-- the base is inside one of the first bases, and in none of the others
abbrev pub Enters : List HostNames → List HostNames → HostNames → Bool → Type 0
Enters within except base true = HoldsHosts within base
Enters within except base false = HoldsHosts within base → HoldsHosts except base

abbrev pub TakesHostsIf : List HostNames → List HostNames → HostNames → List HostNames → List HostNames → Type 0
TakesHostsIf within except base old new = TakesIf AreHostsInside within except base old new

abbrev pub SelectsHosts : List HostNames → List HostNames → List HostNames → List HostNames → Type 0
SelectsHosts within except list selected = Selects IsAmongHosts AreHostsInside within except list selected

-- each base of a list is inside one of these
abbrev pub HostsLieIn : List HostNames → List HostNames → Type 0
HostsLieIn within bases = (base : HostNames) → Contains bases base → HoldsHosts within base

-- a list has just the hosts that both lists have
abbrev pub NarrowsHosts : List HostNames → List HostNames → List HostNames → Type 0
NarrowsHosts held carried list = (host : List ℕ) → HasHost list host ↔ (HasHost held host × HasHost carried host)

abbrev pub PermitsHostIn : Option (List HostNames) → List ℕ → Type 0
PermitsHostIn list host = PermitsIn IsAmongHosts list host

-- of the hosts of URIs each that is there
abbrev pub PermitsFound : Option (List HostNames) → Option (List ℕ) → Type 0
PermitsFound list found = PermitsFoundIn IsAmongHosts list found

abbrev pub PermitsAllHosts : Option (List HostNames) → List (Option (List ℕ)) → Type 0
PermitsAllHosts list hosts = PermitsAllIn IsAmongHosts list hosts

-- behind one more certificate just the hosts are permitted that were before, and that it permits
abbrev pub IsNarrowedHosts : Option (List HostNames) → List HostNames → Option (List HostNames) → Type 0
IsNarrowedHosts old carried new =
    (host : List ℕ) → PermitsHostIn new host ↔ (PermitsHostIn old host × (carried ≢ [] → HasHost carried host))

abbrev pub ExcludesFound : List HostNames → Option (List ℕ) → Type 0
ExcludesFound bases found = HasFound IsAmongHosts bases found

abbrev pub ExcludesNoHost : List HostNames → List (Option (List ℕ)) → Type 0
ExcludesNoHost bases hosts = HasNone IsAmongHosts bases hosts

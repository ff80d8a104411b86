-- Bases of constraints on hosts, among which hosts are found by halving.
use Rattle.std.specs.Prelude.{◌≡◌, ℕ, List, [], ◌∷◌, Bool, Option, None, Some, Any, map, nat_eq}
use Rattle.std.specs.Borrow.{Bor}
use Rattle.std.specs.List.{list_any, cons_option}
use Rattle.std.specs.List.Sorted.{IsSortedBy}
use Rattle.std.specs.Char.{to_ascii_lowercase}
use Rattle.std.specs.Ordering.{nat_cmp, is_lt}
use Rattle.std.specs.declared.cmp.Ordering.{Ordering}
use Rattle.std.specs.Cmp.Lexicographic.{slice_cmp, pointwise}
use Rattle.names.specs.Bases.{names_within, names_below}
use Rattle.names.specs.GeneralLayout.{SubtreeBase, dns_base, dns_name}
use Rattle.names.specs.GeneralCoverage.{is_covered}
use Rattle.names_order.specs.Order.{base_key}
use Rattle.names_order.specs.Index.{HasSameMembers}
use Rattle.names_hosts.specs.declared.hosts.HostBase.{HostBase}
use Rattle.names_hosts.specs.Hosts.{HostNames, one_host, hosts_below, host_names, IsAmongHosts, AreHostsInside}

-- the host is among those of one of the bases
abbrev pub HasHost : List HostNames → List ℕ → Type 0
HasHost bases host = Any (λ base. IsAmongHosts host base) bases

-- the hosts are among those of one of the bases
abbrev pub HoldsHosts : List HostNames → HostNames → Type 0
HoldsHosts bases base = Any (λ other. AreHostsInside base other) bases

-- the same as a test
abbrev pub is_same_host : List ℕ → List ℕ → Bool
is_same_host one other =
    pointwise nat_eq (map to_ascii_lowercase one) (map to_ascii_lowercase other)

abbrev pub is_host_among : List ℕ → HostNames → Bool
is_host_among host (one_host base) = is_same_host host base
is_host_among host (hosts_below domain) = is_covered (dns_name host) (dns_base (names_below domain))

abbrev pub one_has_host : List HostNames → List ℕ → Bool
one_has_host bases host = list_any (λ base. is_host_among host base) bases

-- hosts are in the order of the DNS names within them
abbrev pub host_key : List ℕ → List ℕ
host_key host = base_key (dns_base (names_within host))

abbrev pub host_order : List ℕ → List ℕ → Ordering
host_order one other = slice_cmp nat_cmp (host_key one) (host_key other)

abbrev pub is_host_before : Bor (List ℕ) → Bor (List ℕ) → Bool
is_host_before one other = is_lt (host_order one.now other.now)

-- the host is one of these
abbrev pub is_one_host : List (Bor (List ℕ)) → List ℕ → Bool
is_one_host hosts host = list_any (λ one. is_same_host host one.now) hosts

-- the hosts of the bases of one host, and the domains of the others, as subtrees of DNS names
abbrev pub host_in : HostNames → Option (List ℕ)
host_in (one_host host) = Some host
host_in (hosts_below domain) = None

abbrev pub domain_in : HostNames → Option SubtreeBase
domain_in (one_host host) = None
domain_in (hosts_below domain) = Some (dns_base (names_below domain))

abbrev pub hosts_in : List HostBase → List (List ℕ)
hosts_in [] = []
hosts_in (base ∷ list) = cons_option (host_in (host_names base)) (hosts_in list)

abbrev pub domains_in : List HostBase → List SubtreeBase
domains_in [] = []
domains_in (base ∷ list) = cons_option (domain_in (host_names base)) (domains_in list)

abbrev pub octets_of : Bor (List ℕ) → List ℕ
octets_of text = text.now

-- what is kept of a list: hosts in order, and the domains
pub record IsHostIndex
    (all : List HostBase) (hosts : List (Bor (List ℕ))) (domains : List SubtreeBase) :
    Type 0 where
  pub sorted : IsSortedBy is_host_before hosts
  pub found : (host : List ℕ) → list_any (is_same_host host) (hosts_in all) ≡ is_one_host hosts host
  pub kept : HasSameMembers domains (domains_in all)

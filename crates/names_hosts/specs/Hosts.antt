-- Hosts of mail addresses and of URIs, and the constraints on them (RFC 5280, 4.2.1.10 and 7.5). A host is a DNS name of A-labels that is
-- no address (`IsHost`): a constraint on URIs speaks of fully qualified domain names alone, and the labels of a dNSName (`IsDnsName`) may
-- have at signs and colons, which divide mailboxes and URIs.
use Rattle.std.specs.Prelude.{◌≡◌, ◌==◌, ◌&&◌, ℕ, List, [], ◌∷◌, Bool, false, not, nat_le, length, Option, None, if◌then◌else◌}
use Rattle.std.specs.Bool.{then_some}
use Rattle.std.specs.List.{list_all}
use Rattle.std.specs.Char.{is_ascii_digit}
use Rattle.names.specs.Dns.{labels, EndsIn, EndsInMore, is_label_length}
use Rattle.names_identity.specs.Host.{IsHost, is_host_octet, dotted_parts}
use Rattle.names_hosts.specs.declared.hosts.HostBase.{HostBase}
use Rattle.names_hosts.specs.declared.hosts.HostBase.TheVariants as B

-- the hosts of a base: one, or all that have at least one label before a domain
pub data HostNames : Type 0 where
  one_host : List ℕ → HostNames
  hosts_below : List ℕ → HostNames

-- those of a base that was read, without where it lies in memory
abbrev pub host_names : HostBase → HostNames
host_names (B.Host host) = one_host host.now
host_names (B.Domain domain) = hosts_below domain.now

-- a host, or a dot and a domain; other octets are no base, and neither is nothing
abbrev pub AreHostsOf : List ℕ → HostNames → Type 0
AreHostsOf base (one_host host) = (base ≡ host) × IsHost host
AreHostsOf base (hosts_below domain) = (base ≡ 46 ∷ domain) × IsHost domain

-- the same host: label by label, with ASCII case folded
abbrev pub IsSameHost : List ℕ → List ℕ → Type 0
IsSameHost one other = labels one ≡ labels other

-- the host is one of these
abbrev pub IsAmongHosts : List ℕ → HostNames → Type 0
IsAmongHosts host (one_host base) = IsSameHost host base
IsAmongHosts host (hosts_below domain) = EndsInMore (labels host) (labels domain)

-- the first hosts are among the second: what is below a domain is never one host alone
abbrev pub AreHostsInside : HostNames → HostNames → Type 0
AreHostsInside (one_host inner) (one_host outer) = IsSameHost inner outer
AreHostsInside (one_host inner) (hosts_below outer) = EndsInMore (labels inner) (labels outer)
AreHostsInside (hosts_below inner) (one_host outer) = ⊥
AreHostsInside (hosts_below inner) (hosts_below outer) = EndsIn (labels inner) (labels outer)

-- a test of hosts, and what a base says

-- 1 to 63 octets (RFC 1034, 3.1)
abbrev pub has_label_length : List ℕ → Bool
has_label_length label = is_label_length (length label)

-- the last label is digits alone, as in an IPv4 address (RFC 9525, 6.3)
abbrev pub ends_in_number : List (List ℕ) → Bool
ends_in_number [] = false
ends_in_number (label ∷ []) = list_all is_ascii_digit label
ends_in_number (label ∷ next ∷ others) = ends_in_number (next ∷ others)

-- the text is a host: octets of hosts, labels of 1 to 63 octets, 253 octets at most, and no number at its end
unfoldable pub is_host : List ℕ → Bool
is_host text =
    list_all is_host_octet text
    && (list_all has_label_length (dotted_parts text) && (nat_le (length text) 253 && not (ends_in_number (dotted_parts text))))

-- what a base says: a dot and a domain, or a host (RFC 5280, 4.2.1.10)
unfoldable pub host_base_of : List ℕ → Option HostNames
host_base_of [] = None
host_base_of (octet ∷ domain) =
    if octet == 46 then then_some (is_host domain) (hosts_below domain) else then_some (is_host (octet ∷ domain)) (one_host (octet ∷ domain))

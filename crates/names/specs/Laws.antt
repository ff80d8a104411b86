use Rattle.std.specs.Prelude.{◌⊎◌, ◌↔◌, ℕ, List, IsTrue}
use Rattle.names.specs.declared.dns.Domain.{Domain}
use Rattle.names.specs.declared.ip.IpRange.{IpRange}
use Rattle.names.specs.Dns.{IsInDomain, is_in_domain, is_domain_inside}
use Rattle.names.specs.Ip.{IsInRange, is_in_address_range, is_range_inside}

-- the test of a domain decides whether the name lies in it
abbrev pub DomainTestIsExact : Type 0
DomainTestIsExact = (name : List ℕ) (domain : Domain) → (IsTrue (is_in_domain name domain) ↔ IsInDomain name domain)

-- every name in the first is in the second
abbrev pub DomainInsideIsSound : Type 0
DomainInsideIsSound = (x : List ℕ) (s t : Domain) → IsTrue (is_domain_inside s t) → IsTrue (is_in_domain x s) → IsTrue (is_in_domain x t)

-- two that share a name are nested, one way or the other
abbrev pub SharedDomainsAreNested : Type 0
SharedDomainsAreNested = (x : List ℕ) (s t : Domain) → IsTrue (is_in_domain x s) → IsTrue (is_in_domain x t) → IsTrue (is_domain_inside s t) ⊎ IsTrue (is_domain_inside t s)

-- the test of a range decides whether the address lies in it
abbrev pub RangeTestIsExact : Type 0
RangeTestIsExact = (address : List ℕ) (range : IpRange) → (IsTrue (is_in_address_range address range) ↔ IsInRange address range)

abbrev pub RangeInsideIsSound : Type 0
RangeInsideIsSound = (x : List ℕ) (s t : IpRange) → IsTrue (is_range_inside s t) → IsTrue (is_in_address_range x s) → IsTrue (is_in_address_range x t)

abbrev pub SharedRangesAreNested : Type 0
SharedRangesAreNested = (x : List ℕ) (s t : IpRange) → IsTrue (is_in_address_range x s) → IsTrue (is_in_address_range x t) → IsTrue (is_range_inside s t) ⊎ IsTrue (is_range_inside t s)

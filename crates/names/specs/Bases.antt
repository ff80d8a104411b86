-- Tests of DNS names and IP addresses, and what the bases of constraints on them say (RFC 5280, 4.2.1.6 and 4.2.1.10).
use Rattle.std.specs.Prelude.{◌≡◌, ◌↔◌, ◌+◌, ◌*◌, ◌/◌, ◌==◌, ◌&&◌, ◌||◌, ℕ, List, [], ◌∷◌, ◌++◌, Bool, Option, Some, None, Result, Ok, Err, IsTrue, nat_le, nat_lt, length, take, drop, if◌then◌else◌}
use Rattle.std.specs.List.{list_all, find, slice_split, range_with_len}
use Rattle.names.specs.declared.dns.Domain.{Domain}
use Rattle.names.specs.declared.dns.Domain.TheVariants as D
use Rattle.names.specs.declared.ip.IpRange.{IpRange}
use Rattle.names.specs.declared.ip.IpFault.{IpFault}
use Rattle.names.specs.declared.ip.IpFault.TheVariants as F
use Rattle.names.specs.Dns.{IsDnsName, is_dot, is_label}
use Rattle.names.specs.Ip.{IsIpAddress, IsMaskOf, IsRefusedFor, bit}

-- the text is a DNS name
unfoldable pub is_dns_name : List ℕ → Bool
is_dns_name name = nat_le (length name) 253 && list_all is_label (slice_split is_dot name)

-- the names of a DNS constraint: every one, those that end in these labels, or those with at least one label more
pub data DomainNames : Type 0 where
  every_name : DomainNames
  names_within : List ℕ → DomainNames
  names_below : List ℕ → DomainNames

-- those of a domain, without where its labels lie in memory
abbrev pub domain_names : Domain → DomainNames
domain_names D.Every = every_name
domain_names (D.Within name) = names_within name.now
domain_names (D.Below name) = names_below name.now

-- what a base says: nothing, a name, or a dot and a name
unfoldable pub names_of_base : List ℕ → Option DomainNames
names_of_base [] = Some every_name
names_of_base (octet ∷ name) =
    if octet == 46 then (if is_dns_name name then Some (names_below name) else None)
    else (if is_dns_name (octet ∷ name) then Some (names_within (octet ∷ name)) else None)

-- as many octets as an address of version 4 or 6 has
unfoldable pub is_ip_address : List ℕ → Bool
is_ip_address octets = (length octets == 4) || (length octets == 16)

-- the addresses that begin with so many bits of this one
pub record AddressRange : Type 0 where
  pub address : List ℕ
  pub prefix : ℕ

abbrev pub address_range : IpRange → AddressRange
address_range range = record { address = range.address.now; prefix = range.prefix }

-- the bit at an index of a mask that begins with so many ones
abbrev pub mask_bit : ℕ → ℕ → ℕ
mask_bit prefix index = if nat_lt index prefix then 1 else 0

abbrev pub has_mask_bit : List ℕ → ℕ → ℕ → Bool
has_mask_bit mask prefix index = bit mask index == mask_bit prefix index

-- so many ones, and then zeros
unfoldable pub is_mask : List ℕ → ℕ → Bool
is_mask mask prefix = list_all (has_mask_bit mask prefix) (range_with_len 0 (8 * length mask))

-- how many ones a mask begins with, where zeros follow
unfoldable pub prefix_of_mask : List ℕ → Option ℕ
prefix_of_mask mask = find (is_mask mask) (range_with_len 0 (8 * length mask + 1))

abbrev pub range_with : List ℕ → Option ℕ → Result AddressRange IpFault
range_with address None = Err F.Mask
range_with address (Some prefix) = Ok (record { address = address; prefix = prefix })

-- what a base says: an address, and a mask of its length
unfoldable pub range_of_base : List ℕ → Result AddressRange IpFault
range_of_base base =
    if (length base == 8) || (length base == 32) then range_with (take (length base / 2) base) (prefix_of_mask (drop (length base / 2) base))
    else Err F.Length

-- the same as relations

abbrev pub AreNamesOf : List ℕ → DomainNames → Type 0
AreNamesOf base every_name = base ≡ []
AreNamesOf base (names_within name) = (base ≡ name) × IsDnsName name
AreNamesOf base (names_below name) = (base ≡ 46 ∷ name) × IsDnsName name

pub record AreAddressesOf (base : List ℕ) (range : AddressRange) : Type 0 where
  pub address : IsIpAddress range.address
  pub mask : List ℕ
  pub joined : base ≡ range.address ++ mask
  pub same_length : length mask ≡ length range.address
  pub ones_then_zeros : IsMaskOf mask range.prefix

-- laws: these tests and functions decide the relations

abbrev pub DnsNameTestIsExact : Type 0
DnsNameTestIsExact = (name : List ℕ) → (IsTrue (is_dns_name name) ↔ IsDnsName name)

abbrev pub NamesOfBaseAreExact : Type 0
NamesOfBaseAreExact = (base : List ℕ) (names : DomainNames) → ((names_of_base base ≡ Some names) ↔ AreNamesOf base names)

abbrev pub AddressTestIsExact : Type 0
AddressTestIsExact = (octets : List ℕ) → (IsTrue (is_ip_address octets) ↔ IsIpAddress octets)

abbrev pub RangeOfBaseIsExact : Type 0
RangeOfBaseIsExact = (base : List ℕ) (range : AddressRange) → ((range_of_base base ≡ Ok range) ↔ AreAddressesOf base range)

abbrev pub RefusedBaseIsExact : Type 0
RefusedBaseIsExact = (base : List ℕ) (fault : IpFault) → ((range_of_base base ≡ Err fault) ↔ IsRefusedFor base fault)

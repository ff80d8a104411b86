-- IP addresses as bits (RFC 5280, 4.2.1.6), and the constraints on them (4.2.1.10; RFC 4632, 3.1).
use Rattle.std.specs.Prelude.{◌≡◌, ◌≢◌, ◌⊎◌, ◌<◌, ◌≤◌, ◌*◌, ◌++◌, ℕ, List, Bool, ◌==◌, ◌&&◌, ◌/◌, ◌%◌, ◌-◌, ◌^◌, nat_le, length, slice_index, drop}
use Rattle.std.specs.List.{list_all, range_with_len}
use Rattle.names.specs.declared.ip.IpRange.{IpRange}
use Rattle.names.specs.declared.ip.IpFault.{IpFault}
use Rattle.names.specs.declared.ip.IpFault.TheVariants as F

-- an address of version 4 or 6
abbrev pub IsIpAddress : List ℕ → Type 0
IsIpAddress octets = (length octets ≡ 4) ⊎ (length octets ≡ 16)

-- the bit at the index, from the highest of the first octet on; past the end it is 0
abbrev pub bit : List ℕ → ℕ → ℕ
bit octets index = slice_index octets (index / 8) / 2 ^ (7 - index % 8) % 2

-- so many ones, and then zeros
pub record IsMaskOf (mask : List ℕ) (prefix : ℕ) : Type 0 where
  pub within : prefix ≤ 8 * length mask
  pub ones : (i : ℕ) → i < prefix → bit mask i ≡ 1
  pub zeros : (i : ℕ) → prefix ≤ i → i < 8 * length mask → bit mask i ≡ 0

-- a one after a zero
pub record HasHole (mask : List ℕ) : Type 0 where
  pub hole : ℕ
  pub later : ℕ
  pub after : hole < later
  pub within : later < 8 * length mask
  pub zero_bit : bit mask hole ≡ 0
  pub one_bit : bit mask later ≡ 1

-- no bit from this index on is a one
abbrev pub HasNoOneFrom : ℕ → List ℕ → Type 0
HasNoOneFrom start mask = (i : ℕ) → start ≤ i → i < 8 * length mask → bit mask i ≡ 0

-- the bit at the index, from the start on, is a one
abbrev pub IsOneFrom : ℕ → List ℕ → ℕ → Type 0
IsOneFrom start mask i = (start ≤ i) × (i < 8 * length mask) × (bit mask i ≡ 1)

-- the base of a constraint: an address, and a mask of its length
pub record IsRangeOf (base : List ℕ) (range : IpRange) : Type 0 where
  pub address : IsIpAddress range.address.now
  pub mask : List ℕ
  pub joined : base ≡ range.address.now ++ mask
  pub same_length : length mask ≡ length range.address.now
  pub ones_then_zeros : IsMaskOf mask range.prefix

-- twice as many octets as an address has
abbrev pub HasBaseLength : List ℕ → Type 0
HasBaseLength base = (length base ≡ 8) ⊎ (length base ≡ 32)

-- why octets are no base: their number, or else their mask
abbrev pub IsRefusedFor : List ℕ → IpFault → Type 0
IsRefusedFor base F.Length = (length base ≢ 8) × (length base ≢ 32)
IsRefusedFor base F.Mask = HasBaseLength base × HasHole (drop (length base / 2) base)

-- the address lies in the range: it has as many octets, and the bits of the prefix agree
pub record IsInRange (address : List ℕ) (range : IpRange) : Type 0 where
  pub same_length : length address ≡ length range.address.now
  pub agree : (i : ℕ) → i < range.prefix → bit range.address.now i ≡ bit address i

-- tests of these facts

abbrev pub same_bit : List ℕ → List ℕ → ℕ → Bool
same_bit left right index = bit left index == bit right index

-- whether the first bits agree
unfoldable pub agree : ℕ → List ℕ → List ℕ → Bool
agree count left right = list_all (same_bit left right) (range_with_len 0 count)

unfoldable pub is_in_address_range : List ℕ → IpRange → Bool
is_in_address_range address s = (length address == length s.address.now) && agree s.prefix s.address.now address

-- whether the first range is a part of the second
unfoldable pub is_range_inside : IpRange → IpRange → Bool
is_range_inside s t = (length s.address.now == length t.address.now) && (nat_le t.prefix s.prefix && agree t.prefix t.address.now s.address.now)

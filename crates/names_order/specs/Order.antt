-- The order of subtrees: of DNS names by their labels from the right, of addresses by their length and bits. A subtree stands before all
-- that lies in it, and what stands between them lies in it too.
use Rattle.std.specs.Prelude.{◌≡◌, ℕ, List, [], ◌∷◌, Bool, true, false, ◌==◌, ◌&&◌, ◌+◌, length, map, reverse, if◌then◌else◌}
use Rattle.std.specs.List.{range_with_len}
use Rattle.std.specs.Char.{to_ascii_lowercase}
use Rattle.std.specs.Ordering.{nat_cmp}
use Rattle.std.specs.declared.cmp.Ordering.{Ordering}
use Rattle.std.specs.Cmp.Lexicographic.{slice_cmp}
use Rattle.names.specs.Dns.{is_dot}
use Rattle.names.specs.Ip.{bit}
use Rattle.names.specs.Bases.{DomainNames, every_name, names_within, names_below, AddressRange}
use Rattle.names.specs.GeneralLayout.{SubtreeBase, directory_base, dns_base, ip_base, other_base}
use Rattle.names.specs.GeneralCoverage.{is_base_inside}

-- the first list begins with the second
abbrev pub begins_with : List ℕ → List ℕ → Bool
begins_with xs [] = true
begins_with [] (y ∷ ys) = false
begins_with (x ∷ xs) (y ∷ ys) = (y == x) && begins_with xs ys

-- the octets of a text, and then an end; a dot is the least of them, and two numbers
abbrev pub text_key : List ℕ → List ℕ → List ℕ
text_key [] end = end
text_key (octet ∷ octets) end = if is_dot octet then 0 ∷ 1 ∷ text_key octets end else (octet + 2) ∷ text_key octets end

-- the octets from the last one on, with ASCII case folded
abbrev pub backwards : List ℕ → List ℕ
backwards text = reverse (map to_ascii_lowercase text)

-- the place of an octet among others, with ASCII case folded, and two octets compared
abbrev pub octet_rank : ℕ → ℕ
octet_rank octet = if is_dot (to_ascii_lowercase octet) then 0 else to_ascii_lowercase octet + 2

abbrev pub octet_order : ℕ → ℕ → Ordering
octet_order a b = nat_cmp (octet_rank a) (octet_rank b)

-- the end of a base: names below it go on by a dot, names within it end there too
abbrev pub base_end : Bool → List ℕ
base_end true = 0 ∷ 1 ∷ []
base_end false = 0 ∷ []

abbrev pub domain_key : DomainNames → List ℕ
domain_key every_name = []
domain_key (names_within base) = text_key (backwards base) (base_end false)
domain_key (names_below base) = text_key (backwards base) (base_end true)

-- a range: how many octets an address has, and the bits
abbrev pub prefix_bits : AddressRange → List ℕ
prefix_bits range = map (bit range.address) (range_with_len 0 range.prefix)

abbrev pub range_key : AddressRange → List ℕ
range_key range = length range.address ∷ prefix_bits range

-- a subtree; those of directory names and of forms that are not processed have no order among themselves
abbrev pub base_key : SubtreeBase → List ℕ
base_key (dns_base names) = 0 ∷ domain_key names
base_key (ip_base range) = 1 ∷ range_key range
base_key (directory_base name) = 2 ∷ []
base_key (other_base number contents) = 2 ∷ []

abbrev pub form_rank : SubtreeBase → ℕ
form_rank (dns_base names) = 0
form_rank (ip_base range) = 1
form_rank (directory_base name) = 2
form_rank (other_base number contents) = 2

abbrev pub is_ordered : SubtreeBase → Bool
is_ordered (dns_base names) = true
is_ordered (ip_base range) = true
is_ordered (directory_base name) = false
is_ordered (other_base number contents) = false

abbrev pub base_order : SubtreeBase → SubtreeBase → Ordering
base_order a b = slice_cmp nat_cmp (base_key a) (base_key b)

-- a subtree of DNS names or addresses lies in just those whose keys its own key begins with
abbrev pub InsideBegins : Type 0
InsideBegins = (a b : SubtreeBase) → is_ordered a ≡ true → is_base_inside a b ≡ begins_with (base_key a) (base_key b)

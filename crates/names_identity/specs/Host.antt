-- Hosts by their DNS names, and where a text stops being one (RFC 9525, 2 and 6.3; RFC 1034, 3.1 and 3.5; RFC 5890, 2.3.2.1).
use Rattle.std.specs.Prelude.{◌≡◌, ◌≤◌, ◌<◌, ◌+◌, ◌-◌, ◌==◌, ◌||◌, ℕ, List, [], ◌∷◌, ◌++◌, Bool, not, if◌then◌else◌, length, take, slice_index, Some}
use Rattle.std.specs.List.{All, AllPass, slice_split, position, sum_by}
use Rattle.std.specs.Char.{is_ascii_alphanumeric, is_ascii_digit}
use Rattle.names.specs.Dns.{is_dot}
use Rattle.names_identity.specs.declared.fault.IdentityRule.{IdentityRule}
use Rattle.names_identity.specs.declared.fault.IdentityRule.TheVariants as R

-- letters, digits, hyphens and underscores of labels, and the dots that join them
abbrev pub is_host_octet : ℕ → Bool
is_host_octet octet = is_ascii_alphanumeric octet || (octet == 45 || (octet == 46 || octet == 95))

abbrev pub not_host_octet : ℕ → Bool
not_host_octet octet = not (is_host_octet octet)

-- what stands between the dots
abbrev pub dotted_parts : List ℕ → List (List ℕ)
dotted_parts text = slice_split is_dot text

abbrev pub HasLabelLength : List ℕ → Type 0
HasLabelLength label = (0 < length label) × (length label ≤ 63)

abbrev pub octets_and_dot : List ℕ → ℕ
octets_and_dot label = length label + 1

-- a part of the text, and the offset at which it begins
pub record PartAt (text : List ℕ) (at : ℕ) : Type 0 where
  pub before : List (List ℕ)
  pub part : List ℕ
  pub behind : List (List ℕ)
  pub cut : dotted_parts text ≡ before ++ part ∷ behind
  pub place : at ≡ sum_by octets_and_dot before

-- the first part that is empty, or longer than a label
abbrev pub IsFirstBadLabelAt : List ℕ → ℕ → Type 0
IsFirstBadLabelAt text at = (p : PartAt text at) × All HasLabelLength p.before × (HasLabelLength p.part → ⊥)

-- the last part is digits alone, as in an IPv4 address (RFC 9525, 6.3: an address is no DNS name)
abbrev pub IsNumberAt : List ℕ → ℕ → Type 0
IsNumberAt text at = (p : PartAt text at) × (p.behind ≡ []) × AllPass is_ascii_digit p.part

-- all labels have lengths of labels, and this is the last one, and where it begins
pub record IsLastLabelAt (text : List ℕ) (at : ℕ) (label : List ℕ) : Type 0 where
  pub labels : All HasLabelLength (dotted_parts text)
  pub before : List (List ℕ)
  pub cut : dotted_parts text ≡ before ++ label ∷ []
  pub place : at ≡ sum_by octets_and_dot before

-- a DNS name of A-labels, which has no wildcard and is no address
pub record IsHost (text : List ℕ) : Type 0 where
  pub octets : AllPass is_host_octet text
  pub labels : All HasLabelLength (dotted_parts text)
  pub short : length text ≤ 253
  pub no_number : (at : ℕ) → IsNumberAt text at → ⊥

-- the rule that a text breaks, and the offset: the first octet that no host has, or else the begin of the first label of a wrong length,
-- or else the begin of a text that is too long, or of a last label that is a number
abbrev pub IsHostFault : List ℕ → IdentityRule → ℕ → Type 0
IsHostFault text R.HostOctet at = position not_host_octet text ≡ Some at
IsHostFault text R.Label at = AllPass is_host_octet text × IsFirstBadLabelAt text at
IsHostFault text R.Length at = AllPass is_host_octet text × All HasLabelLength (dotted_parts text) × (253 < length text) × (at ≡ 0)
IsHostFault text R.Number at = AllPass is_host_octet text × All HasLabelLength (dotted_parts text) × (length text ≤ 253) × IsNumberAt text at
IsHostFault text _ at = ⊥

-- the text without one dot at its end (RFC 1034, 3.1)
unfoldable pub without_final_dot : List ℕ → List ℕ
without_final_dot text = if is_dot (slice_index text (length text - 1)) then take (length text - 1) text else text

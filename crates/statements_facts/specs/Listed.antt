-- The serial numbers that a list revokes (RFC 5280, 5.1.2.6 and 5.3.1).
use Rattle.std.specs.Prelude.{◌≡◌, ℕ, List, Option, option_map}
use Rattle.std.specs.List.{find}
use Rattle.std.specs.List.Sorted.{IsStrictlySortedBy}
use Rattle.std.specs.Ordering.{nat_cmp}
use Rattle.std.specs.declared.cmp.Ordering.TheVariants.{Less}
use Rattle.std.specs.Cmp.Lexicographic.{slice_cmp}
use Rattle.std.specs.Str.{bytes_eq}
use Rattle.statements_facts.specs.declared.revoked.Listed.{Listed}

-- the contents octets of a serial number, and the number of the reason
pub record ListedSerial : Type 0 where
  pub serial : List ℕ
  pub reason : ℕ

abbrev pub seen_listed : Listed → ListedSerial
seen_listed listed = record { serial = listed.serial.now; reason = listed.reason }

-- the octets of its serial number are less than those of the other, compared octet by octet
abbrev pub HasLessSerial : ListedSerial → ListedSerial → Type 0
HasLessSerial one other = slice_cmp nat_cmp one.serial other.serial ≡ Less

-- the octets of each serial number are less than those of the next
abbrev pub IsAscending : List ListedSerial → Type 0
IsAscending = IsStrictlySortedBy (λ one other. slice_cmp nat_cmp one.serial other.serial)

-- the reason of the first entry with this serial number, where there is one
abbrev pub first_reason : List ListedSerial → List ℕ → Option ℕ
first_reason listed serial = option_map (λ entry. entry.reason) (find (λ entry. bytes_eq entry.serial serial) listed)

-- cRLNumber (RFC 5280, 5.2.3): a number from 0 to 2^160 - 1
use Rattle.std.specs.Prelude.{ℕ, ◌==◌, ◌&&◌, nat_lt, not, Bool, false, IsTrue, List, [], ◌∷◌, length, Option, Some, None, if◌then◌else◌}
use Rattle.asn.specs.DerLaws.{AreOctets}
use Rattle.asn.specs.Integer.{IsNumber20, binary_value}

-- the contents octets of such an INTEGER: no sign, no octet of zeros too many, and 20 octets at most behind one of zeros
unfoldable pub is_crl_number : List ℕ → Bool
is_crl_number [] = false
is_crl_number (first ∷ []) = nat_lt first 128
is_crl_number (first ∷ second ∷ octets) = if first == 0 then not (nat_lt second 128) && nat_lt (length octets) 20 else nat_lt first 128 && nat_lt (length octets) 19

-- the contents octets of the INTEGER that these octets are, all of them
unfoldable pub number_in : List ℕ → Option (List ℕ)
number_in [] = None
number_in (identifier ∷ []) = None
number_in (identifier ∷ size ∷ contents) = if identifier == 0x02 && (size == length contents && is_crl_number contents) then Some contents else None

-- The test decides whether contents are those of such a number, which is then the one that they spell in binary.
pub record NumberTestIsExact : Type 0 where
  pub found : (contents : List ℕ) → AreOctets contents → IsTrue (is_crl_number contents) → IsNumber20 contents (binary_value contents)
  pub known : (contents : List ℕ) (number : ℕ) → AreOctets contents → IsNumber20 contents number → IsTrue (is_crl_number contents)

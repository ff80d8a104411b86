-- Whether a value is meant as a response: the first value inside is an ENUMERATED, as OCSPResponseStatus is (RFC 6960, 4.2.1). The first
-- value inside a revocation list is its signed part, a SEQUENCE (RFC 5280, 5.1).
use Rattle.std.specs.Prelude.{◌↔◌, ℕ, ◌&&◌, Bool, IsTrue, List}
use Rattle.asn.specs.Identifier.{is_constructed}
use Rattle.asn.specs.Place.{Place, tag}
use Rattle.asn.specs.Members.{members, begins}
use Rattle.asn.specs.Value.{Value, Values, primitive, constructed, more}
use Rattle.asn.specs.Encoding.{Encodes}

unfoldable pub is_response : Place → Bool
is_response value = is_constructed (tag value) && begins 0x0A (members value)

-- the same in the words of X.690
pub record BeginsWithStatus (octets : List ℕ) : Type 0 where
  pub identifier : ℕ
  pub code : List ℕ
  pub others : Values
  pub encoded : Encodes octets (constructed identifier (more (primitive 0x0A code) others))

abbrev pub KindIsExact : Type 0
KindIsExact =
    (octets : List ℕ) (value : Value) → Encodes octets value →
    IsTrue (is_response (record { octets = octets; at = 0 })) ↔ BeginsWithStatus octets

-- keyUsage (RFC 5280, 4.2.1.3): a BIT STRING, whose contents are the count of unused bits and the octets of the bits
-- (X.690, 8.6.2)
use Rattle.std.specs.Prelude.{◌≡◌, ◌↔◌, ◌==◌, ℕ, Bool, List, ◌∷◌, Result, Ok}
use Rattle.asn.specs.DerLaws.{AreOctets}
use Rattle.asn.specs.Part.{IsWhole}
use Rattle.asn.specs.Place.{Place, tag, body, body_place}
use Rattle.asn.specs.Walk.{◌>>=◌, is_a}
use Rattle.asn.specs.Outermost.{nested}
use Rattle.names.specs.Ip.{bit}
use Rattle.cert.specs.BitString.{bits_in}
use Rattle.cert.specs.Fault.{as_der}
use Rattle.cert.specs.declared.fault.CertRule.{CertRule}
use Rattle.cert.specs.declared.fault.CertRule.TheVariants.{ExtensionValue}
use Rattle.cert.specs.declared.key_usage.KeyUsage as code

-- the octets of the bits
abbrev pub seen_key_usage : code.KeyUsage → List ℕ
seen_key_usage read = read.bits.now

-- whether the bit is set, where the highest of the first octet is bit 0; past the end none is
abbrev pub has_bit : List ℕ → ℕ → Bool
has_bit bits index = bit bits index == 1

-- The checks in their order.
unfoldable pub key_usage : Place → Result (List ℕ) (CertRule × ℕ)
key_usage octet_string = do
  value ← as_der (nested octet_string)
  string ← is_a 0x03 ExtensionValue value
  Ok (bits_in (body value))

-- The contents of the OCTET STRING are a BIT STRING, and these are the octets of its bits.
pub record IsKeyUsage (octet_string : Place) (bits : List ℕ) : Type 0 where
  pub whole : IsWhole (body octet_string)
  pub unused : ℕ
  pub bit_string : tag (body_place octet_string) ≡ 0x03
  pub contents : body (body_place octet_string) ≡ unused ∷ bits

abbrev pub KeyUsageIsExact : Type 0
KeyUsageIsExact =
    (octet_string : Place) (bits : List ℕ) → AreOctets (body octet_string) →
    (key_usage octet_string ≡ Ok bits) ↔ IsKeyUsage octet_string bits

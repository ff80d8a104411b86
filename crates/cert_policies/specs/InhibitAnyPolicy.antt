-- inhibitAnyPolicy (RFC 5280, 4.2.1.14): INTEGER (0..MAX)
use Rattle.std.specs.Prelude.{◌≡◌, ◌↔◌, ℕ, not, min, pos, Result, Ok}
use Rattle.asn.specs.DerLaws.{AreOctets}
use Rattle.asn.specs.Part.{IsWhole}
use Rattle.asn.specs.Place.{Place, tag, body, body_place}
use Rattle.asn.specs.Walk.{◌>>=◌, check_that, is_a}
use Rattle.asn.specs.Outermost.{nested}
use Rattle.asn.specs.Integer.{integer_value}
use Rattle.cert.specs.BasicConstraints.{is_negative, saturated}
use Rattle.cert.specs.Fault.{as_der}
use Rattle.cert.specs.declared.fault.CertRule.{CertRule}
use Rattle.cert.specs.declared.fault.CertRule.TheVariants.{ExtensionValue}

-- The checks in their order.
unfoldable pub inhibit_any_policy : Place → Result ℕ (CertRule × ℕ)
inhibit_any_policy octet_string = do
  value ← as_der (nested octet_string)
  integer ← is_a 0x02 ExtensionValue value
  done ← check_that (not (is_negative (body value))) ExtensionValue value.at
  Ok (saturated (body value))

-- The contents of the OCTET STRING are an INTEGER of 0 or more: that, or the greatest of 32 bits where it is greater.
pub record IsInhibitAnyPolicy (octet_string : Place) (count : ℕ) : Type 0 where
  pub whole : IsWhole (body octet_string)
  pub number : ℕ
  pub integer : tag (body_place octet_string) ≡ 0x02
  pub value_is : integer_value (body (body_place octet_string)) ≡ pos number
  pub count_is : count ≡ min number 4294967295

abbrev pub InhibitAnyPolicyIsExact : Type 0
InhibitAnyPolicyIsExact =
    (octet_string : Place) (count : ℕ) → AreOctets (body octet_string) →
    (inhibit_any_policy octet_string ≡ Ok count) ↔ IsInhibitAnyPolicy octet_string count

-- The times of a certificate (RFC 5280, 4.1.2.5): SEQUENCE { notBefore Time, notAfter Time }
use Rattle.std.specs.Prelude.{◌≡◌, ◌↔◌, ℕ, ℤ, [], ◌∷◌, Result, Ok}
use Rattle.asn.specs.Value.{Value, constructed, none, more}
use Rattle.asn.specs.Encoding.{EncodesAt}
use Rattle.asn.specs.Place.{Place, tag, body}
use Rattle.asn.specs.Members.{members}
use Rattle.asn.specs.Walk.{◌>>=◌, is_a, time, ended}
use Rattle.asn.specs.Time.{IsTime}
use Rattle.asn.specs.Layout.{HasTimeLayout}
use Rattle.cert.specs.declared.fault.CertRule.{CertRule}
use Rattle.cert.specs.declared.fault.CertRule.TheVariants.{Layout, Time}
use Rattle.cert.specs.declared.validity.Validity as code

-- in seconds from 1970-01-01T00:00:00Z
pub record Validity : Type 0 where
  pub not_before : ℤ
  pub not_after : ℤ

abbrev pub seen_validity : code.Validity → Validity
seen_validity read = record { not_before = read.not_before; not_after = read.not_after }

-- The checks in their order.
unfoldable pub validity : Place → Result Validity (CertRule × ℕ)
validity value = do
  sequence ← is_a 0x30 Layout value
  not_before ← time Layout Time (members value)
  not_after ← time Layout Time not_before.1
  done ← ended Layout not_after.1
  Ok (record { not_before = not_before.0; not_after = not_after.0 })

-- The place is a SEQUENCE of two times.
pub record IsValidity (value : Place) (fields : Validity) : Type 0 where
  pub first : Place
  pub second : Place
  pub sequence : tag value ≡ 0x30
  pub members_are : (members value).values ≡ first ∷ second ∷ []
  pub not_before : IsTime (tag first) (body first) fields.not_before
  pub not_after : IsTime (tag second) (body second) fields.not_after

-- The same of values.
pub record HasValidityLayout (value : Value) (fields : Validity) : Type 0 where
  pub first : Value
  pub second : Value
  pub sequence : value ≡ constructed 0x30 (more first (more second none))
  pub not_before : HasTimeLayout first fields.not_before
  pub not_after : HasTimeLayout second fields.not_after

abbrev pub ValidityIsExact : Type 0
ValidityIsExact = (value : Place) (fields : Validity) → (validity value ≡ Ok fields) ↔ IsValidity value fields

abbrev pub ValidityHasLayout : Type 0
ValidityHasLayout =
    (depth : ℕ) (value : Value) (place : Place) (fields : Validity) →
    EncodesAt depth place.octets value →
    (validity place ≡ Ok fields) ↔ HasValidityLayout value fields

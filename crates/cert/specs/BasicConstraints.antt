-- basicConstraints (RFC 5280, 4.2.1.9):
-- SEQUENCE { cA BOOLEAN DEFAULT FALSE, pathLenConstraint INTEGER (0..MAX) OPTIONAL }
use Rattle.std.specs.Prelude.{◌≡◌, ◌↔◌, ℕ, Bool, false, nat_le, min, pos, List, [], ◌∷◌, ◌++◌, Option, Some, None, Result, Ok, Err, if◌then◌else◌}
use Rattle.asn.specs.DerLaws.{AreOctets}
use Rattle.asn.specs.Part.{IsWhole}
use Rattle.asn.specs.Place.{Place, tag, body, body_place}
use Rattle.asn.specs.Members.{Members, members}
use Rattle.asn.specs.Walk.{◌>>=◌, is_a, optional, default_false, ended}
use Rattle.asn.specs.Outermost.{nested}
use Rattle.asn.specs.Layout.{IsDefaultFalse}
use Rattle.asn.specs.Integer.{binary_value, integer_value}
use Rattle.cert.specs.Fault.{as_der}
use Rattle.cert.specs.declared.fault.CertRule.{CertRule}
use Rattle.cert.specs.declared.fault.CertRule.TheVariants.{ExtensionValue}
use Rattle.cert.specs.declared.basic_constraints.BasicConstraints as code

pub record BasicConstraints : Type 0 where
  pub ca : Bool
  pub path_length : Option ℕ

abbrev pub seen_basic_constraints : code.BasicConstraints → BasicConstraints
seen_basic_constraints read = record { ca = read.ca; path_length = read.path_length }

-- its pathLenConstraint, if there is one
abbrev pub path_len_constraint : Option BasicConstraints → Option ℕ
path_len_constraint None = None
path_len_constraint (Some constraints) = constraints.path_length

-- contents of a negative INTEGER have the first bit set (X.690, 8.3.3)
abbrev pub is_negative : List ℕ → Bool
is_negative [] = false
is_negative (first ∷ octets) = nat_le 128 first

-- the number that the octets spell in binary, or the greatest of 32 bits where it is greater
unfoldable pub saturated : List ℕ → ℕ
saturated octets = min (binary_value octets) 4294967295

-- pathLenConstraint INTEGER (0..MAX) OPTIONAL
abbrev pub path_length_in : Option Place → Members → Result (Option ℕ × Members) (CertRule × ℕ)
path_length_in None left = Ok (None, left)
path_length_in (Some number) left =
    if is_negative (body number) then Err (ExtensionValue, number.at) else Ok (Some (saturated (body number)), left)

unfoldable pub path_length : Members → Result (Option ℕ × Members) (CertRule × ℕ)
path_length left = path_length_in (optional 0x02 left).0 (optional 0x02 left).1

-- The checks in their order.
unfoldable pub basic_constraints : Place → Result BasicConstraints (CertRule × ℕ)
basic_constraints octet_string = do
  value ← as_der (nested octet_string)
  sequence ← is_a 0x30 ExtensionValue value
  ca ← default_false ExtensionValue (members value)
  path_length ← path_length ca.1
  done ← ended ExtensionValue path_length.1
  Ok (record { ca = ca.0; path_length = path_length.0 })

-- INTEGER (0..MAX) OPTIONAL: nothing, or the number of an INTEGER, or the greatest of 32 bits where that is greater
pub record IsNumber (value : Place) (length : Option ℕ) : Type 0 where
  pub number : ℕ
  pub integer : tag value ≡ 0x02
  pub value_is : integer_value (body value) ≡ pos number
  pub length_is : length ≡ Some (min number 4294967295)

abbrev pub IsPathLength : List Place → Option ℕ → Type 0
IsPathLength [] length = length ≡ None
IsPathLength (value ∷ []) length = IsNumber value length
IsPathLength (value ∷ other ∷ values) length = ⊥

-- The contents of the OCTET STRING are a SEQUENCE of TRUE or nothing, and of a path length or nothing.
pub record IsBasicConstraints (octet_string : Place) (fields : BasicConstraints) : Type 0 where
  pub whole : IsWhole (body octet_string)
  pub flags : List Place
  pub numbers : List Place
  pub sequence : tag (body_place octet_string) ≡ 0x30
  pub members_are : (members (body_place octet_string)).values ≡ flags ++ numbers
  pub ca : IsDefaultFalse flags fields.ca
  pub path_length : IsPathLength numbers fields.path_length

abbrev pub BasicConstraintsAreExact : Type 0
BasicConstraintsAreExact =
    (octet_string : Place) (fields : BasicConstraints) → AreOctets (body octet_string) →
    (basic_constraints octet_string ≡ Ok fields) ↔ IsBasicConstraints octet_string fields

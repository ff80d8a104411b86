-- DistributionPoint (RFC 5280, 4.2.1.13): SEQUENCE {
--   distributionPoint [0] DistributionPointName OPTIONAL,
--   reasons           [1] ReasonFlags OPTIONAL,
--   cRLIssuer         [2] GeneralNames OPTIONAL }
use Rattle.std.specs.Prelude.{◌≡◌, ◌≢◌, ◌⊎◌, ◌↔◌, ◌||◌, ℕ, Bool, List, [], ◌∷◌, ◌++◌, Option, Some, None, is_some, Result, Ok}
use Rattle.asn.specs.Place.{Place, tag}
use Rattle.asn.specs.Members.{Members, members}
use Rattle.asn.specs.Walk.{◌>>=◌, seen, check_that, is_a, optional, ended}
use Rattle.cert.specs.declared.fault.CertRule.{CertRule}
use Rattle.cert.specs.declared.fault.CertRule.TheVariants.{ExtensionValue}
use Rattle.cert_points.specs.declared.distribution_point.DistributionPoint as code
use Rattle.cert_points.specs.GeneralNames.{general_names, AreGeneralNames, seen_general_names}
use Rattle.cert_points.specs.PointName.{PointName, point_name, IsPointName, seen_point_name}
use Rattle.cert_points.specs.ReasonFlags.{reason_flags, AreReasonFlags}

-- the name, the octets of the bits of the reasons, and the names of the issuer of the lists, if they are there
pub record DistributionPoint : Type 0 where
  pub name : Option PointName
  pub reasons : Option (List ℕ)
  pub issuer : Option (List (List ℕ))

abbrev pub seen_point : code.DistributionPoint → DistributionPoint
seen_point read = record {
  name = seen seen_point_name read.name;
  reasons = seen (λ bits. bits.now) read.reasons;
  issuer = seen seen_general_names read.issuer;
}

-- the next value, read so, where it has this identifier
abbrev pub read_found :
    {X : Type 0} → (Place → Result X (CertRule × ℕ)) → Option Place → Members
    → Result (Option X × Members) (CertRule × ℕ)
read_found read None left = Ok (None, left)
read_found read (Some value) left = read value >>= λ x. Ok (Some x, left)

unfoldable pub read_optional :
    {X : Type 0} → ℕ → (Place → Result X (CertRule × ℕ)) → Members
    → Result (Option X × Members) (CertRule × ℕ)
read_optional identifier read left =
    read_found read (optional identifier left).0 (optional identifier left).1

unfoldable pub point_members : Place → Result DistributionPoint (CertRule × ℕ)
point_members value = do
  sequence ← is_a 0x30 ExtensionValue value
  name ← read_optional 0xA0 point_name (members value)
  reasons ← read_optional 0x81 reason_flags name.1
  issuer ← read_optional 0xA2 general_names reasons.1
  done ← ended ExtensionValue issuer.1
  Ok (record { name = name.0; reasons = reasons.0; issuer = issuer.0 })

-- the point has a name or an issuer
abbrev pub is_told : DistributionPoint → Bool
is_told point = is_some point.name || is_some point.issuer

-- The checks in their order.
unfoldable pub distribution_point : Place → Result DistributionPoint (CertRule × ℕ)
distribution_point value = do
  point ← point_members value
  told ← check_that (is_told point) ExtensionValue value.at
  Ok point

-- nothing, or a value with the tag that is such a field
abbrev pub IsOptional : {X : Type 0} → ℕ → (Place → X → Type 0) → List Place → Option X → Type 0
IsOptional identifier Is [] field = field ≡ None
IsOptional {X} identifier Is (value ∷ []) field =
    (x : X) × (tag value ≡ identifier) × Is value x × (field ≡ Some x)
IsOptional identifier Is (value ∷ other ∷ values) field = ⊥

-- The value is a SEQUENCE of distributionPoint, reasons and cRLIssuer, each of which may be left out. A point must
-- not consist of the reasons alone: it has distributionPoint or cRLIssuer.
pub record IsDistributionPoint (value : Place) (point : DistributionPoint) : Type 0 where
  pub names : List Place
  pub reasons : List Place
  pub issuers : List Place
  pub sequence : tag value ≡ 0x30
  pub members_are : (members value).values ≡ names ++ (reasons ++ issuers)
  pub name_is : IsOptional 0xA0 IsPointName names point.name
  pub reasons_are : IsOptional 0x81 AreReasonFlags reasons point.reasons
  pub issuer_is : IsOptional 0xA2 AreGeneralNames issuers point.issuer
  pub told : (point.name ≢ None) ⊎ (point.issuer ≢ None)

abbrev pub DistributionPointIsExact : Type 0
DistributionPointIsExact =
    (value : Place) (point : DistributionPoint) →
    (distribution_point value ≡ Ok point) ↔ IsDistributionPoint value point

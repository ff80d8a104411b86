-- CRLDistributionPoints (RFC 5280, 4.2.1.13): SEQUENCE SIZE (1..MAX) OF DistributionPoint
use Rattle.std.specs.Prelude.{◌≡◌, ◌<◌, ◌↔◌, ℕ, List, [], ◌∷◌, ◌++◌, length, map, Result, Ok}
use Rattle.std.specs.List.{AllZip}
use Rattle.std.specs.Global.{Vec}
use Rattle.asn.specs.declared.tlv.Tlv.{Tlv}
use Rattle.asn.specs.DerLaws.{AreOctets}
use Rattle.asn.specs.Part.{IsWhole}
use Rattle.asn.specs.Place.{Place, seen_tlv, tag, body, body_place}
use Rattle.asn.specs.Members.{Members, members}
use Rattle.asn.specs.Walk.{◌>>=◌, is_a, some, each}
use Rattle.asn.specs.Outermost.{nested}
use Rattle.cert.specs.Fault.{as_der, GivesUnlessFull}
use Rattle.cert.specs.declared.fault.CertFault.{CertFault}
use Rattle.cert.specs.declared.fault.CertRule.{CertRule}
use Rattle.cert.specs.declared.fault.CertRule.TheVariants.{ExtensionValue}
use Rattle.cert_points.specs.declared.distribution_point.DistributionPoint as point_read
use Rattle.cert_points.specs.declared.points.DistributionPoints as code
use Rattle.cert_points.specs.DistributionPoint.{DistributionPoint, distribution_point, IsDistributionPoint, seen_point}

abbrev pub seen_point_list : Vec point_read.DistributionPoint → List DistributionPoint
seen_point_list points = map seen_point points.items

abbrev pub seen_points : code.DistributionPoints → List DistributionPoint
seen_points read = seen_point_list read.points

-- the points with one more
unfoldable pub one_more_point :
    List DistributionPoint → Place → Result (List DistributionPoint) (CertRule × ℕ)
one_more_point earlier value = distribution_point value >>= λ point. Ok (earlier ++ point ∷ [])

-- The checks in their order.
unfoldable pub distribution_points : Place → Result (List DistributionPoint) (CertRule × ℕ)
distribution_points octet_string = do
  value ← as_der (nested octet_string)
  sequence ← is_a 0x30 ExtensionValue value
  one ← some ExtensionValue (members value)
  each one_more_point [] ((members value).values)

-- The contents of the OCTET STRING are a SEQUENCE of these points, one for one, and there is one.
pub record AreDistributionPoints
    (octet_string : Place)
    (points : List DistributionPoint) : Type 0 where
  pub whole : IsWhole (body octet_string)
  pub sequence : tag (body_place octet_string) ≡ 0x30
  pub some : 0 < length points
  pub each : AllZip IsDistributionPoint (members (body_place octet_string)).values points

abbrev pub DistributionPointsAreExact : Type 0
DistributionPointsAreExact =
    (octet_string : Place) (points : List DistributionPoint) → AreOctets (body octet_string) →
    (distribution_points octet_string ≡ Ok points) ↔ AreDistributionPoints octet_string points

-- all points, in order
abbrev pub all_points : Members → Result (List DistributionPoint) (CertRule × ℕ)
all_points left = each one_more_point [] left.values

-- The points before and after one more is read.
abbrev pub AddsPoint :
    Tlv → Vec point_read.DistributionPoint → Vec point_read.DistributionPoint
    → Result (Unit {0}) CertFault → Type 0
AddsPoint value old new result =
    GivesUnlessFull (λ _. seen_point_list new) result
    (one_more_point (seen_point_list old) (seen_tlv value))

-- Under which other names lists that are about a certificate may be published (RFC 5280, 4.2.1.13): at points with reasons, whose lists are
-- about these alone, or with cRLIssuer. What such a list revokes is revoked (6.3.3), but it does not tell of all that are.
use Rattle.std.specs.Prelude.{◌≡◌, ◌≢◌, ◌⊎◌, ◌↔◌, ◌++◌, ℕ, List, [], flat_map, Option, Some, None}
use Rattle.std.specs.List.{Contains}
use Rattle.std.specs.Global.{Vec}
use Rattle.std.specs.Borrow.{Bor}
use Rattle.cert_points.specs.declared.distribution_point.DistributionPoint as code
use Rattle.cert_points.specs.GeneralNames.{octets_of}
use Rattle.cert_points.specs.PointName.{PointName, full_name, relative}
use Rattle.cert_points.specs.DistributionPoint.{DistributionPoint, seen_point}

-- the full names, if reasons or an issuer are there
abbrev pub limited_names_in :
    Option PointName → Option (List ℕ) → Option (List (List ℕ)) → List (List ℕ)
limited_names_in (Some (full_name names)) None None = []
limited_names_in (Some (full_name names)) None (Some issuer) = names
limited_names_in (Some (full_name names)) (Some reasons) issuer = names
limited_names_in (Some relative) reasons issuer = []
limited_names_in None reasons issuer = []

abbrev pub limited_names_of : DistributionPoint → List (List ℕ)
limited_names_of point = limited_names_in point.name point.reasons point.issuer

-- The names, point by point.
abbrev pub limited_names : List DistributionPoint → List (List ℕ)
limited_names points = flat_map limited_names_of points

-- The point has reasons or cRLIssuer, and this is one of its full names.
pub record HasLimitedName (point : DistributionPoint) (name : List ℕ) : Type 0 where
  pub names : List (List ℕ)
  pub named : point.name ≡ Some (full_name names)
  pub limited : (point.reasons ≢ None) ⊎ (point.issuer ≢ None)
  pub among : Contains names name

abbrev pub LimitedNamesAreExact : Type 0
LimitedNamesAreExact =
    (points : List DistributionPoint) (name : List ℕ) →
    Contains (limited_names points) name
    ↔ ((point : DistributionPoint) × Contains points point × HasLimitedName point name)

-- The names before and after those of a point are added.
abbrev pub AddsLimitedNames :
    code.DistributionPoint → Vec (Bor (List ℕ)) → Vec (Bor (List ℕ)) → Type 0
AddsLimitedNames point old new =
    octets_of new ≡ octets_of old ++ limited_names_of (seen_point point)

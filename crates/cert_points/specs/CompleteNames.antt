-- Under which names a list about all reasons may be published for a certificate, by its issuer (RFC 5280,
-- 4.2.1.13). If a point omits reasons, its list is about all of them; if it omits cRLIssuer, its list is issued
-- by the certificate's issuer. Several full names are several ways to the same list.
use Rattle.std.specs.Prelude.{◌≡◌, ◌↔◌, ◌++◌, ℕ, List, [], flat_map, Option, Some, None}
use Rattle.std.specs.List.{Contains}
use Rattle.std.specs.Global.{Vec}
use Rattle.std.specs.Borrow.{Bor}
use Rattle.cert_points.specs.declared.distribution_point.DistributionPoint as code
use Rattle.cert_points.specs.declared.general_names.GeneralNames as names_read
use Rattle.cert_points.specs.GeneralNames.{seen_general_names, octets_of}
use Rattle.cert_points.specs.PointName.{PointName, full_name, relative}
use Rattle.cert_points.specs.DistributionPoint.{DistributionPoint, seen_point}

-- the full names, if neither reasons nor an issuer are there
abbrev pub complete_names_in :
    Option PointName → Option (List ℕ) → Option (List (List ℕ)) → List (List ℕ)
complete_names_in (Some (full_name names)) None None = names
complete_names_in (Some (full_name names)) None (Some issuer) = []
complete_names_in (Some (full_name names)) (Some reasons) issuer = []
complete_names_in (Some relative) reasons issuer = []
complete_names_in None reasons issuer = []

abbrev pub complete_names_of : DistributionPoint → List (List ℕ)
complete_names_of point = complete_names_in point.name point.reasons point.issuer

-- The names, point by point.
abbrev pub complete_names : List DistributionPoint → List (List ℕ)
complete_names points = flat_map complete_names_of points

-- The point is about all reasons and about lists of the certificate's issuer; this is one of its full names.
pub record HasCompleteName (point : DistributionPoint) (name : List ℕ) : Type 0 where
  pub names : List (List ℕ)
  pub named : point.name ≡ Some (full_name names)
  pub all_reasons : point.reasons ≡ None
  pub own_issuer : point.issuer ≡ None
  pub among : Contains names name

abbrev pub CompleteNamesAreExact : Type 0
CompleteNamesAreExact =
    (points : List DistributionPoint) (name : List ℕ) →
    Contains (complete_names points) name
    ↔ ((point : DistributionPoint) × Contains points point × HasCompleteName point name)

abbrev pub names_if_any : Option names_read.GeneralNames → List (List ℕ)
names_if_any None = []
names_if_any (Some names) = seen_general_names names

-- The names before and after those of a point are added.
abbrev pub AddsCompleteNames :
    code.DistributionPoint → Vec (Bor (List ℕ)) → Vec (Bor (List ℕ)) → Type 0
AddsCompleteNames point old new =
    octets_of new ≡ octets_of old ++ complete_names_of (seen_point point)

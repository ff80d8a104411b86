-- The walk of distribution points finds what the standard calls them, and nothing else.
use Rattle.std.proofs.Common.{◌≡◌, ℕ, List, Ok, refl, sym, subst}
use Rattle.std.specs.List.{AllZip}
use Rattle.asn.specs.DerLaws.{AreOctets}
use Rattle.asn.specs.Place.{Place, tag, body, body_place}
use Rattle.asn.specs.Members.{members}
use Rattle.asn.proofs.Laws.{bind_ok, ok_is, is_a_ok, is_a_again}
use Rattle.cert.specs.declared.fault.CertRule.{CertRule}
use Rattle.cert.specs.declared.fault.CertRule.TheVariants.{ExtensionValue}
use Rattle.cert_points.specs.DistributionPoint.{DistributionPoint, IsDistributionPoint}
use Rattle.cert_points.specs.DistributionPoints.{one_more_point, distribution_points, AreDistributionPoints}
use Rattle.cert_points.proofs.ContainedValues.{contained_ok, contained_again}
use Rattle.cert_points.proofs.AddedItems.{Adds, some_items_ok, some_items_again}
use Rattle.cert_points.proofs.OnePoint.{is_point, point_is}

added_ok : (from : List DistributionPoint) (value : Place) (to : List DistributionPoint) → one_more_point from value ≡ Ok to → Adds IsDistributionPoint from value to
unfolding one_more_point
added_ok from value to e =
    let point = bind_ok _ _ to e in
    record { item = point.0; is_item = is_point value point.0 point.1; added = sym (ok_is {E = CertRule × ℕ} _ to point.2) }

added_again : (from : List DistributionPoint) (value : Place) (to : List DistributionPoint) → Adds IsDistributionPoint from value to → one_more_point from value ≡ Ok to
unfolding one_more_point
added_again from value to adds = rw (point_is value adds.item adds.is_item, ← adds.added) refl

pub are_points : (octet_string : Place) (points : List DistributionPoint) → AreOctets (body octet_string) → distribution_points octet_string ≡ Ok points → AreDistributionPoints octet_string points
unfolding distribution_points
are_points octet_string points fits e =
    let value = bind_ok _ _ points e in
    let sequence = bind_ok _ _ points value.2 in
    let held = contained_ok octet_string value.0 fits value.1 in
    let found = some_items_ok one_more_point IsDistributionPoint added_ok ExtensionValue (members value.0) points sequence.2 in
    record {
      whole = held.1;
      sequence = subst (λ (p : Place). tag p ≡ 0x30) held.0 (is_a_ok _ _ _ _ sequence.1);
      some = found.one;
      each = subst (λ (p : Place). AllZip IsDistributionPoint (members p).values points) held.0 found.are_items;
    }

pub points_are : (octet_string : Place) (points : List DistributionPoint) → AreDistributionPoints octet_string points → distribution_points octet_string ≡ Ok points
unfolding distribution_points
points_are octet_string points are =
    rw (contained_again octet_string are.whole, is_a_again 0x30 ExtensionValue (body_place octet_string) are.sequence)
    (some_items_again one_more_point IsDistributionPoint added_again ExtensionValue (members (body_place octet_string)) points record { one = are.some; are_items = are.each })

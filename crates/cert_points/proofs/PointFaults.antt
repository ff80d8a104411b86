-- Faults in distribution points are of the value of their extension, and stand in the certificate.
use Rattle.std.proofs.Common.{◌≡◌, ◌==◌, ℕ, Bool, true, false, List, [], ◌∷◌, ◌++◌, append-nil, map, Option, Some, None, Result, Ok, Err, if◌then◌else◌, refl, sym, ap, ◌∙◌, subst, inr}
use Rattle.std.specs.List.{AllByRecursion, AllZip}
use Rattle.asn.specs.DerLaws.{AreOctets}
use Rattle.asn.specs.Identifier.{is_constructed}
use Rattle.asn.specs.Members.{Members, members}
use Rattle.asn.specs.Outermost.{nested}
use Rattle.asn.specs.Place.{Place, tag, body}
use Rattle.asn.specs.Walk.{◌>>=◌, check_that, is_a, required, next_or, optional, some, ended, each}
use Rattle.asn.proofs.Laws.{IsEncodedPart, AllParts}
use Rattle.names.specs.NameRule.{NameRule}
use Rattle.names.specs.GeneralLayout.{GeneralName, general}
use Rattle.cert.specs.Fault.{as_der, as_name}
use Rattle.cert.specs.declared.fault.CertRule.{CertRule}
use Rattle.cert.specs.declared.fault.CertRule.TheVariants.{ExtensionValue}
use Rattle.cert.specs.declared.extension_kind.ExtensionKind.TheVariants as Kind
use Rattle.cert.specs.ExtensionValues.{read_if_there}
use Rattle.cert.proofs.StandingValues.{value_stands}
use Rattle.cert.specs.Certificate.{Certificate}
use Rattle.cert.specs.Offsets.{GeneralNameFaultIsWithin}
use Rattle.cert_points.specs.GeneralNames.{any_general_name, constructed_members, general_names}
use Rattle.cert_points.specs.RelativeName.{type_and_value, relative_name}
use Rattle.cert_points.specs.PointName.{full_name, relative, chosen_name, point_name}
use Rattle.cert_points.specs.ReasonFlags.{is_bit_string, reason_flags}
use Rattle.cert_points.specs.DistributionPoint.{DistributionPoint, read_found, read_optional, point_members, is_told, distribution_point}
use Rattle.cert_points.specs.DistributionPoints.{one_more_point, distribution_points}
use Rattle.cert_points.specs.PointReading.{certificate_points, some_points}
use Rattle.cert_points.specs.Offsets.{PointFaultIsOfValue, PointNameFaultIsWithin}
use Rattle.cert_points.proofs.FaultSteps.{Left, members_left, Within, Any, and_then, refused, begins_at, value_fault, check_within, is_a_within, Behind, required_within, Next, next_within, StandsWhereThere, optional_stands, ended_within, some_within, each_within, nested_within}

-- The offset of a fault in a general name stands in its text. This is a law of the layer below, and is handed in.
abbrev Law : Type 0
Law = GeneralNameFaultIsWithin

-- general names
name_within : (law : Law) (text : List ℕ) (earlier : Unit {0}) (value : Place) → AreOctets text → IsEncodedPart text value → Within text Any (any_general_name earlier value)
unfolding any_general_name
name_within law text earlier value octets is = by (general value) refl
  where
    by : (said : Result GeneralName (NameRule × ℕ)) → general value ≡ said → Within text (Any {A = Unit {0}}) (as_name said >>= λ name. Ok tt)
    by (Ok said) e = tt
    by (Err fault) e =
        (inr (inr (fault.0, refl)), law text value fault.0 fault.1 record { octets = octets; part = is.stands; encoded = (is.depth, is.value, is.encodes) } e)

nothing : Unit {0}
nothing = tt

constructed_within : (text : List ℕ) (value : Place) → IsEncodedPart text value → Within text (Left text) (constructed_members value)
unfolding constructed_members check_that
constructed_within text value is = by (is_constructed (tag value)) refl
  where
    by : (form : Bool) → is_constructed (tag value) ≡ form → Within text (Left text) ((if form then Ok nothing else Err (ExtensionValue, value.at)) >>= λ checked. Ok (members value))
    by true e = members_left text value e is
    by false e = value_fault text value.at (begins_at text value is)

names_within : (law : Law) (text : List ℕ) (value : Place) → AreOctets text → IsEncodedPart text value → Within text Any (general_names value)
unfolding general_names
names_within law text value octets is =
    and_then text (Left text) Any (constructed_members value) _ (constructed_within text value is) (λ left inside.
    and_then text Any Any (some ExtensionValue left) _ (some_within text left inside) (λ _ _.
    and_then text Any Any (each any_general_name tt left.values) _ (each_within text any_general_name (λ earlier name stands. name_within law text earlier name octets stands) tt left.values inside.parts) (λ _ _. tt)))

-- relative names
attribute_within : (text : List ℕ) (earlier : Unit {0}) (value : Place) → IsEncodedPart text value → Within text Any (type_and_value earlier value)
unfolding type_and_value
attribute_within text earlier value is =
    and_then text (λ _. tag value ≡ 0x30) Any (is_a 0x30 ExtensionValue value) _ (is_a_within text 0x30 value is) (λ _ sequence.
    and_then text (Behind text) Any (required 0x06 ExtensionValue (members value)) _ (required_within text 0x06 (members value) (members_left text value (ap is_constructed sequence) is)) (λ type rest.
    and_then text (Next text) Any (next_or ExtensionValue type.1) _ (next_within text type.1 rest) (λ said next.
    ended_within text said.1 next.left)))

relative_within : (text : List ℕ) (value : Place) → IsEncodedPart text value → Within text Any (relative_name value)
unfolding relative_name
relative_within text value is =
    and_then text (λ _. tag value ≡ 0xA1) Any (is_a 0xA1 ExtensionValue value) _ (is_a_within text 0xA1 value is) (λ _ tagged.
    let inside = members_left text value (ap is_constructed tagged) is in
    and_then text Any Any (some ExtensionValue (members value)) _ (some_within text (members value) inside) (λ _ _.
    each_within text type_and_value (attribute_within text) tt (members value).values inside.parts))

-- the name of a point
chosen_within : (law : Law) (text : List ℕ) (value : Place) → AreOctets text → IsEncodedPart text value → Within text Any (chosen_name value)
unfolding chosen_name
chosen_within law text value octets is = by (tag value == 0xA0)
  where
    by : (full : Bool) → Within text Any (if full then (general_names value >>= λ names. Ok (full_name names)) else (relative_name value >>= λ done. Ok relative))
    by true = and_then text Any Any (general_names value) _ (names_within law text value octets is) (λ _ _. tt)
    by false = and_then text Any Any (relative_name value) _ (relative_within text value is) (λ _ _. tt)

point_name_within : (law : Law) (text : List ℕ) (value : Place) → AreOctets text → IsEncodedPart text value → Within text Any (point_name value)
unfolding point_name
point_name_within law text value octets is =
    and_then text (λ _. tag value ≡ 0xA0) Any (is_a 0xA0 ExtensionValue value) _ (is_a_within text 0xA0 value is) (λ _ tagged.
    and_then text (Next text) Any (next_or ExtensionValue (members value)) _ (next_within text (members value) (members_left text value (ap is_constructed tagged) is)) (λ choice next.
    and_then text Any Any (chosen_name choice.0) _ (chosen_within law text choice.0 octets next.value) (λ name _.
    and_then text Any Any (ended ExtensionValue choice.1) _ (ended_within text choice.1 next.left) (λ _ _. tt))))

reasons_within : (text : List ℕ) (value : Place) → IsEncodedPart text value → Within text Any (reason_flags value)
unfolding reason_flags
reasons_within text value is = and_then text Any Any (check_that (is_bit_string (body value)) ExtensionValue value.at) _ (check_within text (is_bit_string (body value)) value is) (λ _ _. tt)

-- a field that may be left out
field_within : {X : Type 0} (text : List ℕ) (identifier : ℕ) (read : Place → Result X (CertRule × ℕ)) → ((value : Place) → IsEncodedPart text value → Within text Any (read value))
    → (left : Members) → Left text left → Within text (Behind text) (read_optional identifier read left)
unfolding read_optional
field_within {X} text identifier read reads left is = let o = optional_stands text identifier left is in by (optional identifier left).0 (optional identifier left).1 o.0 o.1
  where
    by : (found : Option Place) (others : Members) → StandsWhereThere text found → Left text others → Within text (Behind text) (read_found read found others)
    by None others here rest = rest
    by (Some value) others here rest = and_then text Any (Behind text) (read value) _ (reads value here) (λ _ _. rest)

members_within : (law : Law) (text : List ℕ) (value : Place) → AreOctets text → IsEncodedPart text value → Within text Any (point_members value)
unfolding point_members
members_within law text value octets is =
    and_then text (λ _. tag value ≡ 0x30) Any (is_a 0x30 ExtensionValue value) _ (is_a_within text 0x30 value is) (λ _ sequence.
    and_then text (Behind text) Any (read_optional 0xA0 point_name (members value)) _ (field_within text 0xA0 point_name (λ v here. point_name_within law text v octets here) (members value) (members_left text value (ap is_constructed sequence) is)) (λ name first.
    and_then text (Behind text) Any (read_optional 0x81 reason_flags name.1) _ (field_within text 0x81 reason_flags (reasons_within text) name.1 first) (λ reasons second.
    and_then text (Behind text) Any (read_optional 0xA2 general_names reasons.1) _ (field_within text 0xA2 general_names (λ v here. names_within law text v octets here) reasons.1 second) (λ issuer third.
    and_then text Any Any (ended ExtensionValue issuer.1) _ (ended_within text issuer.1 third) (λ _ _. tt)))))

point_within : (law : Law) (text : List ℕ) (value : Place) → AreOctets text → IsEncodedPart text value → Within text Any (distribution_point value)
unfolding distribution_point
point_within law text value octets is =
    and_then text Any Any (point_members value) _ (members_within law text value octets is) (λ point _.
    and_then text Any Any (check_that (is_told point) ExtensionValue value.at) _ (check_within text (is_told point) value is) (λ _ _. tt))

one_within : (law : Law) (text : List ℕ) (octets : AreOctets text) (earlier : List DistributionPoint) (value : Place) → IsEncodedPart text value → Within text Any (one_more_point earlier value)
unfolding one_more_point
one_within law text octets earlier value is = and_then text Any Any (distribution_point value) _ (point_within law text value octets is) (λ _ _. tt)

points_within : (law : Law) (text : List ℕ) (value : Place) → AreOctets text → IsEncodedPart text value → Within text Any (distribution_points value)
unfolding distribution_points
points_within law text value octets is =
    and_then text (IsEncodedPart text) Any (as_der (nested value)) _ (nested_within text value octets is) (λ inner whole.
    and_then text (λ _. tag inner ≡ 0x30) Any (is_a 0x30 ExtensionValue inner) _ (is_a_within text 0x30 inner whole) (λ _ sequence.
    let left = members_left text inner (ap is_constructed sequence) whole in
    and_then text Any Any (some ExtensionValue (members inner)) _ (some_within text (members inner) left) (λ _ _.
    each_within text one_more_point (one_within law text octets) [] ((members inner).values) left.parts)))

-- the extension
there_within : (law : Law) (text : List ℕ) (found : Option Place) → AreOctets text → ((value : Place) → found ≡ Some value → IsEncodedPart text value) → Within text Any (read_if_there None some_points found)
there_within law text None octets stands = tt
there_within law text (Some value) octets stands = and_then text Any Any (distribution_points value) _ (points_within law text value octets (stands value refl)) (λ _ _. tt)

pub point_fault_is_of_value : GeneralNameFaultIsWithin → PointFaultIsOfValue
unfolding certificate_points
point_fault_is_of_value law octets certificate rule at fits is e =
    let found = certificate.extensions.values.distribution_points in
    refused octets Any (certificate_points certificate.extensions.values) rule at (there_within law octets found fits (value_stands octets certificate fits is Kind.DistributionPoints)) e

pub name_fault_is_within : GeneralNameFaultIsWithin → PointNameFaultIsWithin
name_fault_is_within law text value rule at is e =
    let part : IsEncodedPart text value = record { stands = is.part; depth = is.encoded.0; value = is.encoded.1; encodes = is.encoded.2 } in
    refused text Any (point_name value) rule at (point_name_within law text value is.octets part) e

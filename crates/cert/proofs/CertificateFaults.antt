-- Certificates.
use Rattle.std.proofs.Common.{◌≡◌, ℕ, List, [], not, Option, Some, None, Result, Ok, Err, bytes_eq, append-nil, refl, sym, ap, subst, arith}
use Rattle.asn.specs.DerLaws.{AreOctets}
use Rattle.asn.specs.Rule.{Rule}
use Rattle.asn.specs.Identifier.{is_constructed}
use Rattle.asn.specs.Place.{Place, tag, body}
use Rattle.asn.specs.Members.{Members, members}
use Rattle.asn.specs.Outermost.{first_fault_in, outermost, placed}
use Rattle.asn.specs.Walk.{check_that, is_a, required, next_or, optional, any, ended, or_fault, time}
use Rattle.asn.proofs.Laws.{IsEncodedPart, first_fault_within, outermost_ok}
use Rattle.names.specs.NameLayout.{name}
use Rattle.names.specs.GeneralLayout.{general, base}
use Rattle.cert.specs.declared.fault.CertRule.{CertRule}
use Rattle.cert.specs.declared.fault.CertRule.TheVariants as R
use Rattle.cert.specs.declared.version.Version.{Version}
use Rattle.cert.specs.Fault.{as_der, as_name}
use Rattle.cert.specs.AlgorithmIdentifier.{AlgorithmIdentifier, algorithm_identifier}
use Rattle.cert.specs.Validity.{validity}
use Rattle.cert.specs.SubjectPublicKeyInfo.{key_info}
use Rattle.cert.specs.BitString.{has_no_unused_bits}
use Rattle.cert.specs.Version.{is_v1, is_v3, version, version_in, version_of}
use Rattle.cert.specs.Extensions.{Extensions, extensions}
use Rattle.cert.specs.TbsCertificate.{next_read, component, is_serial, serial_number, distinguished_name, is_empty_name, issuer, unique_id, unique_id_in, tbs_head, tbs_subject}
use Rattle.cert.specs.Certificate.{extensions_in, optional_extensions, tbs_certificate, same_algorithm, signature_value, certificate_at, certificate}
use Rattle.cert.specs.Offsets.{NameFaultIsWithin, GeneralNameFaultIsWithin, SubtreeFaultIsWithin, CertificateFaultIsWithin, ExtensionValuesStand}
use Rattle.cert.proofs.FaultPlaces.{begins_at, encoded_part, Left, members_left}
use Rattle.cert.proofs.FaultSteps.{Within, Any, and_then, refused, Next, NextIs, StandsWhereThere, check_within, is_a_within, required_within, next_within, optional_stands, any_left, ended_within, or_fault_within, time_within}
use Rattle.cert.proofs.NameFaults.{name_within, general_within, base_within}
use Rattle.cert.proofs.ExtensionFaults.{KnownStand, der_within, named_within, extensions_within}
use Rattle.cert.proofs.KeptValues.{none_stand}

-- what was read, and the values behind it
abbrev Behind : {A : Type 0} → List ℕ → A × Members → Type 0
Behind text read = Left text read.1

-- the components
algorithm_within : (text : List ℕ) (value : Place) → IsEncodedPart text value → Within text Any (algorithm_identifier R.Layout value)
unfolding algorithm_identifier
algorithm_within text value is =
    and_then text (λ _. tag value ≡ 0x30) Any (is_a 0x30 R.Layout value) _ (is_a_within text 0x30 R.Layout value is) (λ _ sequence.
    and_then text (NextIs text 0x06) Any (required 0x06 R.Layout (members value)) _ (required_within text 0x06 R.Layout (members value) (members_left text value (ap is_constructed sequence) is)) (λ algorithm first.
    and_then text Any Any (ended R.Layout (any algorithm.1).1) _ (ended_within text R.Layout (any algorithm.1).1 (any_left text algorithm.1 first.left)) (λ _ _. tt)))

validity_within : (text : List ℕ) (value : Place) → IsEncodedPart text value → Within text Any (validity value)
unfolding validity
validity_within text value is =
    and_then text (λ _. tag value ≡ 0x30) Any (is_a 0x30 R.Layout value) _ (is_a_within text 0x30 R.Layout value is) (λ _ sequence.
    and_then text (Behind text) Any (time R.Layout R.Time (members value)) _ (time_within text R.Layout R.Time (members value) (members_left text value (ap is_constructed sequence) is)) (λ not_before rest.
    and_then text (Behind text) Any (time R.Layout R.Time not_before.1) _ (time_within text R.Layout R.Time not_before.1 rest) (λ not_after last.
    and_then text Any Any (ended R.Layout not_after.1) _ (ended_within text R.Layout not_after.1 last) (λ _ _. tt))))

key_within : (text : List ℕ) (value : Place) → IsEncodedPart text value → Within text Any (key_info value)
unfolding key_info
key_within text value is =
    and_then text (λ _. tag value ≡ 0x30) Any (is_a 0x30 R.Layout value) _ (is_a_within text 0x30 R.Layout value is) (λ _ sequence.
    and_then text (Next text) Any (next_or R.Layout (members value)) _ (next_within text R.Layout (members value) (members_left text value (ap is_constructed sequence) is)) (λ algorithm first.
    and_then text Any Any (algorithm_identifier R.Layout algorithm.0) _ (algorithm_within text algorithm.0 first.value) (λ _ _.
    and_then text (NextIs text 0x03) Any (required 0x03 R.Layout algorithm.1) _ (required_within text 0x03 R.Layout algorithm.1 first.left) (λ key second.
    and_then text Any Any (ended R.Layout key.1) _ (ended_within text R.Layout key.1 second.left) (λ _ _. tt)))))

version_within : (text : List ℕ) (left : Members) → Left text left → Within text (Behind text) (version left)
unfolding version
version_within text left is = let o = optional_stands text 0xA0 left is in by (optional 0xA0 left).0 (optional 0xA0 left).1 o.0 o.1
  where
    by : (explicit : Option Place) (others : Members) → StandsWhereThere text 0xA0 explicit → Left text others → Within text (Behind text) (version_in explicit others)
    by None others here rest = rest
    by (Some explicit) others here rest =
        and_then text (NextIs text 0x02) (Behind text) (required 0x02 R.Layout (members explicit)) _ (required_within text 0x02 R.Layout (members explicit) (members_left text explicit (ap is_constructed here.1) here.0)) (λ number first.
        and_then text Any (Behind text) (or_fault (version_of (body number.0)) R.Version number.0.at) _ (or_fault_within text (version_of (body number.0)) R.Version number.0.at (begins_at text number.0 first.value)) (λ _ _.
        and_then text Any (Behind text) (ended R.Layout number.1) _ (ended_within text R.Layout number.1 first.left) (λ _ _. rest)))

next_read_within : {A : Type 0} (text : List ℕ) (read : Place → Result A (CertRule × ℕ)) → ((value : Place) → IsEncodedPart text value → Within text Any (read value))
    → (left : Members) → Left text left → Within text (Behind text) (next_read read left)
unfolding next_read
next_read_within text read one left is =
    and_then text (Next text) (Behind text) (next_or R.Layout left) _ (next_within text R.Layout left is) (λ value first.
    and_then text Any (Behind text) (read value.0) _ (one value.0 first.value) (λ _ _. first.left))

component_within : {A : Type 0} (text : List ℕ) (identifier : ℕ) (read : Place → Result A (CertRule × ℕ)) → ((value : Place) → IsEncodedPart text value → Within text Any (read value))
    → (left : Members) → Left text left → Within text (Behind text) (component identifier read left)
unfolding component
component_within text identifier read one left is =
    and_then text (NextIs text identifier) (Behind text) (required identifier R.Layout left) _ (required_within text identifier R.Layout left is) (λ value first.
    and_then text Any (Behind text) (read value.0) _ (one value.0 first.value) (λ _ _. first.left))

serial_within : (text : List ℕ) (value : Place) → IsEncodedPart text value → Within text Any (serial_number value)
unfolding serial_number
serial_within text value is =
    and_then text Any Any (check_that (is_serial (body value)) R.Serial value.at) _ (check_within text (is_serial (body value)) R.Serial value.at (begins_at text value is)) (λ _ _. tt)

distinguished_within : (text : List ℕ) (value : Place) → IsEncodedPart text value → Within text Any (distinguished_name value)
unfolding distinguished_name
distinguished_within text value is = and_then text Any Any (as_name (name value)) _ (named_within text Any (name value) (name_within text value is)) (λ _ _. tt)

issuer_within : (text : List ℕ) (value : Place) → IsEncodedPart text value → Within text Any (issuer value)
unfolding issuer
issuer_within text value is =
    and_then text Any Any (distinguished_name value) _ (distinguished_within text value is) (λ read _.
    and_then text Any Any (check_that (not (is_empty_name read.rdns)) R.EmptyIssuer value.at) _ (check_within text (not (is_empty_name read.rdns)) R.EmptyIssuer value.at (begins_at text value is)) (λ _ _. tt))

unique_id_within : (text : List ℕ) (identifier : ℕ) (read : Version) (left : Members) → Left text left → Within text (Left text) (unique_id identifier read left)
unfolding unique_id
unique_id_within text identifier read left is = let o = optional_stands text identifier left is in by (optional identifier left).0 (optional identifier left).1 o.0 o.1
  where
    by : (id : Option Place) (others : Members) → StandsWhereThere text identifier id → Left text others → Within text (Left text) (unique_id_in read id others)
    by None others here rest = rest
    by (Some id) others here rest =
        and_then text Any (Left text) (check_that (not (is_v1 read)) R.Version id.at) _ (check_within text (not (is_v1 read)) R.Version id.at (begins_at text id here.0)) (λ _ _. rest)

-- the signed part
head_within : (text : List ℕ) (left : Members) → Left text left → Within text (Behind text) (tbs_head left)
unfolding tbs_head
head_within text left is =
    and_then text (Behind text) (Behind text) (version left) _ (version_within text left is) (λ version a.
    and_then text (Behind text) (Behind text) (component 0x02 serial_number version.1) _ (component_within text 0x02 serial_number (serial_within text) version.1 a) (λ serial b.
    and_then text (Behind text) (Behind text) (next_read (algorithm_identifier R.Layout) serial.1) _ (next_read_within text (algorithm_identifier R.Layout) (algorithm_within text) serial.1 b) (λ signature c.
    and_then text (Behind text) (Behind text) (component 0x30 issuer signature.1) _ (component_within text 0x30 issuer (issuer_within text) signature.1 c) (λ issuer d.
    and_then text (Behind text) (Behind text) (next_read validity issuer.1) _ (next_read_within text validity (validity_within text) issuer.1 d) (λ validity e. e)))))

subject_within : (text : List ℕ) (read : Version) (left : Members) → Left text left → Within text (Behind text) (tbs_subject read left)
unfolding tbs_subject
subject_within text read left is =
    and_then text (Behind text) (Behind text) (component 0x30 distinguished_name left) _ (component_within text 0x30 distinguished_name (distinguished_within text) left is) (λ name a.
    and_then text (Behind text) (Behind text) (next_read key_info name.1) _ (next_read_within text key_info (key_within text) name.1 a) (λ key b.
    and_then text (Left text) (Behind text) (unique_id 0x81 read key.1) _ (unique_id_within text 0x81 read key.1 b) (λ issuer_id c.
    and_then text (Left text) (Behind text) (unique_id 0x82 read issuer_id) _ (unique_id_within text 0x82 read issuer_id c) (λ subject_id d. d))))

-- what the extensions say, and the values behind them
record KnownBehind (text : List ℕ) (read : Extensions × Members) : Type 0 where
  known : KnownStand text read.0
  left : Left text read.1

optional_within : (text : List ℕ) (read : Version) (left : Members) → AreOctets text → Left text left → Within text (KnownBehind text) (optional_extensions read left)
unfolding optional_extensions
optional_within text read left octets is = let o = optional_stands text 0xA3 left is in by (optional 0xA3 left).0 (optional 0xA3 left).1 o.0 o.1
  where
    by : (explicit : Option Place) (others : Members) → StandsWhereThere text 0xA3 explicit → Left text others → Within text (KnownBehind text) (extensions_in read explicit others)
    by None others here rest = record { known = none_stand text; left = rest }
    by (Some explicit) others here rest =
        and_then text Any (KnownBehind text) (check_that (is_v3 read) R.Version explicit.at) _ (check_within text (is_v3 read) R.Version explicit.at (begins_at text explicit here.0)) (λ _ _.
        and_then text (Next text) (KnownBehind text) (next_or R.Layout (members explicit)) _ (next_within text R.Layout (members explicit) (members_left text explicit (ap is_constructed here.1) here.0)) (λ list first.
        and_then text (KnownStand text) (KnownBehind text) (extensions list.0) _ (extensions_within text list.0 octets first.value) (λ _ known.
        and_then text Any (KnownBehind text) (ended R.Layout list.1) _ (ended_within text R.Layout list.1 first.left) (λ _ _. record { known = known; left = rest }))))

tbs_within : (text : List ℕ) (value : Place) → AreOctets text → IsEncodedPart text value → Within text (λ tbs. KnownStand text tbs.extensions) (tbs_certificate value)
unfolding tbs_certificate
tbs_within text value octets is =
    and_then text (λ _. tag value ≡ 0x30) (λ tbs. KnownStand text tbs.extensions) (is_a 0x30 R.Layout value) _ (is_a_within text 0x30 R.Layout value is) (λ _ sequence.
    and_then text (Behind text) (λ tbs. KnownStand text tbs.extensions) (tbs_head (members value)) _ (head_within text (members value) (members_left text value (ap is_constructed sequence) is)) (λ head a.
    and_then text (Behind text) (λ tbs. KnownStand text tbs.extensions) (tbs_subject head.0.version head.1) _ (subject_within text head.0.version head.1 a) (λ subject b.
    and_then text (KnownBehind text) (λ tbs. KnownStand text tbs.extensions) (optional_extensions head.0.version subject.1) _ (optional_within text head.0.version subject.1 octets b) (λ extensions c.
    and_then text Any (λ tbs. KnownStand text tbs.extensions) (ended R.Layout extensions.1) _ (ended_within text R.Layout extensions.1 c.left) (λ _ _. c.known)))))

-- the whole
same_within : (text : List ℕ) (inner : AlgorithmIdentifier) (value : Place) → IsEncodedPart text value → Within text Any (same_algorithm inner value)
unfolding same_algorithm
same_within text inner value is = check_within text (bytes_eq value.octets inner.value.octets) R.AlgorithmsDiffer value.at (begins_at text value is)

signature_within : (text : List ℕ) (value : Place) → IsEncodedPart text value → Within text Any (signature_value value)
unfolding signature_value
signature_within text value is =
    and_then text Any Any (check_that (has_no_unused_bits (body value)) R.SignatureBits value.at) _ (check_within text (has_no_unused_bits (body value)) R.SignatureBits value.at (begins_at text value is)) (λ _ _. tt)

at_within : (text : List ℕ) (value : Place) → AreOctets text → IsEncodedPart text value → Within text (λ read. KnownStand text read.extensions) (certificate_at value)
unfolding certificate_at
at_within text value octets is =
    and_then text (λ _. tag value ≡ 0x30) (λ read. KnownStand text read.extensions) (is_a 0x30 R.Layout value) _ (is_a_within text 0x30 R.Layout value is) (λ _ sequence.
    and_then text (Next text) (λ read. KnownStand text read.extensions) (next_or R.Layout (members value)) _ (next_within text R.Layout (members value) (members_left text value (ap is_constructed sequence) is)) (λ signed first.
    and_then text (λ tbs. KnownStand text tbs.extensions) (λ read. KnownStand text read.extensions) (tbs_certificate signed.0) _ (tbs_within text signed.0 octets first.value) (λ tbs known.
    and_then text (Behind text) (λ read. KnownStand text read.extensions) (component 0x30 (same_algorithm tbs.head.signature) signed.1) _ (component_within text 0x30 (same_algorithm tbs.head.signature) (same_within text tbs.head.signature) signed.1 first.left) (λ algorithm a.
    and_then text (Behind text) (λ read. KnownStand text read.extensions) (component 0x03 signature_value algorithm.1) _ (component_within text 0x03 signature_value (signature_within text) algorithm.1 a) (λ signature b.
    and_then text Any (λ read. KnownStand text read.extensions) (ended R.Layout signature.1) _ (ended_within text R.Layout signature.1 b) (λ _ _. known))))))

outermost_within : (text : List ℕ) → AreOctets text → Within text (IsEncodedPart text) (as_der (outermost text))
unfolding outermost
outermost_within text octets = der_within text (IsEncodedPart text) (outermost text) (by (first_fault_in text) refl)
  where
    whole : Place
    whole = record { octets = text; at = 0 }

    by : (r : Result (Unit {0}) (Rule × ℕ)) → first_fault_in text ≡ r → Within text (IsEncodedPart text) (outermost text)
    by (Ok u) e =
        let read : outermost text ≡ Ok whole = ap (λ r. placed r whole) e in
        let is = (outermost_ok text whole octets read).1 in
        subst (Within text (IsEncodedPart text)) (sym read) (record { stands = record { before = []; behind = []; joined = sym (append-nil text); place = refl }; depth = 1; value = is.0; encodes = is.1 })
    by (Err fault) e = subst (Within text (IsEncodedPart text)) (sym (ap (λ r. placed r whole) e)) (omega (arith, first_fault_within text fault.0 fault.1 e))

whole_within : (text : List ℕ) → AreOctets text → Within text (λ read. KnownStand text read.extensions) (certificate text)
unfolding certificate
whole_within text octets =
    and_then text (IsEncodedPart text) (λ read. KnownStand text read.extensions) (as_der (outermost text)) _ (outermost_within text octets) (λ value is. at_within text value octets is)

pub certificate_fault_is_within : CertificateFaultIsWithin
certificate_fault_is_within text rule at octets e = refused text (λ read. KnownStand text read.extensions) (certificate text) rule at (whole_within text octets) e

pub extension_values_stand : ExtensionValuesStand
extension_values_stand text read kind value octets e is =
    let known = subst (Within text (λ read. KnownStand text read.extensions)) e (whole_within text octets) in
    let there = known kind value is in
    record { octets = octets; part = there.stands; encoded = (there.depth, there.value, there.encodes) }

pub name_fault_is_within : NameFaultIsWithin
name_fault_is_within text value fault at is e = refused text Any (name value) fault at (name_within text value (encoded_part text value is)) e

pub general_fault_is_within : GeneralNameFaultIsWithin
general_fault_is_within text value fault at is e = refused text Any (general value) fault at (general_within text value (encoded_part text value is)) e

pub subtree_fault_is_within : SubtreeFaultIsWithin
subtree_fault_is_within text value fault at is e = refused text Any (base value) fault at (base_within text value (encoded_part text value is)) e

-- Extensions and what their values say.
use Rattle.std.proofs.Common.{◌≡◌, ℕ, ◌-◌, ◌≤◌, ◌||◌, List, [], length, Bool, true, false, not, Option, Some, None, Result, Ok, Err, if◌then◌else◌, is_some, nat_lt, refl, sym, ap, ◌∙◌, subst, arith}
use Rattle.std.specs.FinSet.{contains}
use Rattle.asn.specs.DerLaws.{AreOctets}
use Rattle.asn.specs.Rule.{Rule}
use Rattle.asn.specs.Encoding.{EncodesAt}
use Rattle.asn.specs.Part.{IsPartOf}
use Rattle.asn.specs.Place.{Place, tag, body, body_place}
use Rattle.asn.specs.Members.{Members, members, begins, next_at}
use Rattle.asn.specs.Outermost.{first_fault_in, placed, nested}
use Rattle.asn.specs.Walk.{check_that, is_a, required, optional, next_or, ended, some, default_false, each}
use Rattle.asn.proofs.Laws.{IsEncodedPart, contents_stand, first_fault_within, nested_ok}
use Rattle.names.specs.NameRule.{NameRule}
use Rattle.names.specs.GeneralLayout.{GeneralName, SubtreeBase, form_of_identifier, general, base}
use Rattle.names.specs.NameRule.TheVariants.{NameLayout}
use Rattle.asn.specs.Identifier.{is_constructed}
use Rattle.cert.specs.declared.fault.CertRule.TheVariants as R
use Rattle.cert.specs.declared.extension_kind.ExtensionKind.{ExtensionKind}
use Rattle.cert.specs.declared.extension_kind.ExtensionKind.TheVariants as Kind
use Rattle.cert.specs.Fault.{as_der, as_name}
use Rattle.cert.specs.Limit.{has_room}
use Rattle.cert.specs.Extension.{Extension, extension}
use Rattle.cert.proofs.KeptValues.{AllStand, all_kept, none_stand}
use Rattle.cert.specs.Extensions.{Extensions, Taken, nothing_taken, kind_of_extension, saying_of, told_by, one_extension, extensions}
use Rattle.cert.specs.KeyUsage.{key_usage}
use Rattle.cert.specs.BasicConstraints.{basic_constraints, is_negative, path_length, path_length_in, saturated}
use Rattle.cert.specs.AlternativeNames.{has_name_form, one_more_name, alternative_names}
use Rattle.cert.specs.NameConstraints.{no_bounds, subtree, one_more_subtree, some_subtrees, subtrees, subtrees_in, name_constraints}
use Rattle.cert.specs.Purposes.{one_more_purpose, purposes}
use Rattle.cert.proofs.FaultPlaces.{part_ends, part_octets, begins_at, next_begins, Left, members_left}
use Rattle.cert.proofs.FaultSteps.{Within, Any, and_then, Next, NextIs, StandsWhereThere, check_within, is_a_within, required_within, optional_stands, next_within, ended_within, some_within, default_false_within, each_keeps, each_within}
use Rattle.cert.proofs.NameFaults.{general_within, base_within}

-- faults of the layers below keep their places
pub der_within : {A : Type 0} (text : List ℕ) (P : A → Type 0) (r : Result A (Rule × ℕ)) → Within text P r → Within text P (as_der r)
der_within text P (Ok x) is = is
der_within text P (Err fault) is = is

pub named_within : {A : Type 0} (text : List ℕ) (P : A → Type 0) (r : Result A (NameRule × ℕ)) → Within text P r → Within text P (as_name r)
named_within text P (Ok x) is = is
named_within text P (Err fault) is = is

room_within : (text : List ℕ) (most count at : ℕ) → at ≤ length text → Within text Any (has_room most count at)
unfolding has_room
room_within text most count at low = check_within text (nat_lt count most) R.Limit at low

-- the value that the contents of an OCTET STRING are
pub nested_within : (text : List ℕ) (value : Place) → AreOctets text → IsEncodedPart text value → Within text (IsEncodedPart text) (as_der (nested value))
unfolding nested body_place Rattle.asn.specs.Part.contents
nested_within text value octets is = der_within text (IsEncodedPart text) (nested value) (by (first_fault_in (body_place value).octets) refl)
  where
    stands : IsPartOf text (body_place value).at (body_place value).octets
    stands = contents_stand text value is

    by : (r : Result (Unit {0}) (Rule × ℕ)) → first_fault_in (body_place value).octets ≡ r → Within text (IsEncodedPart text) (nested value)
    by (Ok u) e =
        let read : nested value ≡ Ok (body_place value) = ap (λ r. placed r (body_place value)) e in
        let whole = (nested_ok value (body_place value) (part_octets text (body_place value).at (body_place value).octets octets stands) read).1 in
        subst (Within text (IsEncodedPart text)) (sym read) (record { stands = stands; depth = 1; value = whole.0; encodes = whole.1 })
    by (Err fault) e =
        let low = first_fault_within (body_place value).octets fault.0 fault.1 e in
        subst (Within text (IsEncodedPart text)) (sym (ap (λ r. placed r (body_place value)) e)) (omega (arith, low, part_ends text (body_place value).at (body_place value).octets stands))

-- what each kind of value says
usage_within : (text : List ℕ) (value : Place) → AreOctets text → IsEncodedPart text value → Within text Any (key_usage value)
unfolding key_usage
usage_within text value octets is =
    and_then text (IsEncodedPart text) Any (as_der (nested value)) _ (nested_within text value octets is) (λ inner whole.
    and_then text (λ _. tag inner ≡ 0x03) Any (is_a 0x03 R.ExtensionValue inner) _ (is_a_within text 0x03 R.ExtensionValue inner whole) (λ _ _. tt))

path_length_within : (text : List ℕ) (left : Members) → Left text left → Within text (λ read. Left text read.1) (path_length left)
unfolding path_length
path_length_within text left is = let o = optional_stands text 0x02 left is in by (optional 0x02 left).0 (optional 0x02 left).1 o.0 o.1
  where
    one : (number : Place) (others : Members) (negative : Bool) → IsEncodedPart text number → Left text others
        → Within text (λ (read : Option ℕ × Members). Left text read.1) (if negative then Err (R.ExtensionValue, number.at) else Ok (Some (saturated (body number)), others))
    one number others true here rest = begins_at text number here
    one number others false here rest = rest

    by : (number : Option Place) (others : Members) → StandsWhereThere text 0x02 number → Left text others → Within text (λ (read : Option ℕ × Members). Left text read.1) (path_length_in number others)
    by None others here rest = rest
    by (Some number) others here rest = one number others (is_negative (body number)) here.0 rest

basic_within : (text : List ℕ) (value : Place) → AreOctets text → IsEncodedPart text value → Within text Any (basic_constraints value)
unfolding basic_constraints
basic_within text value octets is =
    and_then text (IsEncodedPart text) Any (as_der (nested value)) _ (nested_within text value octets is) (λ inner whole.
    and_then text (λ _. tag inner ≡ 0x30) Any (is_a 0x30 R.ExtensionValue inner) _ (is_a_within text 0x30 R.ExtensionValue inner whole) (λ _ sequence.
    and_then text (λ read. Left text read.1) Any (default_false R.ExtensionValue (members inner)) _ (default_false_within text R.ExtensionValue (members inner) (members_left text inner (ap is_constructed sequence) whole)) (λ ca rest.
    and_then text (λ read. Left text read.1) Any (path_length ca.1) _ (path_length_within text ca.1 rest) (λ number last.
    and_then text Any Any (ended R.ExtensionValue number.1) _ (ended_within text R.ExtensionValue number.1 last) (λ _ _. tt)))))

one_name_within : (text : List ℕ) (earlier : List GeneralName) (value : Place) → IsEncodedPart text value → Within text Any (one_more_name earlier value)
unfolding one_more_name has_name_form
one_name_within text earlier value is =
    and_then text Any Any (check_that (is_some (form_of_identifier (tag value))) (R.Name NameLayout) value.at) _ (check_within text (is_some (form_of_identifier (tag value))) (R.Name NameLayout) value.at (begins_at text value is)) (λ _ _.
    and_then text Any Any (has_room 4096 (length earlier) value.at) _ (room_within text 4096 (length earlier) value.at (begins_at text value is)) (λ _ _.
    and_then text Any Any (as_name (general value)) _ (named_within text Any (general value) (general_within text value is)) (λ _ _. tt)))

alternative_within : (text : List ℕ) (value : Place) → AreOctets text → IsEncodedPart text value → Within text Any (alternative_names value)
unfolding alternative_names
alternative_within text value octets is =
    and_then text (IsEncodedPart text) Any (as_der (nested value)) _ (nested_within text value octets is) (λ inner whole.
    and_then text (λ _. tag inner ≡ 0x30) Any (is_a 0x30 R.ExtensionValue inner) _ (is_a_within text 0x30 R.ExtensionValue inner whole) (λ _ sequence.
    let left = members_left text inner (ap is_constructed sequence) whole in
    and_then text Any Any (some R.ExtensionValue (members inner)) _ (some_within text R.ExtensionValue (members inner) left) (λ _ _.
    each_within text one_more_name (one_name_within text) [] ((members inner).values) left.parts)))

bounds_within : (text : List ℕ) (left : Members) → Left text left → Within text Any (no_bounds left)
unfolding no_bounds
bounds_within text left is =
    and_then text Any Any (check_that (not (begins 0x80 left || begins 0x81 left)) R.SubtreeBounds (next_at left)) _ (check_within text (not (begins 0x80 left || begins 0x81 left)) R.SubtreeBounds (next_at left) (next_begins text left is))
    (λ _ _. ended_within text R.ExtensionValue left is)

subtree_within : (text : List ℕ) (left : Members) → Left text left → Within text Any (subtree left)
unfolding subtree
subtree_within text left is =
    and_then text (Next text) Any (next_or R.ExtensionValue left) _ (next_within text R.ExtensionValue left is) (λ first next.
    and_then text Any Any (as_name (base first.0)) _ (named_within text Any (base first.0) (base_within text first.0 next.value)) (λ _ _.
    and_then text Any Any (no_bounds first.1) _ (bounds_within text first.1 next.left) (λ _ _. tt)))

one_subtree_within : (text : List ℕ) (most : ℕ) (earlier : List SubtreeBase) (value : Place) → IsEncodedPart text value → Within text Any (one_more_subtree most earlier value)
unfolding one_more_subtree
one_subtree_within text most earlier value is =
    and_then text (λ _. tag value ≡ 0x30) Any (is_a 0x30 R.ExtensionValue value) _ (is_a_within text 0x30 R.ExtensionValue value is) (λ _ sequence.
    and_then text Any Any (has_room most (length earlier) value.at) _ (room_within text most (length earlier) value.at (begins_at text value is)) (λ _ _.
    and_then text Any Any (subtree (members value)) _ (subtree_within text (members value) (members_left text value (ap is_constructed sequence) is)) (λ _ _. tt)))

some_subtrees_within : (text : List ℕ) (most : ℕ) (left : Members) → Left text left → Within text Any (some_subtrees most left)
unfolding some_subtrees
some_subtrees_within text most left is =
    and_then text Any Any (some R.ExtensionValue left) _ (some_within text R.ExtensionValue left is) (λ _ _.
    each_within text (one_more_subtree most) (one_subtree_within text most) [] left.values is.parts)

subtrees_within : (text : List ℕ) (most identifier : ℕ) → is_constructed identifier ≡ true → (left : Members) → Left text left → Within text (λ read. Left text read.1) (subtrees most identifier left)
unfolding subtrees
subtrees_within text most identifier form left is = let o = optional_stands text identifier left is in by (optional identifier left).0 (optional identifier left).1 o.0 o.1
  where
    by : (list : Option Place) (others : Members) → StandsWhereThere text identifier list → Left text others → Within text (λ (read : List SubtreeBase × Members). Left text read.1) (subtrees_in most list others)
    by None others here rest = rest
    by (Some list) others here rest =
        and_then text Any (λ (read : List SubtreeBase × Members). Left text read.1) (some_subtrees most (members list)) _
        (some_subtrees_within text most (members list) (members_left text list (ap is_constructed here.1 ∙ form) here.0)) (λ _ _. rest)

constraints_within : (text : List ℕ) (value : Place) → AreOctets text → IsEncodedPart text value → Within text Any (name_constraints value)
unfolding name_constraints
constraints_within text value octets is =
    and_then text (IsEncodedPart text) Any (as_der (nested value)) _ (nested_within text value octets is) (λ inner whole.
    and_then text (λ _. tag inner ≡ 0x30) Any (is_a 0x30 R.ExtensionValue inner) _ (is_a_within text 0x30 R.ExtensionValue inner whole) (λ _ sequence.
    and_then text (λ read. Left text read.1) Any (subtrees 4096 0xA0 (members inner)) _ (subtrees_within text 4096 0xA0 refl (members inner) (members_left text inner (ap is_constructed sequence) whole)) (λ permitted rest.
    and_then text (λ read. Left text read.1) Any (subtrees (4096 - length permitted.0) 0xA1 permitted.1) _ (subtrees_within text (4096 - length permitted.0) 0xA1 refl permitted.1 rest) (λ excluded last.
    and_then text Any Any (ended R.ExtensionValue excluded.1) _ (ended_within text R.ExtensionValue excluded.1 last) (λ _ _. tt)))))

one_purpose_within : (text : List ℕ) (earlier : List (List ℕ)) (value : Place) → IsEncodedPart text value → Within text Any (one_more_purpose earlier value)
unfolding one_more_purpose
one_purpose_within text earlier value is =
    and_then text (λ _. tag value ≡ 0x06) Any (is_a 0x06 R.ExtensionValue value) _ (is_a_within text 0x06 R.ExtensionValue value is) (λ _ _. tt)

purposes_within : (text : List ℕ) (value : Place) → AreOctets text → IsEncodedPart text value → Within text Any (purposes value)
unfolding purposes
purposes_within text value octets is =
    and_then text (IsEncodedPart text) Any (as_der (nested value)) _ (nested_within text value octets is) (λ inner whole.
    and_then text (λ _. tag inner ≡ 0x30) Any (is_a 0x30 R.ExtensionValue inner) _ (is_a_within text 0x30 R.ExtensionValue inner whole) (λ _ sequence.
    let left = members_left text inner (ap is_constructed sequence) whole in
    and_then text Any Any (some R.ExtensionValue (members inner)) _ (some_within text R.ExtensionValue (members inner) left) (λ _ _.
    each_within text one_more_purpose (one_purpose_within text) [] ((members inner).values) left.parts)))

saying_within : (text : List ℕ) (kind : ExtensionKind) (value : Place) → AreOctets text → IsEncodedPart text value → Within text Any (saying_of kind value)
saying_within text Kind.KeyUsage value octets is = and_then text Any Any (key_usage value) _ (usage_within text value octets is) (λ _ _. tt)
saying_within text Kind.AlternativeNames value octets is = and_then text Any Any (alternative_names value) _ (alternative_within text value octets is) (λ _ _. tt)
saying_within text Kind.BasicConstraints value octets is = and_then text Any Any (basic_constraints value) _ (basic_within text value octets is) (λ _ _. tt)
saying_within text Kind.NameConstraints value octets is = and_then text Any Any (name_constraints value) _ (constraints_within text value octets is) (λ _ _. tt)
saying_within text Kind.Purposes value octets is = and_then text Any Any (purposes value) _ (purposes_within text value octets is) (λ _ _. tt)
saying_within text Kind.DistributionPoints value octets is = tt
saying_within text Kind.Policies value octets is = tt
saying_within text Kind.PolicyMappings value octets is = tt
saying_within text Kind.PolicyConstraints value octets is = tt
saying_within text Kind.InhibitAnyPolicy value octets is = tt
saying_within text Kind.NoCheck value octets is = tt
saying_within text Kind.Other value octets is = tt

-- extensions
pub record ValueStands (text : List ℕ) (read : Extension) : Type 0 where
  pub value : IsEncodedPart text read.value

pub extension_within : (text : List ℕ) (value : Place) → IsEncodedPart text value → Within text (ValueStands text) (extension R.Layout value)
unfolding extension
extension_within text value is =
    and_then text (λ _. tag value ≡ 0x30) (ValueStands text) (is_a 0x30 R.Layout value) _ (is_a_within text 0x30 R.Layout value is) (λ _ sequence.
    and_then text (NextIs text 0x06) (ValueStands text) (required 0x06 R.Layout (members value)) _ (required_within text 0x06 R.Layout (members value) (members_left text value (ap is_constructed sequence) is)) (λ oid first.
    and_then text (λ read. Left text read.1) (ValueStands text) (default_false R.Layout oid.1) _ (default_false_within text R.Layout oid.1 first.left) (λ critical rest.
    and_then text (NextIs text 0x04) (ValueStands text) (required 0x04 R.Layout critical.1) _ (required_within text 0x04 R.Layout critical.1 rest) (λ content last.
    and_then text Any (ValueStands text) (ended R.Layout content.1) _ (ended_within text R.Layout content.1 last.left) (λ _ _. record { value = last.value })))))

-- what is known, with values that stand in the text
abbrev pub KnownStand : List ℕ → Extensions → Type 0
KnownStand text fields = AllStand text fields.values

abbrev TakenStand : List ℕ → Taken → Type 0
TakenStand text taken = KnownStand text taken.told

one_within : (text : List ℕ) → AreOctets text → (earlier : Taken) (value : Place) → TakenStand text earlier → IsEncodedPart text value → Within text (TakenStand text) (one_extension earlier value)
unfolding one_extension told_by
one_within text octets earlier value stood is =
    and_then text (ValueStands text) (TakenStand text) (extension R.Layout value) _ (extension_within text value is) (λ read stands.
    and_then text Any (TakenStand text) (check_that (not (contains earlier.types read.oid)) R.ExtensionRepeated value.at) _ (check_within text (not (contains earlier.types read.oid)) R.ExtensionRepeated value.at (begins_at text value is)) (λ _ _.
    and_then text (KnownStand text) (TakenStand text) (told_by (kind_of_extension read.oid) read.value earlier.told) _
    (and_then text Any (KnownStand text) (saying_of (kind_of_extension read.oid) read.value) _ (saying_within text (kind_of_extension read.oid) read.value octets stands.value)
    (λ _ _. all_kept text (kind_of_extension read.oid) read.value stands.value earlier.told.values stood)) (λ _ known. known)))

pub extensions_within : (text : List ℕ) (value : Place) → AreOctets text → IsEncodedPart text value → Within text (KnownStand text) (extensions value)
unfolding extensions
extensions_within text value octets is =
    and_then text (λ _. tag value ≡ 0x30) (KnownStand text) (is_a 0x30 R.Layout value) _ (is_a_within text 0x30 R.Layout value is) (λ _ sequence.
    let left = members_left text value (ap is_constructed sequence) is in
    and_then text Any (KnownStand text) (some R.Layout (members value)) _ (some_within text R.Layout (members value) left) (λ _ _.
    and_then text (TakenStand text) (KnownStand text) (each one_extension nothing_taken ((members value).values)) _
    (each_keeps text (TakenStand text) one_extension (one_within text octets) nothing_taken ((members value).values) (none_stand text) left.parts) (λ _ known. known)))

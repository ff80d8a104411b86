-- Steps of a walk through the value of an extension: where each is refused, and what stands in the text where it is not.
use Rattle.std.proofs.Common.{◌≡◌, ℕ, zero, suc, ◌+◌, ◌==◌, ◌≤◌, List, [], ◌∷◌, ◌++◌, length, Bool, true, false, Option, Some, None, Result, Ok, Err, if◌then◌else◌, eqb-true, arith, refl, sym, ap, ◌∙◌, subst, inl, inr}
use Rattle.std.proofs.lemmas.List.{length-append}
use Rattle.asn.specs.DerLaws.{AreOctets}
use Rattle.asn.specs.Encoding.{EncodesAt}
use Rattle.asn.specs.Identifier.{is_constructed}
use Rattle.asn.specs.Members.{Members, members, next_at, next_in, none_left}
use Rattle.asn.specs.Outermost.{first_fault_in, placed, nested}
use Rattle.asn.specs.Part.{IsPartOf, contents}
use Rattle.asn.specs.Place.{Place, tag, body_place}
use Rattle.asn.specs.Rule.{Rule}
use Rattle.asn.specs.Value.{Value, primitive, constructed}
use Rattle.asn.specs.Walk.{◌>>=◌, check_that, is_a, required, required_in, next_or, next_or_in, optional, optional_in, ended, some, each}
use Rattle.asn.proofs.Laws.{IsEncodedPart, AllParts, contents_stand, members_stand, holds, first_fault_within, nested_ok}
use Rattle.cert.specs.Fault.{as_der}
use Rattle.cert.specs.declared.fault.CertRule.{CertRule}
use Rattle.cert.specs.declared.fault.CertRule.TheVariants.{ExtensionValue}
use Rattle.cert_points.specs.Offsets.{IsOfPoints}

-- a part ends within its text
part_ends : (text : List ℕ) (at : ℕ) (part : List ℕ) → IsPartOf text at part → at + length part ≤ length text
part_ends text at part is = omega (arith, is.place, ap length is.joined, length-append (is.before ++ part) is.behind, length-append is.before part)

pub begins_at : (text : List ℕ) (value : Place) → IsEncodedPart text value → value.at ≤ length text
begins_at text value is = omega (arith, part_ends text value.at value.octets is.stands)

-- octets of a part are octets
front_octets : (part behind : List ℕ) → AreOctets (part ++ behind) → AreOctets part
front_octets [] behind are k = omega arith
front_octets (octet ∷ part) behind are zero = are zero
front_octets (octet ∷ part) behind are (suc k) = front_octets part behind (λ j. are (suc j)) k

behind_octets : (before part : List ℕ) → AreOctets (before ++ part) → AreOctets part
behind_octets [] part are = are
behind_octets (octet ∷ before) part are = behind_octets before part (λ k. are (suc k))

part_octets : (text : List ℕ) (at : ℕ) (part : List ℕ) → AreOctets text → IsPartOf text at part → AreOctets part
part_octets text at part are is = behind_octets is.before part (front_octets (is.before ++ part) is.behind (subst AreOctets is.joined are))

-- values that are left, which stand in the text, and where they end
pub record Left (text : List ℕ) (left : Members) : Type 0 where
  pub parts : AllParts text left.values
  pub ends : left.end ≤ length text

next_begins : (text : List ℕ) (left : Members) → Left text left → next_at left ≤ length text
unfolding next_at
next_begins text left is = by left.values is.parts
  where
    by : (values : List Place) → AllParts text values → next_in left.end values ≤ length text
    by [] parts = is.ends
    by (value ∷ values) parts = begins_at text value parts.0

-- the members of a constructed value
pub members_left : (text : List ℕ) (value : Place) → is_constructed (tag value) ≡ true → IsEncodedPart text value → Left text (members value)
members_left text value form is = record { parts = members_stand text value form is; ends = by is.value is.encodes }
  where
    by : (v : Value) → EncodesAt is.depth value.octets v → (members value).end ≤ length text
    by (primitive identifier contents) encodes =
        let h = holds is.depth (primitive identifier contents) value encodes in
        let off : true ≡ false = sym form ∙ ap is_constructed h.0 ∙ h.1 in
        absurd cc
    by (constructed identifier values) encodes =
        let h = holds is.depth (constructed identifier values) value encodes in
        omega (arith, h.3, part_ends text value.at value.octets is.stands)

-- What was read has the property, or the fault is one of a value, in the text.
abbrev pub IsFaultIn : List ℕ → CertRule × ℕ → Type 0
IsFaultIn text fault = IsOfPoints fault.0 × (fault.1 ≤ length text)

abbrev pub Within : {A : Type 0} → List ℕ → (A → Type 0) → Result A (CertRule × ℕ) → Type 0
Within text P (Ok x) = P x
Within text P (Err fault) = IsFaultIn text fault

abbrev pub Any : {A : Type 0} → A → Type 0
Any x = Unit {0}

pub and_then : {A B : Type 0} (text : List ℕ) (P : A → Type 0) (Q : B → Type 0) (r : Result A (CertRule × ℕ)) (f : A → Result B (CertRule × ℕ)) → Within text P r → ((x : A) → P x → Within text Q (f x)) → Within text Q (r >>= f)
and_then text P Q (Ok x) f is next = next x is
and_then text P Q (Err fault) f is next = is

-- what a walk that is refused answers
pub refused : {A : Type 0} (text : List ℕ) (P : A → Type 0) (r : Result A (CertRule × ℕ)) (rule : CertRule) (at : ℕ) → Within text P r → r ≡ Err (rule, at) → IsOfPoints rule × (at ≤ length text)
refused text P r rule at is e = subst (λ x. Within text P x) e is

pub value_fault : (text : List ℕ) (at : ℕ) → at ≤ length text → IsFaultIn text (ExtensionValue, at)
value_fault text at low = (inl refl, low)

check_at : (text : List ℕ) (holds : Bool) (at : ℕ) → at ≤ length text → Within text Any (check_that holds ExtensionValue at)
unfolding check_that
check_at text true at low = tt
check_at text false at low = value_fault text at low

pub check_within : (text : List ℕ) (holds : Bool) (value : Place) → IsEncodedPart text value → Within text Any (check_that holds ExtensionValue value.at)
check_within text holds value is = check_at text holds value.at (begins_at text value is)

nothing : Unit {0}
nothing = tt

where_so : (text : List ℕ) (so : Bool) (at : ℕ) → at ≤ length text → Within text Any (if so then Ok nothing else Err (ExtensionValue, at))
where_so text true at low = tt
where_so text false at low = value_fault text at low

where_not : (text : List ℕ) (so : Bool) (at : ℕ) → at ≤ length text → Within text Any (if so then Err (ExtensionValue, at) else Ok nothing)
where_not text true at low = value_fault text at low
where_not text false at low = tt

pub is_a_within : (text : List ℕ) (identifier : ℕ) (value : Place) → IsEncodedPart text value → Within text (λ _. tag value ≡ identifier) (is_a identifier ExtensionValue value)
unfolding is_a
is_a_within text identifier value is = by (tag value == identifier) refl
  where
    by : (same : Bool) → (tag value == identifier) ≡ same → Within text (λ (_ : Unit {0}). tag value ≡ identifier) (if same then Ok tt else Err (ExtensionValue, value.at))
    by true e = eqb-true (tag value) identifier e
    by false e = value_fault text value.at (begins_at text value is)

-- the values behind one that was taken
abbrev pub Behind : {A : Type 0} → List ℕ → A × Members → Type 0
Behind text taken = Left text taken.1

pub required_within : (text : List ℕ) (identifier : ℕ) (left : Members) → Left text left → Within text (Behind text) (required identifier ExtensionValue left)
unfolding required
required_within text identifier left is = by left.values is.parts
  where
    one : (value : Place) (values : List Place) → IsEncodedPart text value → AllParts text values → (same : Bool)
        → Within text (Behind text) (if same then Ok (value, record { values = values; end = left.end }) else Err (ExtensionValue, value.at))
    one value values here others true = record { parts = others; ends = is.ends }
    one value values here others false = value_fault text value.at (begins_at text value here)

    by : (values : List Place) → AllParts text values → Within text (Behind text) (required_in identifier ExtensionValue left.end values)
    by [] parts = value_fault text left.end is.ends
    by (value ∷ values) parts = one value values parts.0 parts.1 (tag value == identifier)

-- the next value, and those behind it
pub record Next (text : List ℕ) (taken : Place × Members) : Type 0 where
  pub value : IsEncodedPart text taken.0
  pub left : Left text taken.1

pub next_within : (text : List ℕ) (left : Members) → Left text left → Within text (Next text) (next_or ExtensionValue left)
unfolding next_or
next_within text left is = by left.values is.parts
  where
    by : (values : List Place) → AllParts text values → Within text (Next text) (next_or_in ExtensionValue left.end values)
    by [] parts = value_fault text left.end is.ends
    by (value ∷ values) parts = record { value = parts.0; left = record { parts = parts.1; ends = is.ends } }

-- an optional value, where it is there
abbrev pub StandsWhereThere : List ℕ → Option Place → Type 0
StandsWhereThere text None = Unit {0}
StandsWhereThere text (Some value) = IsEncodedPart text value

abbrev StandsThere : List ℕ → Option Place × Members → Type 0
StandsThere text taken = StandsWhereThere text taken.0 × Left text taken.1

pub optional_stands : (text : List ℕ) (identifier : ℕ) (left : Members) → Left text left → StandsWhereThere text (optional identifier left).0 × Left text (optional identifier left).1
unfolding optional
optional_stands text identifier left is = by left.values is.parts
  where
    one : (value : Place) (values : List Place) → IsEncodedPart text value → AllParts text values → (same : Bool)
        → StandsThere text (if same then (Some value, record { values = values; end = left.end }) else (None, record { values = value ∷ values; end = left.end }))
    one value values here others true = (here, record { parts = others; ends = is.ends })
    one value values here others false = (tt, record { parts = (here, others); ends = is.ends })

    by : (values : List Place) → AllParts text values → StandsThere text (optional_in identifier left.end values)
    by [] parts = (tt, record { parts = tt; ends = is.ends })
    by (value ∷ values) parts = one value values parts.0 parts.1 (tag value == identifier)

pub ended_within : (text : List ℕ) (left : Members) → Left text left → Within text Any (ended ExtensionValue left)
unfolding ended
ended_within text left is = where_so text (none_left left) (next_at left) (next_begins text left is)

pub some_within : (text : List ℕ) (left : Members) → Left text left → Within text Any (some ExtensionValue left)
unfolding some
some_within text left is = where_not text (none_left left) (next_at left) (next_begins text left is)

-- a walk over values
pub each_within : {A : Type 0} (text : List ℕ) (step : A → Place → Result A (CertRule × ℕ)) → ((so_far : A) (value : Place) → IsEncodedPart text value → Within text Any (step so_far value))
    → (start : A) (values : List Place) → AllParts text values → Within text Any (each step start values)
each_within text step one start [] parts = tt
each_within text step one start (value ∷ values) parts =
    and_then text Any Any (step start value) _ (one start value parts.0) (λ next _. each_within text step one next values parts.1)

-- the value that the contents of an OCTET STRING are
pub nested_within : (text : List ℕ) (value : Place) → AreOctets text → IsEncodedPart text value → Within text (IsEncodedPart text) (as_der (nested value))
unfolding nested body_place contents
nested_within text value octets is = by (first_fault_in (body_place value).octets) refl
  where
    stands : IsPartOf text (body_place value).at (body_place value).octets
    stands = contents_stand text value is

    by : (r : Result (Unit {0}) (Rule × ℕ)) → first_fault_in (body_place value).octets ≡ r → Within text (IsEncodedPart text) (as_der (nested value))
    by (Ok u) e =
        let read : nested value ≡ Ok (body_place value) = ap (λ r. placed r (body_place value)) e in
        let whole = (nested_ok value (body_place value) (part_octets text (body_place value).at (body_place value).octets octets stands) read).1 in
        subst (λ r. Within text (IsEncodedPart text) (as_der r)) (sym read) (record { stands = stands; depth = 1; value = whole.0; encodes = whole.1 })
    by (Err fault) e =
        let low = first_fault_within (body_place value).octets fault.0 fault.1 e in
        let refusal : nested value ≡ Err (fault.0, (body_place value).at + fault.1) = ap (λ r. placed r (body_place value)) e in
        subst (λ r. Within text (IsEncodedPart text) (as_der r)) (sym refusal) (inr (inl (fault.0, refl)), omega (arith, low, part_ends text (body_place value).at (body_place value).octets stands))

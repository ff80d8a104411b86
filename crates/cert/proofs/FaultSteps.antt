-- Steps of a walk: where each is refused, and what stands in the text where it is not.
use Rattle.std.proofs.Common.{◌≡◌, ℕ, ◌==◌, ◌≤◌, List, [], ◌∷◌, length, Bool, true, false, Option, Some, None, Result, Ok, Err, if◌then◌else◌, eqb-true, refl, subst}
use Rattle.asn.specs.Place.{Place, tag, body}
use Rattle.asn.specs.Members.{Members, next_at, none_left}
use Rattle.asn.specs.Walk.{◌>>=◌, check_that, is_a, required, required_in, optional, optional_in, any, any_in, next_or, next_or_in, ended, some, choice, is_one_of, or_fault, seconds, time, default_false, default_false_in, is_true, each}
use Rattle.asn.specs.Time.{seconds_in}
use Rattle.asn.proofs.Laws.{IsEncodedPart, AllParts}
use Rattle.cert.proofs.FaultPlaces.{begins_at, Left, next_begins}

-- what was read has the property, or the fault lies in the text
abbrev pub Within : {A F : Type 0} → List ℕ → (A → Type 0) → Result A (F × ℕ) → Type 0
Within text P (Ok x) = P x
Within text P (Err fault) = fault.1 ≤ length text

abbrev pub Any : {A : Type 0} → A → Type 0
Any x = Unit {0}

pub and_then : {A B F : Type 0} (text : List ℕ) (P : A → Type 0) (Q : B → Type 0) (r : Result A (F × ℕ)) (f : A → Result B (F × ℕ)) → Within text P r → ((x : A) → P x → Within text Q (f x)) → Within text Q (r >>= f)
and_then text P Q (Ok x) f is next = next x is
and_then text P Q (Err fault) f is next = is

-- what a walk that is refused answers
pub refused : {A F : Type 0} (text : List ℕ) (P : A → Type 0) (r : Result A (F × ℕ)) (fault : F) (at : ℕ) → Within text P r → r ≡ Err (fault, at) → at ≤ length text
refused text P r fault at is e = subst (λ x. Within text P x) e is

-- a value that stands there, and those behind it
pub record Next (text : List ℕ) (taken : Place × Members) : Type 0 where
  pub value : IsEncodedPart text taken.0
  pub left : Left text taken.1

-- the same of a value with this identifier
pub record NextIs (text : List ℕ) (identifier : ℕ) (taken : Place × Members) : Type 0 where
  pub value : IsEncodedPart text taken.0
  pub left : Left text taken.1
  pub identifier_is : tag taken.0 ≡ identifier

pub check_within : {F : Type 0} (text : List ℕ) (holds : Bool) (fault : F) (at : ℕ) → at ≤ length text → Within text Any (check_that holds fault at)
unfolding check_that
check_within text true fault at low = tt
check_within text false fault at low = low

pub is_a_within : {F : Type 0} (text : List ℕ) (identifier : ℕ) (fault : F) (value : Place) → IsEncodedPart text value → Within text (λ _. tag value ≡ identifier) (is_a identifier fault value)
unfolding is_a
is_a_within {F = F} text identifier fault value is = by (tag value == identifier) refl
  where
    by : (same : Bool) → (tag value == identifier) ≡ same → Within {F = F} text (λ (_ : Unit {0}). tag value ≡ identifier) (if same then Ok tt else Err (fault, value.at))
    by true e = eqb-true (tag value) identifier e
    by false e = begins_at text value is

pub required_within : {F : Type 0} (text : List ℕ) (identifier : ℕ) (fault : F) (left : Members) → Left text left → Within text (NextIs text identifier) (required identifier fault left)
unfolding required
required_within {F = F} text identifier fault left is = by left.values is.parts
  where
    one : (value : Place) (values : List Place) → IsEncodedPart text value → AllParts text values → (same : Bool) → (tag value == identifier) ≡ same
        → Within {F = F} text (NextIs text identifier) (if same then Ok (value, record { values = values; end = left.end }) else Err (fault, value.at))
    one value values here others true e = record { value = here; left = record { parts = others; ends = is.ends }; identifier_is = eqb-true (tag value) identifier e }
    one value values here others false e = begins_at text value here

    by : (values : List Place) → AllParts text values → Within {F = F} text (NextIs text identifier) (required_in identifier fault left.end values)
    by [] parts = is.ends
    by (value ∷ values) parts = one value values parts.0 parts.1 (tag value == identifier) refl

pub next_within : {F : Type 0} (text : List ℕ) (fault : F) (left : Members) → Left text left → Within text (Next text) (next_or fault left)
unfolding next_or
next_within {F = F} text fault left is = by left.values is.parts
  where
    by : (values : List Place) → AllParts text values → Within {F = F} text (Next text) (next_or_in fault left.end values)
    by [] parts = is.ends
    by (value ∷ values) parts = record { value = parts.0; left = record { parts = parts.1; ends = is.ends } }

-- an optional value, where it is there
abbrev pub StandsWhereThere : List ℕ → ℕ → Option Place → Type 0
StandsWhereThere text identifier None = Unit {0}
StandsWhereThere text identifier (Some value) = IsEncodedPart text value × (tag value ≡ identifier)

-- and the values behind it
abbrev StandsThere : List ℕ → ℕ → Option Place × Members → Type 0
StandsThere text identifier taken = StandsWhereThere text identifier taken.0 × Left text taken.1

pub optional_stands : (text : List ℕ) (identifier : ℕ) (left : Members) → Left text left → StandsWhereThere text identifier (optional identifier left).0 × Left text (optional identifier left).1
unfolding optional
optional_stands text identifier left is = by left.values is.parts
  where
    one : (value : Place) (values : List Place) → IsEncodedPart text value → AllParts text values → (same : Bool) → (tag value == identifier) ≡ same
        → StandsThere text identifier (if same then (Some value, record { values = values; end = left.end }) else (None, record { values = value ∷ values; end = left.end }))
    one value values here others true e = ((here, eqb-true (tag value) identifier e), record { parts = others; ends = is.ends })
    one value values here others false e = (tt, record { parts = (here, others); ends = is.ends })

    by : (values : List Place) → AllParts text values → StandsThere text identifier (optional_in identifier left.end values)
    by [] parts = (tt, record { parts = tt; ends = is.ends })
    by (value ∷ values) parts = one value values parts.0 parts.1 (tag value == identifier) refl

pub any_left : (text : List ℕ) (left : Members) → Left text left → Left text (any left).1
unfolding any
any_left text left is = by left.values is.parts
  where
    by : (values : List Place) → AllParts text values → Left text (any_in left.end values).1
    by [] parts = record { parts = tt; ends = is.ends }
    by (value ∷ values) parts = record { parts = parts.1; ends = is.ends }

nothing : Unit {0}
nothing = tt

where_so : {F : Type 0} (text : List ℕ) (so : Bool) (fault : F) (at : ℕ) → at ≤ length text → Within text Any (if so then Ok nothing else Err (fault, at))
where_so text true fault at low = tt
where_so text false fault at low = low

where_not : {F : Type 0} (text : List ℕ) (so : Bool) (fault : F) (at : ℕ) → at ≤ length text → Within text Any (if so then Err (fault, at) else Ok nothing)
where_not text true fault at low = low
where_not text false fault at low = tt

pub ended_within : {F : Type 0} (text : List ℕ) (fault : F) (left : Members) → Left text left → Within text Any (ended fault left)
unfolding ended
ended_within text fault left is = where_so text (none_left left) fault (next_at left) (next_begins text left is)

pub some_within : {F : Type 0} (text : List ℕ) (fault : F) (left : Members) → Left text left → Within text Any (some fault left)
unfolding some
some_within text fault left is = where_not text (none_left left) fault (next_at left) (next_begins text left is)

pub choice_within : {F : Type 0} (text : List ℕ) (identifiers : List ℕ) (fault : F) (left : Members) → Left text left → Within text (Next text) (choice identifiers fault left)
unfolding choice
choice_within text identifiers fault left is =
    and_then text (Next text) (Next text) (next_or fault left) _ (next_within text fault left is) (λ value next.
    and_then text Any (Next text) (check_that (is_one_of identifiers (tag value.0)) fault value.0.at) _
    (check_within text (is_one_of identifiers (tag value.0)) fault value.0.at (begins_at text value.0 next.value)) (λ _ _. next))

pub or_fault_within : {A F : Type 0} (text : List ℕ) (found : Option A) (fault : F) (at : ℕ) → at ≤ length text → Within text Any (or_fault found fault at)
or_fault_within text None fault at low = low
or_fault_within text (Some x) fault at low = tt

pub time_within : {F : Type 0} (text : List ℕ) (layout fault : F) (left : Members) → Left text left → Within text (λ read. Left text read.1) (time layout fault left)
unfolding time seconds
time_within text layout fault left is =
    and_then text (Next text) (λ read. Left text read.1) (choice (0x17 ∷ 0x18 ∷ []) layout left) _ (choice_within text (0x17 ∷ 0x18 ∷ []) layout left is) (λ value next.
    and_then text Any (λ read. Left text read.1) (seconds fault value.0) _ (or_fault_within text (seconds_in (tag value.0) (body value.0)) fault value.0.at (begins_at text value.0 next.value))
    (λ _ _. next.left))

pub default_false_within : {F : Type 0} (text : List ℕ) (fault : F) (left : Members) → Left text left → Within text (λ read. Left text read.1) (default_false fault left)
unfolding default_false
default_false_within {F = F} text fault left is = let o = optional_stands text 0x01 left is in by (optional 0x01 left).0 (optional 0x01 left).1 o.0 o.1
  where
    one : (flag : Place) (others : Members) (set : Bool) → IsEncodedPart text flag → Left text others → Within {F = F} text (λ (read : Bool × Members). Left text read.1) (if set then Ok (true, others) else Err (fault, flag.at))
    one flag others true here rest = rest
    one flag others false here rest = begins_at text flag here

    by : (flag : Option Place) (others : Members) → StandsWhereThere text 0x01 flag → Left text others → Within {F = F} text (λ (read : Bool × Members). Left text read.1) (default_false_in fault flag others)
    by None others here rest = rest
    by (Some flag) others here rest = one flag others (is_true (body flag)) here.0 rest

-- a walk over values
-- values that are taken one after the other, where what was taken has the property
pub each_keeps : {A F : Type 0} (text : List ℕ) (P : A → Type 0) (step : A → Place → Result A (F × ℕ)) → ((so_far : A) (value : Place) → P so_far → IsEncodedPart text value → Within text P (step so_far value))
    → (start : A) (values : List Place) → P start → AllParts text values → Within text P (each step start values)
each_keeps text P step one start [] has parts = has
each_keeps text P step one start (value ∷ values) has parts =
    and_then text P P (step start value) _ (one start value has parts.0) (λ next is. each_keeps text P step one next values is parts.1)

pub each_within : {A F : Type 0} (text : List ℕ) (step : A → Place → Result A (F × ℕ)) → ((so_far : A) (value : Place) → IsEncodedPart text value → Within text Any (step so_far value))
    → (start : A) (values : List Place) → AllParts text values → Within text Any (each step start values)
each_within text step one start [] parts = tt
each_within text step one start (value ∷ values) parts =
    and_then text Any Any (step start value) _ (one start value parts.0) (λ next _. each_within text step one next values parts.1)

-- Reading values from left to right, with the first fault that is met and its place.
use Rattle.std.specs.Prelude.{◌≡◌, ◌==◌, ℕ, ℤ, Bool, true, false, List, [], ◌∷◌, Option, Some, None, Result, Ok, Err, if◌then◌else◌}
use Rattle.std.specs.List.{list_any}
use Rattle.asn.specs.Place.{Place, seen_tlv, tag, body}
use Rattle.asn.specs.Members.{Members, left, none_left, next_at}
use Rattle.asn.specs.declared.tlv.Tlv.{Tlv}
use Rattle.asn.specs.declared.tlv.Cursor.{Cursor}
use Rattle.asn.specs.Time.{seconds_in}

infixl 10 ◌>>=◌
abbrev pub ◌>>=◌ : {A B E : Type 0} → Result A E → (A → Result B E) → Result B E
(Ok x) >>= f = f x
(Err e) >>= f = Err e

-- what a function returned, seen by view, is what the walk gives
abbrev pub Gives : {X Y E : Type 0} → (X → Y) → Result X E → Result Y E → Type 0
Gives view (Ok x) walk = walk ≡ Ok (view x)
Gives view (Err e) walk = walk ≡ Err e

-- what a function returned, seen by view, and the members that its cursor has left then, are what the step gives of those
-- that it had left
abbrev pub StepGives : {X Y E : Type 0} → (X → Y) → Result X E → Cursor → Cursor → (Members → Result (Y × Members) E) → Type 0
StepGives view result old new step = Gives (λ x. (view x, left new)) result (step (left old))

-- what a function that reads a value returned, seen by view, is what the walk gives of it
abbrev pub ReadsAs : {X Y E : Type 0} → (X → Y) → Result X E → Tlv → (Place → Result Y E) → Type 0
ReadsAs view result value read = Gives view result (read (seen_tlv value))

abbrev pub seen : {X Y : Type 0} → (X → Y) → Option X → Option Y
seen view None = None
seen view (Some x) = Some (view x)

-- the check holds, or this is the fault at this place
unfoldable pub check_that : {F : Type 0} → Bool → F → ℕ → Result (Unit {0}) (F × ℕ)
check_that holds fault at = if holds then Ok tt else Err (fault, at)

-- the value has this identifier
unfoldable pub is_a : {F : Type 0} → ℕ → F → Place → Result (Unit {0}) (F × ℕ)
is_a identifier fault value = if tag value == identifier then Ok tt else Err (fault, value.at)

-- the next value, which has this identifier
abbrev pub required_in : {F : Type 0} → ℕ → F → ℕ → List Place → Result (Place × Members) (F × ℕ)
required_in identifier fault end [] = Err (fault, end)
required_in identifier fault end (value ∷ values) = if tag value == identifier then Ok (value, record { values = values; end = end }) else Err (fault, value.at)

unfoldable pub required : {F : Type 0} → ℕ → F → Members → Result (Place × Members) (F × ℕ)
required identifier fault left = required_in identifier fault left.end left.values

-- the next value where it has this identifier
abbrev pub optional_in : ℕ → ℕ → List Place → Option Place × Members
optional_in identifier end [] = (None, record { values = []; end = end })
optional_in identifier end (value ∷ values) = if tag value == identifier then (Some value, record { values = values; end = end }) else (None, record { values = value ∷ values; end = end })

unfoldable pub optional : ℕ → Members → Option Place × Members
optional identifier left = optional_in identifier left.end left.values

-- the next value, where there is one
abbrev pub any_in : ℕ → List Place → Option Place × Members
any_in end [] = (None, record { values = []; end = end })
any_in end (value ∷ values) = (Some value, record { values = values; end = end })

unfoldable pub any : Members → Option Place × Members
any left = any_in left.end left.values

-- the next value, of any kind, which has to be there
abbrev pub next_or_in : {F : Type 0} → F → ℕ → List Place → Result (Place × Members) (F × ℕ)
next_or_in fault end [] = Err (fault, end)
next_or_in fault end (value ∷ values) = Ok (value, record { values = values; end = end })

unfoldable pub next_or : {F : Type 0} → F → Members → Result (Place × Members) (F × ℕ)
next_or fault left = next_or_in fault left.end left.values

-- no value is left
unfoldable pub ended : {F : Type 0} → F → Members → Result (Unit {0}) (F × ℕ)
ended fault left = if none_left left then Ok tt else Err (fault, next_at left)

-- there is a value
unfoldable pub some : {F : Type 0} → F → Members → Result (Unit {0}) (F × ℕ)
some fault left = if none_left left then Err (fault, next_at left) else Ok tt

-- the next value, which has one of these identifiers
abbrev pub is_one_of : List ℕ → ℕ → Bool
is_one_of identifiers identifier = list_any (λ one. one == identifier) identifiers

unfoldable pub choice : {F : Type 0} → List ℕ → F → Members → Result (Place × Members) (F × ℕ)
choice identifiers fault left = do
  value ← next_or fault left
  done ← check_that (is_one_of identifiers (tag value.0)) fault value.0.at
  Ok value

-- what is there, or this is the fault at this place
abbrev pub or_fault : {A F : Type 0} → Option A → F → ℕ → Result A (F × ℕ)
or_fault None fault at = Err (fault, at)
or_fault (Some x) fault at = Ok x

-- the seconds of the time that the value is
unfoldable pub seconds : {F : Type 0} → F → Place → Result ℤ (F × ℕ)
seconds fault value = or_fault (seconds_in (tag value) (body value)) fault value.at

-- Time ::= CHOICE { utcTime UTCTime, generalTime GeneralizedTime } (RFC 5280, 4.1): the next value is one, and a time
unfoldable pub time : {F : Type 0} → F → F → Members → Result (ℤ × Members) (F × ℕ)
time layout fault left = do
  value ← choice (0x17 ∷ 0x18 ∷ []) layout left
  moment ← seconds fault value.0
  Ok (moment, value.1)

-- BOOLEAN DEFAULT FALSE: TRUE where it is there, since DER leaves the default out (X.690, 11.5)
abbrev pub is_true : List ℕ → Bool
is_true [] = false
is_true (octet ∷ []) = octet == 255
is_true (octet ∷ other ∷ octets) = false

abbrev pub default_false_in : {F : Type 0} → F → Option Place → Members → Result (Bool × Members) (F × ℕ)
default_false_in fault None left = Ok (false, left)
default_false_in fault (Some flag) left = if is_true (body flag) then Ok (true, left) else Err (fault, flag.at)

unfoldable pub default_false : {F : Type 0} → F → Members → Result (Bool × Members) (F × ℕ)
default_false fault left = default_false_in fault (optional 0x01 left).0 (optional 0x01 left).1

-- a walk over each of the values in order, which hands on what the earlier ones gave
abbrev pub each : {A E : Type 0} → (A → Place → Result A E) → A → List Place → Result A E
each step so_far [] = Ok so_far
each step so_far (value ∷ values) = step so_far value >>= λ next. each step next values

-- steps from one to the other, one for each of the values in order
abbrev pub Leads : {A : Type 0} → (A → Place → A → Type 0) → A → List Place → A → Type 0
Leads Step from [] to = from ≡ to
Leads {A = A} Step from (value ∷ values) to = (next : A) × Step from value next × Leads Step next values to

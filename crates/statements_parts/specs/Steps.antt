-- What the clauses of readers say of a step that changes what the reader has.
use Rattle.std.specs.Prelude.{◌≡◌, ℕ, List, [], ◌∷◌, Option, Some, None, Result, Ok, Err}
use Rattle.asn.specs.Place.{Place, seen_tlv}
use Rattle.asn.specs.Members.{Members, left}
use Rattle.asn.specs.declared.tlv.Cursor.{Cursor}
use Rattle.asn.specs.declared.tlv.Tlv.{Tlv}
use Rattle.cert.specs.Extension.{seen_extension}
use Rattle.cert.specs.OidSet.{oids_in}
use Rattle.cert.specs.declared.extension.Extension as read
use Rattle.cert.specs.declared.oid_set.OidSet.{OidSet}
use Rattle.statements_parts.specs.Fault.{StatementGivesUnlessFull}
use Rattle.statements_parts.specs.Parts.{new_extension}
use Rattle.statements_parts.specs.declared.fault.ReadingFault.{ReadingFault}
use Rattle.statements_parts.specs.declared.fault.ReadingFault.TheVariants.{Refused, Memory}
use Rattle.statements_parts.specs.declared.fault.StatementRule.{StatementRule}

-- what a step over a cursor gives (`StepGives` of `asn`), unless memory was refused
abbrev pub StepGivesUnlessFull : {X Y : Type 0} → (X → Y) → Result X ReadingFault → Cursor → Cursor → (Members → Result (Y × Members) (StatementRule × ℕ)) → Type 0
StepGivesUnlessFull view result old new walk = StatementGivesUnlessFull (λ x. (view x, left new)) result (walk (left old))

-- A step over a cursor that hands out nothing: what the cursor has left then is what the walk gives, unless memory was refused.
abbrev pub PassesUnlessFull : Cursor → Cursor → Result (Unit {0}) ReadingFault → (Members → Result Members (StatementRule × ℕ)) → Type 0
PassesUnlessFull old new result walk = StatementGivesUnlessFull (λ _. left new) result (walk (left old))

-- The next value, taken into a state that is seen by view: the state is then what the walk gives from the state before and the value,
-- unless memory was refused.
abbrev pub TakesUnlessFull : {S Y : Type 0} → (S → Y) → S → S → Tlv → Result (Unit {0}) ReadingFault → (Y → Place → Result Y (StatementRule × ℕ)) → Type 0
TakesUnlessFull view old new value result walk = StatementGivesUnlessFull (λ _. view new) result (walk (view old) (seen_tlv value))

-- The first of what was left is handed out, seen by view, and the others are left; or nothing was left, and nothing is left.
abbrev pub HandsOutFirst : {X Y : Type 0} → (X → Y) → List Y → List Y → Option X → Type 0
HandsOutFirst view old new None = (old ≡ []) × (new ≡ [])
HandsOutFirst view old new (Some x) = old ≡ view x ∷ new

-- The value is read as an extension of a type that is not in the set, and its type is put there, unless memory was refused.
abbrev pub AddsExtension : OidSet → OidSet → Tlv → Result read.Extension ReadingFault → Type 0
AddsExtension old new value result = StatementGivesUnlessFull (λ x. (seen_extension x, oids_in new)) result (new_extension (oids_in old) (seen_tlv value))

-- this holds if a rule was broken
abbrev pub OnRefused : {X : Type 0} → Result X ReadingFault → Type 0 → Type 0
OnRefused (Ok x) fact = Unit {0}
OnRefused (Err (Refused rule at)) fact = fact
OnRefused (Err Memory) fact = Unit {0}

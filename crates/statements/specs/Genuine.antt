-- Statements that are believed or refused.
use Rattle.std.specs.Prelude.{◌≡◌, ℕ, Bool, true, false, Result, Ok, Err}
use Rattle.statements_parts.specs.declared.fault.StatementFault.{StatementFault}
use Rattle.statements_parts.specs.declared.fault.StatementFault.TheVariants.{Refused, OtherIssuer, BadSignature, NoSigner, NothingForIssuer, Memory}
use Rattle.statements_parts.specs.declared.fault.StatementRule.{StatementRule}
pub use Rattle.path_verifiers.specs.Accepts.{Accepts}

-- what was read, or the rule that is broken, with the place
abbrev pub as_refused : {A : Type 0} → Result A (StatementRule × ℕ) → Result A StatementFault
as_refused (Ok read) = Ok read
as_refused (Err fault) = Err (Refused fault.0 fault.1)

-- the first of two checks decides
infixl 1 ◌then◌
abbrev pub ◌then◌ : {A B : Type 0} → Result A StatementFault → (A → Result B StatementFault) → Result B StatementFault
Ok x then next = next x
Err fault then next = Err fault

-- this, or that fault
abbrev pub or_else : Bool → StatementFault → Result (Unit {0}) StatementFault
or_else true fault = Ok tt
or_else false fault = Err fault

-- What a function that takes memory returned, seen by view, is this, unless memory was refused.
abbrev pub RefusesUnlessFull : {Y : Type 0} → StatementFault → Result Y StatementFault → Type 0
RefusesUnlessFull Memory answer = Unit {0}
RefusesUnlessFull fault answer = answer ≡ Err fault

abbrev pub AnswersUnlessFull : {X Y : Type 0} → (X → Y) → Result X StatementFault → Result Y StatementFault → Type 0
AnswersUnlessFull view (Ok x) answer = answer ≡ Ok (view x)
AnswersUnlessFull view (Err fault) answer = RefusesUnlessFull fault answer

-- this holds if memory was refused
abbrev pub OnFull : {X : Type 0} → Result X StatementFault → Type 0 → Type 0
OnFull (Ok x) fact = Unit {0}
OnFull (Err Memory) fact = fact
OnFull (Err (Refused rule at)) fact = Unit {0}
OnFull (Err OtherIssuer) fact = Unit {0}
OnFull (Err BadSignature) fact = Unit {0}
OnFull (Err NoSigner) fact = Unit {0}
OnFull (Err NothingForIssuer) fact = Unit {0}

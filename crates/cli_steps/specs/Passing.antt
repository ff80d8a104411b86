-- What is read for a delivery or a query, and passed to a receiver.
use Rattle.std.specs.Prelude.{◌≡◌, ◌⊎◌, ℕ, List, Some, Result, Ok, Err}
use Rattle.cert.specs.Certificate.{Certificate}
use Rattle.path.specs.Query.{Accepts, Query}
use Rattle.statements.specs.Statement.{genuine_statement_under}
use Rattle.statements_facts.specs.Fact.{Fact}
use Rattle.statements_facts.specs.declared.counts.Counts.{Counts}
use Rattle.statements_parts.specs.declared.fault.StatementFault.{StatementFault}
use Rattle.cli_failures.specs.Failures.{Holding, HoldsCertificate, IsDenied, IsNoCertificate, IsUnread}
use Rattle.cli_failures.specs.declared.failure.Failure.{Failure}
use Rattle.cli_operands.specs.Asked.{Asks, IsFailureOfQuery}
use Rattle.cli_words.specs.QueryTexts.{QueryTexts}

-- A receiver was called with what was read, and returned this; or what was read is refused, and the receiver is as it was.
abbrev pub PassesOn : {R A T : Type 0} → (A → Type 0) → (Failure → Type 0) → (R → R → A → Result T Failure → Type 0) → R → R → Result T Failure → Type 0
PassesOn {R} {A} Reads Refuses Answers old new (Ok answer) =
    (it : A) × Reads it × Answers old new it (Ok answer)
PassesOn {R} {A} Reads Refuses Answers old new (Err failure) =
    (Refuses failure × (new ≡ old)) ⊎ ((it : A) × Reads it × Answers old new it (Err failure))

-- ---- deliveries

-- a call of a receiver with facts: its states before and behind it, the facts, and the result
abbrev pub TakingBy : Type 0 → Type 1
TakingBy R = R → R → List Fact → Result Counts Failure → Type 0

-- the operand holds a statement that says these facts, and is genuine under the issuer whose certificate the other operand holds
pub record HoldsStatement (holds : Holding) (accepts : Accepts) (issuer file : List ℕ) (facts : List Fact) : Type 0 where
  pub by : Certificate
  pub issuer_is : HoldsCertificate holds issuer by
  pub statement : List ℕ
  pub file_is : holds.has file (Some statement)
  pub genuine : genuine_statement_under holds.profile accepts by statement ≡ Ok facts

-- What is wrong with a delivery before its facts are taken, the first of it: the operand, the statement in it.
abbrev pub IsRefusedUnder : Holding → Accepts → Certificate → List ℕ → Failure → Type 0
IsRefusedUnder holds accepts by file failure =
    IsUnread holds file failure
    ⊎ ((statement : List ℕ) × holds.has file (Some statement)
    × IsDenied (genuine_statement_under holds.profile accepts by statement) file failure)

-- The issuer's certificate, and then that.
abbrev pub IsRefusedFrom : Holding → Accepts → List ℕ → List ℕ → Failure → Type 0
IsRefusedFrom holds accepts issuer file failure =
    IsNoCertificate holds issuer failure
    ⊎ ((by : Certificate) × HoldsCertificate holds issuer by
    × IsRefusedUnder holds accepts by file failure)

-- the facts of the statement in the operand are passed to a receiver
abbrev pub DeliversTo : {R : Type 0} → Holding → Accepts → List ℕ → List ℕ → TakingBy R → R → R → Result Counts Failure → Type 0
DeliversTo holds accepts issuer file =
    PassesOn (HoldsStatement holds accepts issuer file) (IsRefusedFrom holds accepts issuer file)

-- ---- queries

-- a call of a receiver with a query: its states before and behind it, what its verifier accepts, the query, and the result
abbrev pub AnsweringBy : Type 0 → Type 0 → Type 1
AnsweringBy R T = R → R → Accepts → Query → Result T Failure → Type 0

-- the query that the words ask is passed to a receiver
abbrev pub AsksByWords : {R T : Type 0} → Holding → Accepts → QueryTexts → AnsweringBy R T → R → R → Result T Failure → Type 0
AsksByWords holds accepts texts Answers =
    PassesOn (Asks holds texts) (IsFailureOfQuery holds texts)
    (λ old new query result. Answers old new accepts query result)

-- ---- on the way

-- what is said of a statement
abbrev pub TakesSaid : {R : Type 0} → Result (List Fact) StatementFault → List ℕ → TakingBy R → R → R → Result Counts Failure → Type 0
TakesSaid said file = PassesOn (λ facts. said ≡ Ok facts) (IsDenied said file)

-- the statement that the operand holds, under the issuer of a certificate
abbrev pub HoldsUnder : Holding → Accepts → Certificate → List ℕ → List Fact → Type 0
HoldsUnder holds accepts by file facts =
    (statement : List ℕ) × holds.has file (Some statement)
    × (genuine_statement_under holds.profile accepts by statement ≡ Ok facts)

abbrev pub DeliversUnder : {R : Type 0} → Holding → Accepts → Certificate → List ℕ → TakingBy R → R → R → Result Counts Failure → Type 0
DeliversUnder holds accepts by file =
    PassesOn (HoldsUnder holds accepts by file) (IsRefusedUnder holds accepts by file)

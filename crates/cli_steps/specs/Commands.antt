-- Deliveries and queries of commands, with a verifier that accepts the signatures whose fingerprints a file lists.
use Rattle.std.specs.Prelude.{◌⊎◌, ℕ, List, Result}
use Rattle.path.specs.Query.{Accepts, Query}
use Rattle.statements_facts.specs.Fact.{Fact}
use Rattle.statements_facts.specs.declared.counts.Counts.{Counts}
use Rattle.cli_failures.specs.Failures.{Holding}
use Rattle.cli_failures.specs.declared.failure.Failure.{Failure}
use Rattle.cli_operands.specs.Asked.{AcceptsJust, Asks, HoldsFingerprints, IsFailureOfQuestion, IsFailureOnFingerprints}
use Rattle.cli_words.specs.QueryTexts.{QueryTexts}
use Rattle.cli_steps.specs.Passing.{AnsweringBy, HoldsStatement, IsRefusedFrom, PassesOn, TakingBy}

-- the file names fingerprints, and just the signatures of these are accepted
pub record BelievesFile (holds : Holding) (file : List ℕ) (accepts : Accepts) : Type 0 where
  pub prints : List (List ℕ)
  pub named : HoldsFingerprints holds file prints
  pub believed : AcceptsJust prints accepts

-- ---- deliveries

-- the file holds a statement that says these facts, and is genuine for such a verifier
abbrev pub SaysBelieving : Holding → List ℕ → List ℕ → List ℕ → List Fact → Type 0
SaysBelieving holds verdicts issuer file facts =
    (accepts : Accepts) × BelievesFile holds verdicts accepts × HoldsStatement holds accepts issuer file facts

-- What is wrong with a delivery before its facts are taken, the first of it: the fingerprints, the issuer's certificate, the statement.
abbrev pub IsFailureBelieving : Holding → List ℕ → List ℕ → List ℕ → Failure → Type 0
IsFailureBelieving holds verdicts issuer file failure =
    IsFailureOnFingerprints holds verdicts failure
    ⊎ ((accepts : Accepts) × BelievesFile holds verdicts accepts
    × IsRefusedFrom holds accepts issuer file failure)

-- those facts are passed to a receiver
abbrev pub DeliversBelieving : {R : Type 0} → Holding → List ℕ → List ℕ → List ℕ → TakingBy R → R → R → Result Counts Failure → Type 0
DeliversBelieving holds verdicts issuer file =
    PassesOn (SaysBelieving holds verdicts issuer file)
    (IsFailureBelieving holds verdicts issuer file)

-- ---- queries

-- what is accepted and what is asked, as the words say
pub record IsAsked (holds : Holding) (verdicts : List ℕ) (texts : QueryTexts) (accepts : Accepts) (query : Query) : Type 0 where
  pub believes : BelievesFile holds verdicts accepts
  pub asks : Asks holds texts query

-- that query is passed to a receiver
abbrev pub AsksBelieving : {R T : Type 0} → Holding → List ℕ → QueryTexts → AnsweringBy R T → R → R → Result T Failure → Type 0
AsksBelieving holds verdicts texts Answers =
    PassesOn (λ (asked : Accepts × Query). IsAsked holds verdicts texts asked.0 asked.1)
    (IsFailureOfQuestion holds verdicts texts)
    (λ old new asked result. Answers old new asked.0 asked.1 result)

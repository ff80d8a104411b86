-- What a crash leaves when lines were answered.
use Rattle.std.specs.Prelude.{◌≡◌, ◌⊎◌, ℕ, List, [], ◌∷◌, Some}
use Rattle.std.specs.List.{AllByRecursion}
use Rattle.path.specs.Query.{Accepts}
use Rattle.statements_facts.specs.Coming.{after_all}
use Rattle.statements_facts.specs.Fact.{Fact}
use Rattle.statements_facts.specs.Statement.{Holdings}
use Rattle.cli_failures.specs.Failures.{Holding}
use Rattle.cli_failures.specs.declared.failure.Failure.{Failure}
use Rattle.cli_operands.specs.Asked.{AcceptsJust}
use Rattle.cli_requests.specs.Requests.{deliver, request_on}
use Rattle.cli_steps.specs.Keeping.{IsNotKept, Kept}
use Rattle.cli_steps.specs.Passing.{HoldsStatement}
use Rattle.cli_steps.specs.State.{SessionState}
use Rattle.cli_steps.specs.declared.answer.SessionAnswer.{SessionAnswer}
use Rattle.cli_steps.specs.declared.answer.SessionAnswer.TheVariants.{Failed}
use Rattle.cli_steps.specs.Serving.{AreAnswersToLines, IsAnswerToLine}

-- The line asks for a delivery. Its statement is genuine for the party and says these facts, and the answer is that the keeper failed.
pub record FailsToDeliverThem (holds : Holding) (line : List ℕ) (state : SessionState) (answer : SessionAnswer) (facts : List Fact) : Type 0 where
  pub issuer : List ℕ
  pub file : List ℕ
  pub asks : request_on line ≡ Some (deliver issuer file)
  pub accepts : Accepts
  pub believes : AcceptsJust state.prints accepts
  pub says : HoldsStatement holds accepts issuer file facts
  pub failure : Failure
  pub answered : answer ≡ Failed failure
  pub failed : IsNotKept failure

-- so it is with one of the lines, each of which has its answer
abbrev pub SomeFailsToDeliverThem : Holding → List (List ℕ) → List SessionAnswer → SessionState → List Fact → Type 0
SomeFailsToDeliverThem holds (line ∷ lines) (answer ∷ answers) state facts =
    FailsToDeliverThem holds line state answer facts
    ⊎ ((next : SessionState) × IsAnswerToLine holds line state next answer
    × SomeFailsToDeliverThem holds lines answers next facts)
SomeFailsToDeliverThem holds lines answers state facts = ⊥

-- what a crash leaves is what is held; or what is held when these facts, of which that is so, have come
abbrev pub IsHeldOrMore : (List Fact → Type 0) → Holdings → Holdings → Type 0
IsHeldOrMore AreSo held left = (left ≡ held) ⊎ ((facts : List Fact) × AreSo facts × (left ≡ after_all held facts))

abbrev pub LosesNothing : (List Fact → Type 0) → Kept → Type 0
LosesNothing AreSo kept = AllByRecursion (IsHeldOrMore AreSo kept.held) kept.left

-- Behind the answers to lines a crash leaves what is held then, and so each statement that was answered as delivered, if it left just what
-- was held before them. It may leave one statement more, of a delivery on one of these lines that was answered as failed; and no other.
abbrev pub CrashLosesNothing : Holding → Type 0
CrashLosesNothing holds =
    (lines : List (List ℕ)) (answers : List SessionAnswer) (start now : SessionState) →
    start.kept.left ≡ start.kept.held ∷ [] → AreAnswersToLines holds lines answers start now →
    LosesNothing (SomeFailsToDeliverThem holds lines answers start) now.kept

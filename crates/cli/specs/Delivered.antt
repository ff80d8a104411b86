-- What a delivery to the store at a path answers, and why it fails.
use Rattle.std.specs.Prelude.{◌≡◌, ◌⊎◌, ℕ, List, Option, Result, Ok, Err}
use Rattle.statements_facts.specs.Coming.{after_all, AreCounts}
use Rattle.statements_facts.specs.Fact.{Fact}
use Rattle.statements_facts.specs.Statement.{Holdings}
use Rattle.statements_facts.specs.declared.counts.Counts.{Counts}
use Rattle.store_maps.specs.Held.{IsStoreOf}
use Rattle.path.specs.Query.{Accepts}
use Rattle.cli_answers.specs.AnswerText.{counts_line}
use Rattle.cli_failures.specs.declared.failure.Failure.{Failure}
use Rattle.cli_steps.specs.Commands.{BelievesFile, IsFailureBelieving, SaysBelieving}
use Rattle.cli_steps.specs.Passing.{HoldsStatement}
use Rattle.cli_store.specs.Standing.{IsFoundOrMade, IsIntact, MakesNoStore, IsUnanswered, Places, Seen, the_same, with_or_without}
use Rattle.cli.specs.Host.{HostState}
use Rattle.cli.specs.Streams.{FailsOrCuts}
use Rattle.cli.specs.declared.delivering.Delivery.{Delivery}

-- ---- the store at a path

-- The store at the path, as it was found or made, has taken the facts, and was left in a state in which it holds what they make of what it
-- held: all are taken, and counted so, and that lasts.
pub record IsTakenAtPath (at : Places) (path : List ℕ) (facts : List Fact) (counts : Counts) : Type 0 where
  pub old : Seen
  pub found : IsFoundOrMade at path old
  pub new : Seen
  pub left : at.leaves path new
  pub taken :
      IsIntact new → (start : Holdings) → IsStoreOf old.now start →
      IsStoreOf new.now (after_all start facts) × AreCounts start facts counts
      × at.lasts path (the_same (after_all start facts))

-- no store was opened or made; or it did not answer, and none of the facts lasts or all do
abbrev pub IsNotTaken : Places → List ℕ → List Fact → Failure → Type 0
IsNotTaken at path facts failure =
    MakesNoStore at.stands path failure
    ⊎ IsUnanswered (IsFoundOrMade at path) at path (with_or_without facts) failure

-- one or the other
abbrev pub TakesAt : Places → List ℕ → List Fact → Result Counts Failure → Type 0
TakesAt at path facts (Ok counts) = IsTakenAtPath at path facts counts
TakesAt at path facts (Err failure) = IsNotTaken at path facts failure

-- ---- deliveries

-- The statement in the file is genuine under the issuer whose certificate the other file holds, for a verifier that accepts the signatures
-- whose fingerprints the file of verdicts lists, and the store has taken its facts.
pub record IsDelivered (host : HostState) (words : Delivery) (counts : Counts) : Type 0 where
  pub accepts : Accepts
  pub believes : BelievesFile host.holds words.verdicts.now accepts
  pub facts : List Fact
  pub says : HoldsStatement host.holds accepts words.issuer.now words.file.now facts
  pub taken : IsTakenAtPath host.at words.store.now facts counts

-- What is wrong, the first of it: the verdicts, the issuer's certificate, the file, the statement in it, the store.
abbrev pub IsFailureOfDelivery : HostState → Delivery → Failure → Type 0
IsFailureOfDelivery host words failure =
    IsFailureBelieving host.holds words.verdicts.now words.issuer.now words.file.now failure
    ⊎ ((facts : List Fact)
    × SaysBelieving host.holds words.verdicts.now words.issuer.now words.file.now facts
    × IsNotTaken host.at words.store.now facts failure)

-- or it was delivered, and standard output failed behind a front of the line
abbrev pub FailsToDeliver : HostState → Delivery → Option (List ℕ) → Option (List ℕ) → Failure → Type 0
FailsToDeliver host words =
    FailsOrCuts (IsFailureOfDelivery host words)
    (λ text. (counts : Counts) × IsDelivered host words counts × (text ≡ counts_line counts))

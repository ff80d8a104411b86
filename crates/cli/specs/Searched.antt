-- What is found for a certificate by what the store at a path holds, and why nothing is answered.
use Rattle.std.specs.Prelude.{◌≡◌, ℕ, List, Option, IsTrue, Result, Ok, Err}
use Rattle.statements_facts.specs.Statement.{Holdings}
use Rattle.store_maps.specs.Held.{IsStoreOf}
use Rattle.path.specs.Query.{Accepts}
use Rattle.path_issuers.specs.Search.{Search}
use Rattle.relying_search.specs.Finding.{FindsHolding}
use Rattle.relying_search.specs.declared.finding.Finding.{Finding}
use Rattle.relying_search.specs.declared.finding.FindingBudget.{FindingBudget}
use Rattle.cli_failures.specs.declared.failure.Failure.{Failure}
use Rattle.cli_operands.specs.InOrder.{FailsFirst}
use Rattle.cli_store.specs.Standing.{IsFound, IsIntact, Places, Seen, the_same}
use Rattle.cli_steps.specs.Commands.{BelievesFile}
use Rattle.cli_steps.specs.Found.{AnswersFinding, IsAskedToFind, IsFailureOfFind, SearchAsked, found_text, usual_budget}
use Rattle.cli_steps.specs.declared.found.FoundPath.{FoundPath}
use Rattle.cli_words.specs.SearchTexts.{SearchTexts}
use Rattle.cli.specs.Checked.{IsNotChecked}
use Rattle.cli.specs.Host.{HostState}
use Rattle.cli.specs.Streams.{FailsOrCuts}

-- The finding by what the store at the path held when it was opened. It was closed then, holds the same as long as its connection is open,
-- and what it held lasts.
pub record IsFoundBy (at : Places) (path : List ℕ) (accepts : Accepts) (s : Search) (budget : FindingBudget) (finding : Finding) : Type 0 where
  pub old : Seen
  pub found : IsFound at path old
  pub new : Seen
  pub left : at.leaves path new
  pub is :
      IsIntact new → (held : Holdings) → IsStoreOf old.now held →
      FindsHolding accepts s budget held finding
      × (IsTrue new.is_open → IsStoreOf new.now held)
      × at.lasts path (the_same held)

-- or the store is not found, or does not answer
abbrev pub FindsAt : Places → List ℕ → Accepts → Search → FindingBudget → Result Finding Failure → Type 0
FindsAt at path accepts s budget (Ok finding) = IsFoundBy at path accepts s budget finding
FindsAt at path accepts s budget (Err failure) = IsNotChecked at path failure

-- the path that is asked for, with its verdict, or that there is none
pub record IsSearched (host : HostState) (store verdicts : List ℕ) (texts : SearchTexts) (answer : FoundPath) : Type 0 where
  pub accepts : Accepts
  pub believes : BelievesFile host.holds verdicts accepts
  pub asked : SearchAsked
  pub is : IsAskedToFind host.holds texts asked
  pub finding : Finding
  pub found : IsFoundBy host.at store accepts asked.search usual_budget finding
  pub answers : AnswersFinding host.holds texts asked finding answer

-- What is wrong, the first of it: the words in their order, the store.
abbrev pub IsFailureOfFinding : HostState → List ℕ → List ℕ → SearchTexts → Failure → Type 0
IsFailureOfFinding host store verdicts texts =
    FailsFirst (IsFailureOfFind host.holds verdicts texts)
    (((accepts : Accepts) × BelievesFile host.holds verdicts accepts) × ((asked : SearchAsked) × IsAskedToFind host.holds texts asked))
    (IsNotChecked host.at store)

-- or there is an answer, and standard output failed behind a front of its lines
abbrev pub FailsToFind : HostState → List ℕ → List ℕ → SearchTexts → Option (List ℕ) → Option (List ℕ) → Failure → Type 0
FailsToFind host store verdicts texts =
    FailsOrCuts (IsFailureOfFinding host store verdicts texts)
    (λ text. (answer : FoundPath) × IsSearched host store verdicts texts answer × (text ≡ found_text answer))

-- Verdicts and comparisons by what stores at paths hold, and why there is none.
use Rattle.std.specs.Prelude.{◌≡◌, ◌≢◌, ◌⊎◌, ℕ, List, Option, IsTrue, Result, Ok, Err}
use Rattle.statements_facts.specs.Statement.{Holdings}
use Rattle.store_maps.specs.Held.{IsStoreOf}
use Rattle.path.specs.Query.{Query, Accepts}
use Rattle.relying_agreement.specs.Verdict.{IsVerdict}
use Rattle.relying_agreement.specs.Comparison.{IsComparison}
use Rattle.relying_agreement.specs.declared.verdict.Verdict.{Verdict}
use Rattle.relying_agreement.specs.declared.verdict.Comparison.{Comparison}
use Rattle.cli_words.specs.QueryTexts.{QueryTexts}
use Rattle.cli_answers.specs.AnswerText.{comparison_line, verdict_line}
use Rattle.cli_failures.specs.declared.failure.Failure.{Failure}
use Rattle.cli_failures.specs.declared.failure.Failure.TheVariants.{StoreFailed}
use Rattle.cli_failures.specs.declared.failure.StoreRefusal.TheVariants as refused
use Rattle.cli_operands.specs.Asked.{IsFailureOfQuestion}
use Rattle.cli_operands.specs.InOrder.{FailsFirst}
use Rattle.cli_steps.specs.Commands.{IsAsked}
use Rattle.cli_store.specs.Standing.{IsFound, IsIntact, IsNotFound, IsOfStore, IsUnanswered, Places, Seen, the_same}
use Rattle.cli.specs.Host.{HostState}
use Rattle.cli.specs.Streams.{FailsOrCuts}
use Rattle.cli.specs.declared.at_path.StorePair.{StorePair}

-- ---- verdicts

-- The verdict by what the store at the path held when it was opened. It was closed then, holds the same as long as its connection is open,
-- and what it held lasts.
pub record IsCheckedBy (at : Places) (path : List ℕ) (accepts : Accepts) (query : Query) (verdict : Verdict) : Type 0 where
  pub old : Seen
  pub found : IsFound at path old
  pub new : Seen
  pub left : at.leaves path new
  pub is :
      IsIntact new → (held : Holdings) → IsStoreOf old.now held →
      IsVerdict accepts query held verdict
      × (IsTrue new.is_open → IsStoreOf new.now held)
      × at.lasts path (the_same held)

-- the store is not found, or does not answer
abbrev pub IsNotChecked : Places → List ℕ → Failure → Type 0
IsNotChecked at path failure =
    IsNotFound at.stands path failure ⊎ IsUnanswered (IsFound at path) at path the_same failure

-- one or the other
abbrev pub ChecksAt : Places → List ℕ → Accepts → Query → Result Verdict Failure → Type 0
ChecksAt at path accepts query (Ok verdict) =
    IsCheckedBy at path accepts query verdict
ChecksAt at path accepts query (Err failure) = IsNotChecked at path failure

-- the verdict that is asked for
pub record IsChecked (host : HostState) (store verdicts : List ℕ) (texts : QueryTexts) (verdict : Verdict) : Type 0 where
  pub accepts : Accepts
  pub query : Query
  pub asked : IsAsked host.holds verdicts texts accepts query
  pub checked : IsCheckedBy host.at store accepts query verdict

-- What is wrong, the first of it: the words in their order, the store.
abbrev pub IsFailureOfCheck : HostState → List ℕ → List ℕ → QueryTexts → Failure → Type 0
IsFailureOfCheck host store verdicts texts =
    FailsFirst (IsFailureOfQuestion host.holds verdicts texts)
    ((accepts : Accepts) × (query : Query) × IsAsked host.holds verdicts texts accepts query)
    (IsNotChecked host.at store)

-- or there is a verdict, and standard output failed behind a front of its line
abbrev pub FailsToCheck : HostState → List ℕ → List ℕ → QueryTexts → Option (List ℕ) → Option (List ℕ) → Failure → Type 0
FailsToCheck host store verdicts texts =
    FailsOrCuts (IsFailureOfCheck host store verdicts texts)
    (λ text. (verdict : Verdict) × IsChecked host store verdicts texts verdict × (text ≡ verdict_line verdict))

-- ---- comparisons

-- The comparison by what the stores at two paths held when they were opened. They were closed then, each holds the same as long as its
-- connection is open, and what it held lasts.
pub record IsComparedBy (at : Places) (stores : StorePair) (accepts : Accepts) (query : Query) (comparison : Comparison) : Type 0 where
  pub old : Seen
  pub other_old : Seen
  pub found : IsFound at stores.store.now old
  pub other_found : IsFound at stores.other.now other_old
  pub new : Seen
  pub other_new : Seen
  pub left : at.leaves stores.store.now new
  pub other_left : at.leaves stores.other.now other_new
  pub is :
      IsIntact new → IsIntact other_new → (held others : Holdings) → IsStoreOf old.now held →
      IsStoreOf other_old.now others →
      IsComparison accepts query held others comparison
      × (IsTrue new.is_open → IsStoreOf new.now held)
      × (IsTrue other_new.is_open → IsStoreOf other_new.now others)
      × at.lasts stores.store.now (the_same held)
      × at.lasts stores.other.now (the_same others)

-- One of two stores that were opened so did not answer, and both were left. As long as both connections are open they hold what they held,
-- and neither refuses for its tables; what they held lasts.
pub record IsNoComparison (at : Places) (stores : StorePair) (old other_old : Seen) (failure : Failure) : Type 0 where
  pub why : IsOfStore failure
  pub new : Seen
  pub other_new : Seen
  pub left : at.leaves stores.store.now new
  pub other_left : at.leaves stores.other.now other_new
  pub kept :
      IsIntact new → IsIntact other_new → IsTrue new.is_open → IsTrue other_new.is_open → (held others : Holdings) →
      IsStoreOf old.now held → IsStoreOf other_old.now others →
      IsStoreOf new.now held × IsStoreOf other_new.now others × (failure ≢ StoreFailed refused.Schema)
  pub lasts :
      IsIntact new → IsIntact other_new → (held others : Holdings) →
      IsStoreOf old.now held → IsStoreOf other_old.now others →
      at.lasts stores.store.now (the_same held) × at.lasts stores.other.now (the_same others)

-- the stores at two paths were found, and one did not answer
abbrev pub AreUnanswered : Places → StorePair → Failure → Type 0
AreUnanswered at stores failure =
    (old other_old : Seen) × IsFound at stores.store.now old
    × IsFound at stores.other.now other_old
    × IsNoComparison at stores old other_old failure

-- a store that was found so is closed as it is, and what it held lasts
abbrev pub IsLeftAlone : Places → List ℕ → Seen → Type 0
IsLeftAlone at path old =
    at.leaves path old × (IsIntact old → (held : Holdings) → IsStoreOf old.now held → at.lasts path (the_same held))

-- the store is not found; or it is and the other is not; or one does not answer
abbrev pub IsNotCompared : Places → StorePair → Failure → Type 0
IsNotCompared at stores failure =
    IsNotFound at.stands stores.store.now failure
    ⊎ (((old : Seen) × IsFound at stores.store.now old
    × IsLeftAlone at stores.store.now old × IsNotFound at.stands stores.other.now failure)
    ⊎ AreUnanswered at stores failure)

-- there is a comparison, or none for that
abbrev pub ComparesAt : Places → StorePair → Accepts → Query → Result Comparison Failure → Type 0
ComparesAt at stores accepts query (Ok comparison) =
    IsComparedBy at stores accepts query comparison
ComparesAt at stores accepts query (Err failure) =
    IsNotCompared at stores failure

-- the comparison that is asked for
pub record IsCompared (host : HostState) (stores : StorePair) (verdicts : List ℕ) (texts : QueryTexts) (comparison : Comparison) : Type 0 where
  pub accepts : Accepts
  pub query : Query
  pub asked : IsAsked host.holds verdicts texts accepts query
  pub compared : IsComparedBy host.at stores accepts query comparison

-- What is wrong, the first of it: the words in their order, the store, the other store.
abbrev pub IsFailureOfComparison : HostState → StorePair → List ℕ → QueryTexts → Failure → Type 0
IsFailureOfComparison host stores verdicts texts =
    FailsFirst (IsFailureOfQuestion host.holds verdicts texts)
    ((accepts : Accepts) × (query : Query) × IsAsked host.holds verdicts texts accepts query)
    (IsNotCompared host.at stores)

-- or there is a comparison, and standard output failed behind a front of its line
abbrev pub FailsToCompare : HostState → StorePair → List ℕ → QueryTexts → Option (List ℕ) → Option (List ℕ) → Failure → Type 0
FailsToCompare host stores verdicts texts =
    FailsOrCuts (IsFailureOfComparison host stores verdicts texts)
    (λ text. (comparison : Comparison) × IsCompared host stores verdicts texts comparison
    × (text ≡ comparison_line comparison))

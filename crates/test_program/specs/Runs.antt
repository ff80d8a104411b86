-- What runs over a shelf answer, by its texts and statements alone: no connection, no disk and no premise of either is left.
use Rattle.std.specs.Prelude.{ℕ, List, [], IsSome, unwrap_or}
use Rattle.path.specs.Query.{Accepts, Query}
use Rattle.relying_agreement.specs.Comparison.{IsComparison}
use Rattle.relying_agreement.specs.Verdict.{IsVerdict}
use Rattle.relying_agreement.specs.declared.verdict.Comparison.{Comparison}
use Rattle.relying_agreement.specs.declared.verdict.Verdict.{Verdict}
use Rattle.statements_facts.specs.Coming.{AreCounts, after_all}
use Rattle.statements_facts.specs.Fact.{Fact}
use Rattle.statements_facts.specs.Statement.{Holdings, empty_holdings}
use Rattle.statements_facts.specs.declared.counts.Counts.{Counts}
use Rattle.cli_words.specs.QueryTexts.{QueryTexts}
use Rattle.cli.specs.Checked.{IsChecked, IsCompared}
use Rattle.cli.specs.Commands.{BelievesFile, IsAsked}
use Rattle.cli.specs.Delivered.{IsDelivered}
use Rattle.cli.specs.Host.{HostState}
use Rattle.cli.specs.Passing.{HoldsStatement}
use Rattle.cli.specs.declared.at_path.StorePair.{StorePair}
use Rattle.cli.specs.declared.delivering.Delivery.{Delivery}
use Rattle.test_program.specs.Shelves.{HasTaken, after_these, holding_in, places_on, statements_at}
use Rattle.test_program.specs.declared.shelf.Kept.{Kept}
use Rattle.test_program.specs.declared.shelf.Text.{Text}

-- what a run finds on a shelf
abbrev pub host_of : List Text → List Kept → HostState
host_of texts stores =
    record { holds = holding_in texts; at = places_on stores }

-- what the statements of a path say: nothing, if none are kept there
abbrev pub held_at : List Kept → List ℕ → Holdings
held_at stores path = after_these empty_holdings (unwrap_or (statements_at stores path) [])

-- a store stands at this path
abbrev pub HasStore : List Kept → List ℕ → Type 0
HasStore stores path = IsSome (statements_at stores path)

-- the verdict is that on the path which the texts ask about, by what the statements say
pub record IsCheckedOver (texts : List Text) (stores : List Kept) (store verdicts : List ℕ) (words : QueryTexts) (verdict : Verdict) : Type 0 where
  pub accepts : Accepts
  pub query : Query
  pub asked : IsAsked (holding_in texts) verdicts words accepts query
  pub stands : HasStore stores store
  pub is : IsVerdict accepts query (held_at stores store) verdict

-- the same of a comparison
pub record IsComparedOver (texts : List Text) (stores : List Kept) (pair : StorePair) (verdicts : List ℕ) (words : QueryTexts) (comparison : Comparison) : Type 0 where
  pub accepts : Accepts
  pub query : Query
  pub asked : IsAsked (holding_in texts) verdicts words accepts query
  pub stands : HasStore stores pair.store.now
  pub other_stands : HasStore stores pair.other.now
  pub is : IsComparison accepts query (held_at stores pair.store.now) (held_at stores pair.other.now) comparison

-- the facts of the statement are counted as they come to what the statements of the path say, if a store stands there
pub record IsDeliveredOver (texts : List Text) (stores : List Kept) (words : Delivery) (counts : Counts) : Type 0 where
  pub accepts : Accepts
  pub believes : BelievesFile (holding_in texts) words.verdicts.now accepts
  pub facts : List Fact
  pub says : HoldsStatement (holding_in texts) accepts words.issuer.now words.file.now facts
  pub counted : HasStore stores words.store.now → AreCounts (held_at stores words.store.now) facts counts

-- ---- so it is with every run

abbrev pub ChecksByTexts : Type 0
ChecksByTexts =
    (texts : List Text) (stores : List Kept) (store verdicts : List ℕ) (words : QueryTexts) (verdict : Verdict) →
    IsChecked (host_of texts stores) store verdicts words verdict →
    IsCheckedOver texts stores store verdicts words verdict

abbrev pub ComparesByTexts : Type 0
ComparesByTexts =
    (texts : List Text) (stores : List Kept) (pair : StorePair) (verdicts : List ℕ) (words : QueryTexts) (comparison : Comparison) →
    IsCompared (host_of texts stores) pair verdicts words comparison →
    IsComparedOver texts stores pair verdicts words comparison

abbrev pub DeliversByTexts : Type 0
DeliversByTexts =
    (texts : List Text) (stores : List Kept) (words : Delivery) (counts : Counts) →
    IsDelivered (host_of texts stores) words counts →
    IsDeliveredOver texts stores words counts

-- A run delivers, and the shelf of the next one has that statement more at the path. The verdict of the next is that by what was held, and
-- the facts that were delivered.
abbrev pub DeliversThenChecks : Type 0
DeliversThenChecks =
    (texts others : List Text) (stores next : List Kept) (words : Delivery) (counts : Counts) (verdicts : List ℕ) (asked : QueryTexts) (verdict : Verdict) →
    (delivered : IsDelivered (host_of texts stores) words counts) →
    HasTaken stores next words.store.now delivered.facts →
    (checked : IsChecked (host_of others next) words.store.now verdicts asked verdict) →
    IsVerdict checked.accepts checked.query (after_all (held_at stores words.store.now) delivered.facts) verdict

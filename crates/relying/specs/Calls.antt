-- What each call of a node is: a run of one event, or of none. Each premise is what a clause of the call says.
use Rattle.std.specs.Prelude.{List, [], ◌∷◌, ◌++◌, ℕ, Result, Ok, Err}
use Rattle.sqlite_disk.specs.declared.Disk.{Ghosts}
use Rattle.sqlite.specs.State.{HasCleanDisk}
use Rattle.statements_facts.specs.declared.profile.Profile.{Profile}
use Rattle.statements_facts.specs.Fact.{facts_in}
use Rattle.statements_facts.specs.declared.counts.Counts.{Counts}
use Rattle.statements_facts.specs.declared.fact.Facts.{Facts}
use Rattle.store_sql.specs.declared.fault.StoreFault.{StoreFault}
use Rattle.store_taking.specs.Delivery.{PutsFacts}
use Rattle.path.specs.Query.{Query, Accepts}
use Rattle.relying_agreement.specs.Comparison.{IsComparison}
use Rattle.relying_agreement.specs.Run.{Event}
use Rattle.relying_agreement.specs.Verdict.{IsVerdict}
use Rattle.relying_agreement.specs.declared.verdict.Comparison.{Comparison}
use Rattle.relying_agreement.specs.declared.verdict.Verdict.{Verdict}
use Rattle.relying_verdicts.specs.declared.fault.Fault.{Fault}
use Rattle.relying.specs.Agreed.{CameThrough}
use Rattle.relying.specs.Asking.{Looks, LooksAtBoth}
use Rattle.relying.specs.Delivery.{AnswersDelivery, StatementSays}
use Rattle.relying.specs.Restart.{HasRestarted}
use Rattle.relying.specs.Run.{Ran}
use Rattle.relying.specs.View.{stored}
use Rattle.relying.specs.declared.fault.DeliverFault.{DeliverFault}
use Rattle.relying.specs.declared.fault.DeliverFault.TheVariants.{Store}
use Rattle.relying.specs.declared.node.Node.{Node}

-- the answer to a delivery whose statement was read before
abbrev pub answer_of_taking : Result Counts StoreFault → Result Counts DeliverFault
answer_of_taking (Ok counts) = Ok counts
answer_of_taking (Err fault) = Err (Store fault)

module _ (V D : Type 0) (g : Ghosts D) where
  -- `deliver`: `answered`
  abbrev pub DeliveriesAreRuns : Type 0
  DeliveriesAreRuns =
      (profile : Profile) (accepts : Accepts) (issuer statement : List ℕ) (old new : Node V D g) (answer : Result Counts DeliverFault) →
      HasCleanDisk (stored new) →
      AnswersDelivery profile accepts issuer statement (stored old) (stored new) answer →
      Ran profile accepts (Event.Deliver issuer statement ∷ []) (answer ∷ []) (stored old) (stored new)

  -- `read_statement`: `says`, and then `take`: `takes`
  abbrev pub TakingsAreRuns : Type 0
  TakingsAreRuns =
      (profile : Profile) (accepts : Accepts) (issuer statement : List ℕ) (facts : Facts) (old new : Node V D g) (result : Result Counts StoreFault) →
      HasCleanDisk (stored new) →
      StatementSays profile accepts issuer statement (facts_in facts) →
      PutsFacts (stored old) (stored new) facts result →
      Ran profile accepts (Event.Deliver issuer statement ∷ []) (answer_of_taking result ∷ []) (stored old) (stored new)

  -- `restart`: `restarts`
  abbrev pub RestartsAreRuns : Type 0
  RestartsAreRuns =
      (profile : Profile) (accepts : Accepts) (old new : Node V D g) → HasCleanDisk (stored new) → HasRestarted old new →
      Ran profile accepts (Event.Restart ∷ []) [] (stored old) (stored new)

  -- `run_into`, `run`, and the calls above
  abbrev pub RunsComeThrough : Type 0
  RunsComeThrough =
      (profile : Profile) (accepts : Accepts) (events : List Event) (answers : List (Result Counts DeliverFault)) (old new : Node V D g) →
      Ran profile accepts events answers (stored old) (stored new) → CameThrough profile accepts events answers (stored old) (stored new)

  -- `verdict`: `looks`
  abbrev pub VerdictsComeThrough : Type 0
  VerdictsComeThrough =
      (profile : Profile) (accepts : Accepts) (query : Query) (old new : Node V D g) (result : Result Verdict Fault) → HasCleanDisk (stored new) →
      Looks (stored old) (stored new) (IsVerdict accepts query) result → CameThrough profile accepts [] [] (stored old) (stored new)

  -- `compare`: `looks`
  abbrev pub ComparisonsComeThrough : Type 0
  ComparisonsComeThrough =
      (profile : Profile) (accepts : Accepts) (query : Query) (old new other_old other_new : Node V D g) (result : Result Comparison Fault) →
      HasCleanDisk (stored new) → HasCleanDisk (stored other_new) →
      LooksAtBoth (stored old) (stored new) (stored other_old) (stored other_new) (IsComparison accepts query) result →
      CameThrough profile accepts [] [] (stored old) (stored new) × CameThrough profile accepts [] [] (stored other_old) (stored other_new)

  -- one call after another
  abbrev pub CallsFollow : Type 0
  CallsFollow =
      (profile : Profile) (accepts : Accepts) (events more : List Event) (answers more_answers : List (Result Counts DeliverFault))
      (begun middle last : Node V D g) →
      CameThrough profile accepts events answers (stored begun) (stored middle) →
      CameThrough profile accepts more more_answers (stored middle) (stored last) →
      CameThrough profile accepts (events ++ more) (answers ++ more_answers) (stored begun) (stored last)

  -- and one run behind another, which is a run over all their events
  abbrev pub RunsFollow : Type 0
  RunsFollow =
      (profile : Profile) (accepts : Accepts) (events more : List Event) (answers more_answers : List (Result Counts DeliverFault))
      (begun middle last : Node V D g) →
      Ran profile accepts events answers (stored begun) (stored middle) →
      Ran profile accepts more more_answers (stored middle) (stored last) →
      Ran profile accepts (events ++ more) (answers ++ more_answers) (stored begun) (stored last)

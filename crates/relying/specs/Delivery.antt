-- How a delivery is answered, and what it does to the database.
use Rattle.std.specs.Prelude.{◌≡◌, ⊤, ℕ, List, Result, Ok, Err}
use Rattle.sqlite.specs.State.{State, HasCleanDisk, Survives}
use Rattle.cert.specs.Certificate.{Certificate, certificate}
use Rattle.cert.specs.Fault.{FailsUnlessFull as CertificateFails}
use Rattle.statements_facts.specs.declared.profile.Profile.{Profile}
use Rattle.statements_facts.specs.declared.fact.Facts.{Facts}
use Rattle.statements_facts.specs.Fact.{Fact, facts_in}
use Rattle.statements.specs.Genuine.{Accepts, RefusesUnlessFull}
use Rattle.statements.specs.Statement.{genuine_statement_under}
use Rattle.statements_facts.specs.declared.counts.Counts.{Counts}
use Rattle.store.specs.Adopts.{StaysIfOpen}
use Rattle.store_sql.specs.Statements.{CommitsNothing}
use Rattle.store_taking.specs.Delivery.{CommitsWhole, Delivers, PutFails}
use Rattle.store_taking.specs.Room.{FactsFit, HasRoomForFacts, IsCausedOver}
use Rattle.relying_agreement.specs.Run.{genuine_facts}
use Rattle.relying.specs.declared.fault.DeliverFault.{DeliverFault}
use Rattle.relying.specs.declared.fault.DeliverFault.TheVariants.{Issuer, Statement, Store}

-- The issuer's certificate is one, and the statement is genuine under it and says these facts. Here and in what follows the profile is that
-- under which statements are read: for a party, that of its store.
pub record StatementSays (profile : Profile) (accepts : Accepts) (issuer statement : List ℕ) (facts : List Fact) : Type 0 where
  pub by : Certificate
  pub by_is : certificate issuer ≡ Ok by
  pub said : genuine_statement_under profile accepts by statement ≡ Ok facts

-- Why a delivery takes nothing: the issuer's certificate is refused; or it is one, and the statement is refused under it; or the
-- statement is genuine, and the fault is that of the store.
abbrev pub IsReasonOfFault : Profile → Accepts → List ℕ → List ℕ → DeliverFault → Type 0
IsReasonOfFault profile accepts issuer statement (Issuer fault) = CertificateFails fault (certificate issuer)
IsReasonOfFault profile accepts issuer statement (Statement fault) =
    (by : Certificate) × (certificate issuer ≡ Ok by) × RefusesUnlessFull fault (genuine_statement_under profile accepts by statement)
IsReasonOfFault profile accepts issuer statement (Store fault) = (facts : List Fact) × StatementSays profile accepts issuer statement facts

-- why nothing is read, for which no store was asked
abbrev pub IsRefusal : Profile → Accepts → List ℕ → List ℕ → DeliverFault → Type 0
IsRefusal profile accepts issuer statement (Store fault) = ⊥
IsRefusal profile accepts issuer statement fault = IsReasonOfFault profile accepts issuer statement fault

-- what becomes of the database: after a fault that is not the store's it is as it was
abbrev pub Leaves : State → State → DeliverFault → Type 0
Leaves old new (Store fault) = PutFails old new fault
Leaves old new fault = StaysIfOpen old new

-- How a delivery is answered, whatever the disk did: the statement is genuine and says some facts, or the fault has its reason.
abbrev pub IsAnswerTo : Profile → Accepts → List ℕ → List ℕ → Result Counts DeliverFault → Type 0
IsAnswerTo profile accepts issuer statement (Ok counts) = (facts : List Fact) × StatementSays profile accepts issuer statement facts
IsAnswerTo profile accepts issuer statement (Err fault) = IsReasonOfFault profile accepts issuer statement fault

abbrev pub IsDeliveryAnswer : Profile → Accepts → List ℕ → List ℕ → State → State → Result Counts DeliverFault → Type 0
IsDeliveryAnswer profile accepts issuer statement old new (Ok counts) =
    (facts : List Fact) × StatementSays profile accepts issuer statement facts × Delivers old new facts counts
IsDeliveryAnswer profile accepts issuer statement old new (Err fault) = IsReasonOfFault profile accepts issuer statement fault × Leaves old new fault

-- the same, if the disk returned what was written
abbrev pub AnswersDelivery : Profile → Accepts → List ℕ → List ℕ → State → State → Result Counts DeliverFault → Type 0
AnswersDelivery profile accepts issuer statement old new result = HasCleanDisk new → IsDeliveryAnswer profile accepts issuer statement old new result

-- What a crash may leave: what it could leave before the call, or the whole delivery if the store was asked to take it.
abbrev pub MayCommit : List Fact → State → State → Result Counts DeliverFault → Type 0
MayCommit facts old new (Ok counts) = Survives old new (CommitsWhole old facts)
MayCommit facts old new (Err (Store fault)) = Survives old new (CommitsWhole old facts)
MayCommit facts old new (Err fault) = CommitsNothing old new

abbrev pub MayCommitDelivery : Profile → Accepts → List ℕ → List ℕ → State → State → Result Counts DeliverFault → Type 0
MayCommitDelivery profile accepts issuer statement = MayCommit (genuine_facts profile accepts issuer statement)

-- Why the store did not take what was read: the statement says these facts, and the fault `Store` has a cause, if they keep within the
-- limits and the store has room for them.
abbrev pub DeliversForCause : Profile → Accepts → List ℕ → List ℕ → State → State → Result Counts DeliverFault → Type 0
DeliversForCause profile accepts issuer statement old new (Ok counts) = ⊤
DeliversForCause profile accepts issuer statement old new (Err (Store fault)) =
    HasCleanDisk new →
    (facts : Facts) × StatementSays profile accepts issuer statement (facts_in facts) × IsCausedOver (HasRoomForFacts facts) (FactsFit facts) old new fault
DeliversForCause profile accepts issuer statement old new (Err fault) = ⊤

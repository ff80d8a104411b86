-- What a call does that asks the store and may also want memory.
use Rattle.std.specs.Prelude.{◌≡◌, Result, Ok, Err, IfErr, IfOk}
use Rattle.sqlite.specs.State.{State, HasCleanDisk, KeepsCommit}
use Rattle.statements_facts.specs.Statement.{Holdings}
use Rattle.store_sql.specs.declared.fault.StoreFault.TheVariants.{Schema as NotOurs}
use Rattle.store_maps.specs.Held.{IsStoreOf}
use Rattle.store_adoption.specs.Creates.{IsSettled}
use Rattle.store.specs.Adopts.{StaysIfOpen}
use Rattle.path.specs.Query.{Query, Accepts}
use Rattle.relying_agreement.specs.declared.verdict.Verdict.{Verdict}
use Rattle.relying_agreement.specs.declared.verdict.Comparison.{Comparison}
use Rattle.relying_verdicts.specs.Asking.{AreInvalidOrOpen, AskIsCaused, AskOfBothIsCaused, IsInvalidOrOpen}
use Rattle.path_issuers.specs.Search.{Search}
use Rattle.relying_verdicts.specs.Looking.{IsFoundOnlyIfOpen}
use Rattle.relying_search.specs.Finding.{seen_finding}
use Rattle.relying_search.specs.declared.finding.Finding.{Finding}
use Rattle.relying_search.specs.declared.finding.FindingBudget.{FindingBudget}
use Rattle.relying_verdicts.specs.declared.fault.Fault.{Fault}
use Rattle.relying_verdicts.specs.declared.fault.Fault.TheVariants.{Store, Memory}

-- a fault is never for the form of the rows of a store
abbrev pub IsFormed : State → Fault → Type 0
IsFormed old (Store fault) = fault ≡ NotOurs → (held : Holdings) → IsStoreOf old.now held → ⊥
IsFormed old Memory = Unit {0}

-- of a store in this state before and in that one afterwards: what is found is true of what it holds, or the fault is not for its rows
abbrev pub HasLooked : {A : Type 0} → (State → State → Type 0) → State → State → (Holdings → A → Type 0) → Result A Fault → Type 0
HasLooked Keeps old new Is (Ok found) = Keeps old new × ((held : Holdings) → IsStoreOf old.now held → Is held found)
HasLooked Keeps old new Is (Err fault) = Keeps old new × IsFormed old fault

-- a look-up outside a transaction, if the disk returned what was written: what is held is as it was
abbrev pub Looks : {A : Type 0} → State → State → (Holdings → A → Type 0) → Result A Fault → Type 0
Looks old new Is result = HasCleanDisk new → HasLooked StaysIfOpen old new Is result

-- over a store a fault of the database has a cause
abbrev pub LooksForCause : {A : Type 0} → State → State → Result A Fault → Type 0
LooksForCause old new result = HasCleanDisk new → IfErr result (AskIsCaused old new)

-- the same before the transaction is dropped: the last commit stays
abbrev pub LooksInside : {A : Type 0} → State → State → (Holdings → A → Type 0) → Result A Fault → Type 0
LooksInside old new Is result = HasCleanDisk new → HasLooked KeepsCommit old new Is result

-- An Invalid verdict is that of the path, whatever is held; another comes from an open connection alone, if the disk returned what was
-- written.
abbrev pub AnswersOnlyIfOpen : Accepts → Query → State → State → Result Verdict Fault → Type 0
AnswersOnlyIfOpen accepts query old new result = HasCleanDisk new → IfOk result (IsInvalidOrOpen accepts query old.is_open)

-- A path with its verdict comes from an open connection alone, if the disk returned what was written; that none is valid is so whatever
-- is held; that a search gave up is one or the other.
abbrev pub FindsOnlyIfOpen : Accepts → Search → FindingBudget → State → State → Result Finding Fault → Type 0
FindsOnlyIfOpen accepts s budget old new result =
    HasCleanDisk new → IfOk result (λ finding. IsFoundOnlyIfOpen accepts s budget old.is_open (seen_finding finding))

-- before a call and after it, what is shown is committed
abbrev pub AreSettled : State → State → Type 0
AreSettled old new = IsSettled old × IsSettled new

-- ---- of two stores

abbrev pub IsFormedOfEither : State → State → Fault → Type 0
IsFormedOfEither old other (Store fault) = fault ≡ NotOurs → (one two : Holdings) → IsStoreOf old.now one → IsStoreOf other.now two → ⊥
IsFormedOfEither old other Memory = Unit {0}

abbrev pub HasLookedAtBoth : {A : Type 0} → (State → State → Type 0) → State → State → State → State → (Holdings → Holdings → A → Type 0) → Result A Fault → Type 0
HasLookedAtBoth Keeps old new other_old other_new Is (Ok found) =
    Keeps old new × Keeps other_old other_new × ((one other : Holdings) → IsStoreOf old.now one → IsStoreOf other_old.now other → Is one other found)
HasLookedAtBoth Keeps old new other_old other_new Is (Err fault) = Keeps old new × Keeps other_old other_new × IsFormedOfEither old other_old fault

abbrev pub LooksAtBoth : {A : Type 0} → State → State → State → State → (Holdings → Holdings → A → Type 0) → Result A Fault → Type 0
LooksAtBoth old new other_old other_new Is result =
    HasCleanDisk new → HasCleanDisk other_new → HasLookedAtBoth StaysIfOpen old new other_old other_new Is result

abbrev pub LooksInsideBoth : {A : Type 0} → State → State → State → State → (Holdings → Holdings → A → Type 0) → Result A Fault → Type 0
LooksInsideBoth old new other_old other_new Is result =
    HasCleanDisk new → HasCleanDisk other_new → HasLookedAtBoth KeepsCommit old new other_old other_new Is result

abbrev pub BothAnswerOnlyIfOpen : Accepts → Query → State → State → State → State → Result Comparison Fault → Type 0
BothAnswerOnlyIfOpen accepts query old new other_old other_new result =
    HasCleanDisk new → HasCleanDisk other_new → IfOk result (AreInvalidOrOpen accepts query old.is_open other_old.is_open)

-- over two stores a fault of a database has a cause in one of them
abbrev pub LooksAtBothForCause : {A : Type 0} → State → State → State → State → Result A Fault → Type 0
LooksAtBothForCause old new other_old other_new result =
    HasCleanDisk new → HasCleanDisk other_new → IfErr result (AskOfBothIsCaused old new other_old other_new)

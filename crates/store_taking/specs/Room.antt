-- What a store has room for, and why a fact is not put into one.
use Rattle.std.specs.Prelude.{◌≡◌, ◌<◌, ◌≤◌, ◌+◌, ℕ, suc, length, Result, IfErr, IfOk}
use Rattle.std.specs.List.{AllByRecursion}
use Rattle.sqlite.specs.Effect.{Database}
use Rattle.sqlite.specs.State.{State, HasCleanDisk}
use Rattle.sqlite.specs.declared.transaction.Transaction.{Transaction}
use Rattle.sqlite_trees.specs.declared.store.Store.{Ghosts}
use Rattle.statements_facts.specs.declared.fact.CrlFacts.{CrlFacts}
use Rattle.statements_facts.specs.declared.fact.OcspFacts.{OcspFacts}
use Rattle.statements_facts.specs.declared.fact.Facts.{Facts}
use Rattle.statements_facts.specs.declared.fact.Facts.TheVariants.{Crl, Ocsp}
use Rattle.statements_facts.specs.Fact.{crl_issuers, facts_in, seen_issuer}
use Rattle.statements_facts.specs.Statement.{IssuerIdentity, Holdings}
use Rattle.store_sql.specs.Cause.{MayRefuse}
use Rattle.store_sql.specs.Inside.{inside}
use Rattle.store_sql.specs.declared.fault.StoreFault.{StoreFault}
use Rattle.store_sql.specs.declared.fault.StoreFault.TheVariants.{Store}
use Rattle.store_rows.specs.Contents.{Contents}
use Rattle.store_rows.specs.Holding.{next_id}
use Rattle.store_rows.specs.Room.{FitRow, IssuerFitsRow, SingleFitsRow, LeavesIds}
use Rattle.store_maps.specs.Held.{IsStoreOf}
use Rattle.store_taking.specs.Passing.{HasIssuer, LacksIssuer}

-- ---- the limits of statements

-- a list has fewer than 2^32 entries, and no octet string in a statement has about a billion octets
pub record ListFits (list : CrlFacts) : Type 0 where
  pub issuers : AllByRecursion IssuerFitsRow (crl_issuers list)
  pub few : length list.revoked < 4294967296
  pub short : AllByRecursion (λ entry. FitRow (length entry.serial)) list.revoked

pub record ResponseFits (response : OcspFacts) : Type 0 where
  pub issuer : IssuerFitsRow (seen_issuer response.issuer)
  pub singles : AllByRecursion SingleFitsRow response.singles

abbrev pub FactsFit : Facts → Type 0
FactsFit (Crl list) = ListFits list
FactsFit (Ocsp response) = ResponseFits response

-- ---- the limits of a store

-- there are ids for so many more issuers, below 2^29 - 1, and for so many more rows of lists and of what responses say, below 2^63
pub record HasRoomFor (issuers rows : ℕ) (it : Contents) : Type 0 where
  pub new_issuers : next_id it.issuers + issuers ≤ 536870911
  pub few : rows < 9223372036854775807
  pub crls : AllByRecursion (λ row. LeavesIds rows row.id) it.crls
  pub singles : AllByRecursion (λ row. LeavesIds rows row.id) it.singles

-- the database is that of a store with such room
pub record IsStoreWithRoom (issuers rows : ℕ) (db : Database) : Type 0 where
  pub held : Holdings
  pub store : IsStoreOf db held
  pub room : HasRoomFor issuers rows store.contents

-- the issuer has this id in it, or it has none
pub record KnowsWithRoom (identity : IssuerIdentity) (id issuers rows : ℕ) (db : Database) : Type 0 where
  pub held : Holdings
  pub was : HasIssuer identity id db held
  pub room : HasRoomFor issuers rows was.store.contents

pub record LacksWithRoom (identity : IssuerIdentity) (issuers rows : ℕ) (db : Database) : Type 0 where
  pub held : Holdings
  pub was : LacksIssuer identity db held
  pub room : HasRoomFor issuers rows was.store.contents

-- room for all facts of a statement
abbrev pub HasRoomForFacts : Facts → Database → Type 0
HasRoomForFacts facts db = IsStoreWithRoom (length (facts_in facts)) (length (facts_in facts)) db

-- ---- causes

-- over a database that is so the fault `Store` has a cause, if what is put keeps within the limits
abbrev pub IsCausedOver : (Database → Type 0) → Type 0 → State → State → StoreFault → Type 0
IsCausedOver Before Fits old new fault = fault ≡ Store → Before old.now → Fits → MayRefuse old new

-- the same of a call on a transaction, if the disk has returned what was written
abbrev pub CausedOverIn : {S A : Type 0} → Ghosts S → Transaction S → Transaction S → (Database → Type 0) → Type 0 → Result A StoreFault → Type 0
CausedOverIn g old new Before Fits result = HasCleanDisk (inside g new) → IfErr result (IsCausedOver Before Fits (inside g old) (inside g new))

-- from a database that is so a call that succeeds leads to one that is so
abbrev pub LeavesRoomIn : {S A : Type 0} → Ghosts S → Transaction S → Transaction S → (Database → Type 0) → (A → Database → Type 0) → Result A StoreFault → Type 0
LeavesRoomIn g old new Before After result = HasCleanDisk (inside g new) → IfOk result (λ answer. Before (inside g old).now → After answer (inside g new).now)

-- a fact of this issuer is put into a store with room for it
abbrev pub TakesForCause : {S A : Type 0} → Ghosts S → Transaction S → Transaction S → Type 0 → Result A StoreFault → Type 0
TakesForCause g old new Fits result = (issuers rows : ℕ) → CausedOverIn g old new (IsStoreWithRoom (suc issuers) (suc rows)) Fits result

-- the issuer's id is looked for, or given
abbrev pub FindsIdForCause : {S : Type 0} → Ghosts S → Transaction S → Transaction S → IssuerIdentity → Result ℕ StoreFault → Type 0
FindsIdForCause g old new identity result = (issuers rows : ℕ) → CausedOverIn g old new (IsStoreWithRoom (suc issuers) rows) (IssuerFitsRow identity) result

-- it is found: so the database is a store in which the issuer has an id
abbrev pub Knows : IssuerIdentity → Database → Type 0
Knows identity db = (id : ℕ) × (held : Holdings) × HasIssuer identity id db held

-- what is put under the issuer's id
abbrev pub TakesUnderForCause : {S A : Type 0} → Ghosts S → Transaction S → Transaction S → IssuerIdentity → ℕ → Type 0 → Result A StoreFault → Type 0
TakesUnderForCause g old new identity id Fits result = (issuers rows : ℕ) → CausedOverIn g old new (KnowsWithRoom identity id issuers (suc rows)) Fits result

-- Outside a transaction the fault `Store` of a delivery has a cause, if the facts keep within the limits and the store has room for
-- them: the database may refuse.
abbrev pub PutsForCause : {A : Type 0} → State → State → Facts → Result A StoreFault → Type 0
PutsForCause old new facts result = HasCleanDisk new → IfErr result (IsCausedOver (HasRoomForFacts facts) (FactsFit facts) old new)

-- What a store holds once facts were taken.
use Rattle.std.specs.Prelude.{ℕ, List, map, Result}
use Rattle.sqlite_trees.specs.declared.store.Store.{Ghosts}
use Rattle.sqlite.specs.declared.transaction.Transaction.{Transaction}
use Rattle.sqlite.specs.Effect.{Database}
use Rattle.statements_facts.specs.declared.fact.CrlFacts.{CrlFacts}
use Rattle.statements_facts.specs.declared.issuer.Issuer.{Issuer}
use Rattle.statements_facts.specs.declared.single.Single.{Single}
use Rattle.statements_facts.specs.Statement.{IssuerIdentity, Holdings}
use Rattle.statements_facts.specs.Single.{SingleFact, seen_single}
use Rattle.statements_facts.specs.Fact.{Fact, seen_issuer, slot_for, crl_fact, ocsp_slot}
use Rattle.statements_facts.specs.declared.counts.TakenAs.{TakenAs}
use Rattle.statements_facts.specs.declared.counts.Counts.{Counts}
use Rattle.statements_facts.specs.Coming.{IsTakenAs, after_one, after_all, AreCounts}
use Rattle.store_sql.specs.declared.fault.StoreFault.{StoreFault}
use Rattle.store_maps.specs.Held.{IsStoreOf}
use Rattle.store_taking.specs.Passing.{StepsIn, HasIssuer}

-- by a store that held this, a fact was taken, and counted so
pub record IsTaken (fact : Fact) (outcome : TakenAs) (db : Database) (held : Holdings) : Type 0 where
  pub holds : IsStoreOf db (after_one held fact)
  pub counted : IsTakenAs held fact outcome

-- these were taken one after the other, and counted so
pub record AreTaken (facts : List Fact) (counts : Counts) (db : Database) (held : Holdings) : Type 0 where
  pub hold : IsStoreOf db (after_all held facts)
  pub counted : AreCounts held facts counts

-- what a response says of one certificate, and of several
abbrev pub fact_of_single : IssuerIdentity → SingleFact → Fact
fact_of_single issuer single = Fact.OfResponse (ocsp_slot issuer single) single.fact

abbrev pub facts_of_singles : IssuerIdentity → List SingleFact → List Fact
facts_of_singles issuer singles = map (fact_of_single issuer) singles

-- ---- as the code has them

abbrev pub fact_of_crl : Issuer → CrlFacts → Fact
fact_of_crl issuer list = Fact.OfCrl (slot_for list.scope (seen_issuer issuer)) (crl_fact list)

abbrev pub fact_from : Issuer → Single → Fact
fact_from issuer single = fact_of_single (seen_issuer issuer) (seen_single single)

-- who says it
abbrev pub issuer_in : Fact → IssuerIdentity
issuer_in (Fact.OfCrl slot fact) = slot.issuer
issuer_in (Fact.OfResponse slot fact) = slot.issuer

-- ---- a call on a transaction takes them into a store

abbrev pub TakesFact : {S : Type 0} → Ghosts S → Transaction S → Transaction S → Fact → Result TakenAs StoreFault → Type 0
TakesFact g old new fact result = StepsIn g old new IsStoreOf (IsTaken fact) result

abbrev pub TakesFacts : {S : Type 0} → Ghosts S → Transaction S → Transaction S → List Fact → Result Counts StoreFault → Type 0
TakesFacts g old new facts result = StepsIn g old new IsStoreOf (AreTaken facts) result

-- the issuer has this id
abbrev pub TakesUnder : {S : Type 0} → Ghosts S → Transaction S → Transaction S → ℕ → Fact → Result TakenAs StoreFault → Type 0
TakesUnder g old new id fact result = StepsIn g old new (HasIssuer (issuer_in fact) id) (IsTaken fact) result

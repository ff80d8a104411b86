-- A store's calls, as those of a keeper.
use Rattle.std.proofs.Common.{◌≡◌, ◌⊎◌, ℕ, suc, false, List, [], ◌∷◌, Contains, IsTrue, Result, Ok, Err, IfErr, IfOk, OnOk, arith, inl, inr, refl, sym, subst, ◌∙◌, true≢false}
use Rattle.sqlite.specs.Order.{Row}
use Rattle.sqlite.specs.State.{HasCause, HasCleanDisk, IsNoStatement, IsNotRun, IsUnchanged, State, Survives, store_error}
use Rattle.sqlite.specs.declared.error.Error.{Error}
use Rattle.sqlite.specs.declared.error.Error.TheVariants.{SqliteFailure}
use Rattle.sqlite.specs.declared.error.ErrorCode.TheVariants.{Closed, OutOfMemory as NoMore}
use Rattle.sqlite_trees.specs.Tree.{Trees}
use Rattle.sqlite_trees.specs.declared.error.StoreError.{StoreError}
use Rattle.sqlite_trees.specs.declared.error.StoreError.TheVariants.{Broken, Corrupt, Full, Io, OutOfMemory, Unstorable}
use Rattle.path.specs.Query.{Accepts, Query}
use Rattle.path_issuers.specs.Search.{Search}
use Rattle.relying.specs.Asking.{AnswersOnlyIfOpen, FindsOnlyIfOpen, HasLooked, IsFormed, Looks}
use Rattle.relying_agreement.specs.Verdict.{InvalidExactlyWhere, IsVerdict}
use Rattle.relying_agreement.specs.declared.verdict.Verdict.{Verdict}
use Rattle.relying_agreement.specs.declared.verdict.Verdict.TheVariants.{Invalid, Revoked, Unknown, Valid}
use Rattle.relying_search.specs.Finding.{FindsHolding, seen_finding}
use Rattle.relying_search.specs.declared.finding.Finding.{Finding}
use Rattle.relying_search.specs.declared.finding.Finding.TheVariants as Of
use Rattle.relying_search.specs.declared.finding.FindingBudget.{FindingBudget}
use Rattle.relying_verdicts.specs.Asking.{IsInvalidOrOpen}
use Rattle.relying_verdicts.specs.Looking.{IsFoundOnlyIfOpen}
use Rattle.relying_verdicts.specs.declared.fault.Fault.{Fault}
use Rattle.relying_verdicts.specs.declared.fault.Fault.TheVariants.{Store as OfStore, Memory as WithoutMemory}
use Rattle.statements_facts.specs.Coming.{after_all}
use Rattle.statements_facts.specs.Fact.{Fact, facts_in}
use Rattle.statements_facts.specs.Statement.{Holdings}
use Rattle.statements_facts.specs.declared.counts.Counts.{Counts}
use Rattle.statements_facts.specs.declared.fact.Facts.{Facts}
use Rattle.store.specs.Adopts.{StaysIfOpen}
use Rattle.store_adoption.specs.Creates.{IsSettled}
use Rattle.store_listing.specs.Laws.{ListingShowsHeld, ShowsStore}
use Rattle.store_listing.specs.Listing.{IsListing}
use Rattle.store_listing.specs.Reads.{ReadsStore}
use Rattle.store_listing.specs.declared.held.Listing.{Listing}
use Rattle.store_maps.specs.Held.{IsStoreOf}
use Rattle.store_sql.specs.Fault.{fault_from}
use Rattle.store_sql.specs.Statements.{CommitsNothing}
use Rattle.store_sql.specs.declared.fault.StoreFault.{StoreFault}
use Rattle.store_sql.specs.declared.fault.StoreFault.TheVariants.{Store, Schema, Memory}
use Rattle.store_taking.specs.Delivery.{AllOrNothing, PutsFacts}
use Rattle.cli_failures.specs.declared.failure.Failure.{Failure}
use Rattle.cli_steps.specs.Keeping.{AnswersWithFinding, AnswersWithListing, AnswersWithVerdict, IsInvalidOrFrom, IsNotFoundOrFrom, IsNotKept, Keeps, Kept, Takes, trying}
use Rattle.cli_store.specs.Standing.{LeavesOneOf, told_of}
use Rattle.cli_store.specs.Stored.{IsToldOverOpen, StaysIfClean, keeping_in}

at_head : (left : List Holdings) (held : Holdings) → Contains (held ∷ left) held
at_head left held = (0, omega arith, refl)

behind : (left : List Holdings) (first held : Holdings) → Contains left held → Contains (first ∷ left) held
behind left first held (k, within, is) = (suc k, omega (arith, within), is)

-- a disk that is clean was clean
pub was_clean : {C : Trees → Type 0} (old new : State) → Survives old new C → HasCleanDisk new → HasCleanDisk old
was_clean old new survives clean = omega (arith, survives.clean, clean)

-- two errors are one
pub same_error : (one other : Error) → ◌≡◌ {A = Result (Unit {0}) Error} (Err one) (Err other) → one ≡ other
same_error one other same = cc

-- ---- why the keeper does not answer

-- a fault that is not the tables'
other_fault : (fault : StoreFault) → (fault ≡ Schema → ⊥) → IsNotKept (told_of (OfStore fault))
other_fault Store not = inr refl
other_fault Schema not = absurd (not refl)
other_fault Memory not = inl refl

pub told_as_other : (fault : Fault) (failure : Failure) → (fault ≡ OfStore Schema → ⊥) → failure ≡ told_of fault → IsNotKept failure
told_as_other (OfStore Store) failure not told = inr told
told_as_other (OfStore Schema) failure not told = absurd (not refl)
told_as_other (OfStore Memory) failure not told = inl told
told_as_other WithoutMemory failure not told = inl told

-- ---- two states of a connection

module _ (old new : State) where
  -- nothing was committed
  leaves_same : (left : List Holdings) → CommitsNothing old new → HasCleanDisk new → LeavesOneOf old left → LeavesOneOf new left
  leaves_same left survives clean leaves trees may = elim (survives.crash clean trees may) [
    | inl before ↦ leaves trees before
    | inr impossible ↦ absurd impossible
  ]

  pub kept_same : StaysIfClean old new → CommitsNothing old new → HasCleanDisk new → Keeps (keeping_in old) (keeping_in new)
  kept_same stays survives clean kept (is, leaves) = (
    λ is_open. let still = stays clean in subst (λ db. IsStoreOf db kept.held) (sym (still.now_is is_open)) (is (still.was_open is_open)),
    leaves_same kept.left survives clean leaves,
  )

  -- ---- deliveries

  pub takes : (facts : Facts) (counts : Counts) → PutsFacts old new facts (Ok counts) → HasCleanDisk new → Takes (keeping_in old) (keeping_in new) (facts_in facts) (Ok counts)
  takes facts counts puts clean kept (is, leaves) =
      let it = puts clean in
      let held = is it.was_open in
      let taken = it.taken kept.held held in
      ((λ is_open. taken.hold, λ trees may. (after_all kept.held (facts_in facts), at_head [] _, it.durable kept.held held trees may)), taken.counted)

  pub takes_nothing : (facts : Facts) (fault : StoreFault) → PutsFacts old new facts (Err fault) → AllOrNothing old new facts → HasCleanDisk new
      → (kept : Kept) → keeping_in old kept → keeping_in new (trying (facts_in facts) kept)
  takes_nothing facts fault puts survives clean kept (is, leaves) =
      let it = puts clean in (
        λ is_open. subst (λ db. IsStoreOf db kept.held) (sym (it.same is_open)) (is (it.was_open is_open)),
        λ trees may. elim (survives.crash clean trees may) [
          | inl before ↦ let (there, contained, are) = leaves trees before in (there, behind kept.left _ there contained, are)
          | inr whole ↦ (after_all kept.held (facts_in facts), at_head kept.left _, whole.1 kept.held (is whole.0))
        ],
      )

  -- ---- verdicts

  -- that the path is invalid is so whatever is held
  by_verdict : (accepts : Accepts) (query : Query) (held : Holdings) (verdict : Verdict) → InvalidExactlyWhere → IsInvalidOrOpen accepts query old.is_open verdict
      → (IsTrue old.is_open → IsVerdict accepts query held verdict) → IsVerdict accepts query held verdict
  by_verdict accepts query held (Invalid j reason) law fails if_open = (law accepts query held j reason).1 fails
  by_verdict accepts query held (Revoked j reason) law is_open if_open = if_open is_open
  by_verdict accepts query held (Unknown j) law is_open if_open = if_open is_open
  by_verdict accepts query held Valid law is_open if_open = if_open is_open

  -- a statement that asks nothing of the database is prepared, or is not run

  unchanged : IsUnchanged old new → StaysIfOpen old new
  unchanged same = record { was_open = λ is_open. same.0.was_open; now_is = λ is_open. same.0.now_is }

  not_run : (sql : List ℕ) (e : Error) → (IsTrue old.is_open → old.now ≡ old.committed) → ((params : Row) → IsNotRun old new sql params e) → StaysIfOpen old new
  unfolding IsNotRun
  not_run sql e settled fails = elim (fails []) [
    | inl it ↦ unchanged it.1
    | inr it ↦ record { was_open = it.3.was_open; now_is = λ is_open. (it.3.undone is_open).0 ∙ sym (settled (it.3.was_open is_open)) }
  ]

  pub probed : {A : Type 0} (Is : A → Type 0) (sql : List ℕ) (result : Result A Error) → (IsTrue old.is_open → old.now ≡ old.committed) → (HasCleanDisk new → IfOk result (λ it. Is it × IsUnchanged old new))
      → (HasCleanDisk new → IfErr result (λ e. (params : Row) → IsNotRun old new sql params e)) → StaysIfClean old new
  probed Is sql (Ok it) settled ok err clean = unchanged (ok clean).1
  probed Is sql (Err e) settled ok err clean = not_run sql e settled (err clean)

  -- only over a connection that is shut is it refused as that
  closed_cause : (cause : StoreError) (e : Error) → e ≡ SqliteFailure Closed → e ≡ store_error cause → HasCause old new ⊥ cause → old.is_open ≡ false
  closed_cause Broken e shut is cause = cause
  closed_cause OutOfMemory e shut is cause = absurd cc
  closed_cause Io e shut is cause = absurd cc
  closed_cause Corrupt e shut is cause = absurd cc
  closed_cause Full e shut is cause = absurd cc
  closed_cause Unstorable e shut is cause = absurd cause

  no_statement : (sql : List ℕ) (params : Row) (e : Error) → e ≡ SqliteFailure Closed → IsNoStatement old sql params e → ⊥
  no_statement sql params e shut (inl (fault, understood, is)) = absurd cc
  no_statement sql params e shut (inr (c, understood, inl (tail, is))) = absurd cc
  no_statement sql params e shut (inr (c, understood, inr (inl (given, is)))) = absurd cc
  no_statement sql params e shut (inr (c, understood, inr (inr (formats, is)))) = absurd cc

  pub shut : (sql : List ℕ) (e : Error) → e ≡ SqliteFailure Closed → (IsTrue old.is_open → old.now ≡ old.committed) → (HasCleanDisk new → (params : Row) → IsNotRun old new sql params e) → HasCleanDisk new → IsTrue new.is_open → ⊥
  unfolding IsNotRun
  shut sql e is settled fails clean is_open = elim (fails clean []) [
    | inl it ↦ no_statement sql [] e is it.0
    | inr it ↦ true≢false (sym ((not_run sql e settled (fails clean)).was_open is_open) ∙ closed_cause it.0 e is it.1 it.2)
  ]

-- ---- a call that failed, and then what was told of it

module _ (old mid new : State) (stays : StaysIfClean mid new) (survives : CommitsNothing mid new) where
  clean_before : HasCleanDisk new → HasCleanDisk mid
  clean_before clean = was_clean mid new survives clean

  pub takes_none : (facts : Facts) (fault : StoreFault) (told : Failure) → PutsFacts old mid facts (Err fault) → AllOrNothing old mid facts
      → (HasCleanDisk new → IsNotKept told ⊎ IsToldOverOpen new (OfStore fault) told) → HasCleanDisk new → Takes (keeping_in old) (keeping_in new) (facts_in facts) (Err told)
  takes_none facts fault told puts taken is clean kept keeps =
      let before = clean_before clean in (
        kept_same mid new stays survives clean (trying (facts_in facts) kept) (takes_nothing old mid facts fault puts taken before kept keeps),
        elim (is clean) [
          | inl it ↦ it
          | inr it ↦ subst IsNotKept (sym it.0) (other_fault fault (λ schema. (puts before).formed schema kept.held (keeps.0 ((puts before).was_open ((stays clean).was_open it.1)))))
        ],
      )

  formed : (fault : Fault) (told : Failure) (kept : Kept) → (HasCleanDisk mid → StaysIfOpen old mid × IsFormed old fault) → HasCleanDisk new
      → IsStoreOf old.now kept.held → told ≡ told_of fault → IsNotKept told
  formed (OfStore fault) told kept looks clean is same = subst IsNotKept (sym same) (other_fault fault (λ schema. (looks (clean_before clean)).1 schema kept.held is))
  formed WithoutMemory told kept looks clean is same = inl same

  -- a look-up that found nothing: of a verdict, or of a path
  pub finds_none : (fault : Fault) (told : Failure) → (HasCleanDisk mid → StaysIfOpen old mid × IsFormed old fault) → CommitsNothing old mid
      → (HasCleanDisk new → IsNotKept told ⊎ IsToldOverOpen new fault told) → HasCleanDisk new
      → (kept : Kept) → keeping_in old kept → keeping_in new kept × IsNotKept told
  finds_none fault told looks nothing is clean kept keeps = (
    kept_same mid new stays survives clean kept (kept_same old mid (λ before. (looks before).0) nothing (clean_before clean) kept keeps),
    elim (is clean) [
      | inl it ↦ it
      | inr it ↦ formed fault told kept looks clean (keeps.0 ((looks (clean_before clean)).0.was_open ((stays clean).was_open it.1))) it.0
    ],
  )

-- ---- a listing

module _ (old mid new : State) (stays : StaysIfClean mid new) (survives : CommitsNothing mid new) (before_survives : CommitsNothing old mid) where
  -- it was read over a connection that is open still
  pub lists : (all : Listing) → IsTrue new.is_open → (HasCleanDisk mid → ReadsStore {A = Listing} old mid IsListing (Ok all)) → (HasCleanDisk mid → ShowsStore old.now all) → HasCleanDisk new
      → AnswersWithListing (keeping_in old) (keeping_in new) (Ok all)
  lists all is_open reads shows clean kept keeps =
      let before = was_clean mid new survives clean in
      let same = unchanged old mid (reads before).0 in
      let shown = shows before kept.held (keeps.0 (same.was_open ((stays clean).was_open is_open))) in
      (kept_same mid new stays survives clean kept (kept_same old mid (λ c. same) before_survives before kept keeps), shown.0, shown.1)

  -- it was read, and then the connection refused
  pub lists_none : (all : Listing) (told : Failure) → (HasCleanDisk mid → ReadsStore {A = Listing} old mid IsListing (Ok all)) → IsNotKept told → HasCleanDisk new
      → AnswersWithListing (keeping_in old) (keeping_in new) (Err told)
  lists_none all told reads is clean kept keeps =
      let before = was_clean mid new survives clean in
      (kept_same mid new stays survives clean kept (kept_same old mid (λ c. unchanged old mid (reads before).0) before_survives before kept keeps), is)

-- a listing that was not read is for a fault of the tables only where they are no store's
pub not_read : (old mid : State) (fault : StoreFault) → ListingShowsHeld → IsSettled old → IsSettled mid → (HasCleanDisk mid → ReadsStore {A = Listing} old mid IsListing (Err fault)) → HasCleanDisk mid
    → StaysIfOpen old mid × IsFormed old (OfStore fault)
not_read old mid fault shows settled after reads clean =
    let it = reads clean in (
      record { was_open = it.0.was_open; now_is = λ is_open. after is_open ∙ it.0.committed is_open ∙ sym (settled (it.0.was_open is_open)) },
      λ schema held stands. let found = shows old.now held stands in it.1 schema found.0 found.1,
    )

-- ---- a verdict

pub finds : (old new : State) (accepts : Accepts) (query : Query) (verdict : Verdict) → InvalidExactlyWhere → AnswersOnlyIfOpen accepts query old new (Ok verdict)
    → Looks {A = Verdict} old new (IsVerdict accepts query) (Ok verdict) → CommitsNothing old new → HasCleanDisk new → AnswersWithVerdict (keeping_in old) (keeping_in new) accepts query (Ok verdict)
finds old new accepts query verdict law opens looks survives clean kept keeps = (
  kept_same old new (λ clean. (looks clean).0) survives clean kept keeps,
  by_verdict old new accepts query kept.held verdict law (opens clean) (λ is_open. (looks clean).1 kept.held (keeps.0 is_open)),
)

pub from_open : (accepts : Accepts) (query : Query) (verdict : Verdict) (old : State) → IsInvalidOrOpen accepts query old.is_open verdict → IsInvalidOrFrom (IsTrue old.is_open) verdict
from_open accepts query (Invalid j reason) old it = tt
from_open accepts query (Revoked j reason) old it = it
from_open accepts query (Unknown j) old it = it
from_open accepts query Valid old it = it

-- ---- a path that is found

-- that no path is valid is so whatever is held
by_finding : (accepts : Accepts) (s : Search) (budget : FindingBudget) (held : Holdings) (finding : Finding) (old : State) → IsFoundOnlyIfOpen accepts s budget old.is_open (seen_finding finding)
    → (IsTrue old.is_open → FindsHolding accepts s budget held finding) → FindsHolding accepts s budget held finding
by_finding accepts s budget held (Of.Found c verdict) old is_open if_open = if_open is_open
by_finding accepts s budget held Of.NotFound old none if_open = none
by_finding accepts s budget held Of.GaveUp old either if_open = elim either [ inl is_open ↦ if_open is_open | inr any ↦ any held ]

pub searches : (old new : State) (accepts : Accepts) (s : Search) (budget : FindingBudget) (finding : Finding) → FindsOnlyIfOpen accepts s budget old new (Ok finding)
    → Looks {A = Finding} old new (FindsHolding accepts s budget) (Ok finding) → CommitsNothing old new → HasCleanDisk new → AnswersWithFinding (keeping_in old) (keeping_in new) accepts s budget (Ok finding)
searches old new accepts s budget finding opens looks survives clean kept keeps = (
  kept_same old new (λ clean. (looks clean).0) survives clean kept keeps,
  by_finding accepts s budget kept.held finding old (opens clean) (λ is_open. (looks clean).1 kept.held (keeps.0 is_open)),
)

pub path_from_open : (accepts : Accepts) (s : Search) (budget : FindingBudget) (finding : Finding) (old new : State) → FindsOnlyIfOpen accepts s budget old new (Ok finding) → HasCleanDisk new → IsNotFoundOrFrom (IsTrue old.is_open) finding
path_from_open accepts s budget (Of.Found c verdict) old new opens clean = opens clean
path_from_open accepts s budget Of.NotFound old new opens clean = tt
path_from_open accepts s budget Of.GaveUp old new opens clean = tt

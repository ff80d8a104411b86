-- A store that does not answer, by what its party answered.
use Rattle.std.proofs.Common.{◌≡◌, ◌≢◌, ◌∙◌, inl, inr, refl, sym, subst, ℕ, List, Err, Ok, Result, IfErr, IsTrue}
use Rattle.sqlite.specs.State.{State, HasCleanDisk, KeepsCommit}
use Rattle.statements_facts.specs.Statement.{Holdings}
use Rattle.store_maps.specs.Held.{IsStoreOf}
use Rattle.relying.specs.Asking.{IsFormed, IsFormedOfEither}
use Rattle.store.specs.Adopts.{StaysIfOpen}
use Rattle.statements_facts.specs.Fact.{facts_in}
use Rattle.statements_facts.specs.declared.fact.Facts.{Facts}
use Rattle.store_sql.specs.Statements.{CommitsNothing}
use Rattle.store_taking.specs.Delivery.{AllOrNothing, PutsFacts}
use Rattle.store_adoption.specs.Creates.{IsSettled}
use Rattle.store_listing.specs.declared.held.Listing.{Listing}
use Rattle.store_listing.specs.Laws.{ListingShowsHeld}
use Rattle.store_listing.specs.Listing.{IsListing}
use Rattle.store_listing.specs.Reads.{ReadsStore}
use Rattle.store_sql.specs.declared.fault.StoreFault.{StoreFault}
use Rattle.store_sql.specs.declared.fault.StoreFault.TheVariants as S
use Rattle.relying_verdicts.specs.declared.fault.Fault.{Fault}
use Rattle.relying_verdicts.specs.declared.fault.Fault.TheVariants as F
use Rattle.cli_failures.specs.declared.failure.Failure.{Failure}
use Rattle.cli_failures.specs.declared.failure.Failure.TheVariants.{NoMemory, StoreFailed}
use Rattle.cli_failures.specs.declared.failure.StoreRefusal.TheVariants as refused
use Rattle.cli_store.specs.Standing.{IsFound, IsNoAnswer, IsOfStore, LeavesIfClean, Places, Seen, seen_of, the_same, told_of, with_or_without}
use Rattle.cli.specs.Checked.{IsNoComparison, IsNotChecked}
use Rattle.cli.specs.declared.at_path.StorePair.{StorePair}
use Rattle.cli.proofs.Lasting.{IsReady, all_or_none_last, same_lasts}

of_store : (fault : Fault) (failure : Failure) → failure ≡ told_of fault → IsOfStore failure
of_store (F.Store S.Store) failure told = inr (refused.Store, told)
of_store (F.Store S.Schema) failure told = inr (refused.Schema, told)
of_store (F.Store S.Memory) failure told = inl told
of_store F.Memory failure told = inl told

-- what is not a fault of the tables is not told as one
no_schema : (fault : Fault) (failure : Failure) → failure ≡ told_of fault → (fault ≡ F.Store S.Schema → ⊥) → failure ≢ StoreFailed refused.Schema
no_schema (F.Store S.Store) failure told not is = let same : StoreFailed refused.Store ≡ StoreFailed refused.Schema = sym told ∙ is in absurd cc
no_schema (F.Store S.Schema) failure told not is = not refl
no_schema (F.Store S.Memory) failure told not is = let same : NoMemory ≡ StoreFailed refused.Schema = sym told ∙ is in absurd cc
no_schema F.Memory failure told not is = let same : NoMemory ≡ StoreFailed refused.Schema = sym told ∙ is in absurd cc

-- ---- a verdict

still : (old new : State) → StaysIfOpen old new → IsTrue new.is_open → (held : Holdings) → IsStoreOf old.now held → IsStoreOf new.now held
still old new keeps is_open held stands = subst (λ now. IsStoreOf now held) (sym (keeps.now_is is_open)) stands

formed : (old : State) (fault : Fault) (held : Holdings) → IsFormed old fault → IsStoreOf old.now held → fault ≡ F.Store S.Schema → ⊥
formed old (F.Store S.Store) held it stands is = absurd cc
formed old (F.Store S.Schema) held it stands is = it refl held stands
formed old (F.Store S.Memory) held it stands is = absurd cc
formed old F.Memory held it stands is = absurd cc

-- ---- the store at a path, which was closed in the new state

module _ (at : Places) (path : List ℕ) (old new : State) (left : at.leaves path (seen_of new)) (closes : (later : List Holdings) → LeavesIfClean new later → at.lasts path later) (ready : IsReady old) where
  pub no_verdict : (fault : Fault) (failure : Failure) → failure ≡ told_of fault → (HasCleanDisk new → StaysIfOpen old new × IsFormed old fault) → CommitsNothing old new
      → IsNoAnswer at path the_same (seen_of old) failure
  no_verdict fault failure told looks survives = record {
    why = of_store fault failure told;
    new = seen_of new;
    left = left;
    kept = λ intact is_open held stands. (still old new (looks intact).0 is_open held stands, no_schema fault failure told (formed old fault held (looks intact).1 stands));
    lasts = λ intact. same_lasts old new (at.lasts path) closes ready survives;
  }

  -- ---- a delivery

  pub no_answer_on_facts : (facts : Facts) (fault : StoreFault) (failure : Failure) → failure ≡ told_of (F.Store fault) → PutsFacts old new facts (Err fault) → AllOrNothing old new facts
      → IsNoAnswer at path (with_or_without (facts_in facts)) (seen_of old) failure
  no_answer_on_facts facts fault failure told puts survives = record {
    why = of_store (F.Store fault) failure told;
    new = seen_of new;
    left = left;
    kept = λ intact is_open held stands. (
      subst (λ now. IsStoreOf now held) (sym ((puts intact).same is_open)) stands,
      no_schema (F.Store fault) failure told (formed old (F.Store fault) held (puts intact).formed stands),
    );
    lasts = λ intact. all_or_none_last old new (at.lasts path) closes ready facts survives;
  }

  -- ---- a listing

  still_settled : IsSettled new → KeepsCommit old new → IsTrue new.is_open → new.now ≡ old.now
  still_settled settled keeps is_open = settled is_open ∙ keeps.committed is_open ∙ sym (ready.settled (keeps.was_open is_open))

  pub not_listed : (fault : StoreFault) (failure : Failure) → failure ≡ told_of (F.Store fault) → ListingShowsHeld → IsSettled new → CommitsNothing old new
      → (HasCleanDisk new → ReadsStore {A = Listing} old new IsListing (Err fault)) → IsNoAnswer at path the_same (seen_of old) failure
  not_listed fault failure told shows settled survives reads = record {
    why = of_store (F.Store fault) failure told;
    new = seen_of new;
    left = left;
    kept = λ intact is_open held stands. (
      subst (λ now. IsStoreOf now held) (sym (still_settled settled (reads intact).0 is_open)) stands,
      no_schema (F.Store fault) failure told
          (formed old (F.Store fault) held (λ schema held stands. let it = shows old.now held stands in (reads intact).1 schema it.0 it.1) stands),
    );
    lasts = λ intact. same_lasts old new (at.lasts path) closes ready survives;
  }

  -- it was read, and memory for its lines ran out
  pub without_memory : {T : Type 0} (all : Listing) (result : Result T Failure) → CommitsNothing old new → (HasCleanDisk new → ReadsStore {A = Listing} old new IsListing (Ok all))
      → IfErr result (λ failure. failure ≡ NoMemory) → IfErr result (IsNoAnswer at path the_same (seen_of old))
  without_memory all (Ok x) survives reads fails = tt
  without_memory all (Err failure) survives reads fails = record {
    why = inl fails;
    new = seen_of new;
    left = left;
    kept = λ intact is_open held stands. (subst (λ now. IsStoreOf now held) (sym (reads intact).0.0.now_is) stands, no_schema F.Memory failure fails (λ is. absurd cc));
    lasts = λ intact. same_lasts old new (at.lasts path) closes ready survives;
  }

-- ---- a comparison

formed_of_either : (old other : State) (fault : Fault) (held others : Holdings) → IsFormedOfEither old other fault → IsStoreOf old.now held → IsStoreOf other.now others → fault ≡ F.Store S.Schema → ⊥
formed_of_either old other (F.Store S.Store) held others it one two is = absurd cc
formed_of_either old other (F.Store S.Schema) held others it one two is = it refl held others one two
formed_of_either old other (F.Store S.Memory) held others it one two is = absurd cc
formed_of_either old other F.Memory held others it one two is = absurd cc

module _ (at : Places) (stores : StorePair) (old new other_old other_new : State) (left : at.leaves stores.store.now (seen_of new)) (other_left : at.leaves stores.other.now (seen_of other_new))
    (closes : (later : List Holdings) → LeavesIfClean new later → at.lasts stores.store.now later) (other_closes : (later : List Holdings) → LeavesIfClean other_new later → at.lasts stores.other.now later)
    (ready : IsReady old) (other_ready : IsReady other_old) (survives : CommitsNothing old new) (other_survives : CommitsNothing other_old other_new) where
  pub no_comparison : (fault : Fault) (failure : Failure) → failure ≡ told_of fault
      → (HasCleanDisk new → HasCleanDisk other_new → StaysIfOpen old new × StaysIfOpen other_old other_new × IsFormedOfEither old other_old fault) → IsNoComparison at stores (seen_of old) (seen_of other_old) failure
  no_comparison fault failure told looks = record {
    why = of_store fault failure told;
    new = seen_of new;
    other_new = seen_of other_new;
    left = left;
    other_left = other_left;
    kept = λ intact other_intact is_open other_open held others one two. (
      still old new (looks intact other_intact).0 is_open held one,
      still other_old other_new (looks intact other_intact).1 other_open others two,
      no_schema fault failure told (formed_of_either old other_old fault held others (looks intact other_intact).2 one two),
    );
    lasts = λ intact other_intact held others one two. (
      same_lasts old new (at.lasts stores.store.now) closes ready survives held one,
      same_lasts other_old other_new (at.lasts stores.other.now) other_closes other_ready other_survives others two,
    );
  }

-- ---- the store at a path

pub not_listed_at : {T : Type 0} (at : Places) (path : List ℕ) (old : Seen) (result : Result T Failure) → IsFound at path old
    → IfErr result (IsNoAnswer at path the_same old) → IfErr result (IsNotChecked at path)
not_listed_at at path old (Ok x) found fails = tt
not_listed_at at path old (Err failure) found fails = inr (old, found, fails)

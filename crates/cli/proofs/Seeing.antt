-- What a store answered, by what was seen of it.
use Rattle.std.proofs.Common.{◌≡◌, inr, subst, sym, ℕ, List, Ok, Err}
use Rattle.sqlite.specs.State.{State, HasCleanDisk}
use Rattle.statements_facts.specs.Fact.{facts_in}
use Rattle.statements_facts.specs.Statement.{Holdings}
use Rattle.statements_facts.specs.declared.fact.Facts.{Facts}
use Rattle.store.specs.Adopts.{StaysIfOpen}
use Rattle.store_maps.specs.Held.{IsStoreOf}
use Rattle.store_sql.specs.declared.fault.StoreFault.{StoreFault}
use Rattle.store_sql.specs.Statements.{CommitsNothing}
use Rattle.store_taking.specs.Delivery.{AllOrNothing, PutsFacts}
use Rattle.relying_agreement.specs.Verdict.{IsVerdict}
use Rattle.relying_agreement.specs.Comparison.{IsComparison}
use Rattle.relying_agreement.specs.declared.verdict.Comparison.{Comparison}
use Rattle.relying_agreement.specs.declared.verdict.Verdict.{Verdict}
use Rattle.relying_verdicts.specs.declared.fault.Fault.{Fault}
use Rattle.relying_verdicts.specs.declared.fault.Fault.TheVariants.{Store as OfStore}
use Rattle.statements_facts.specs.declared.counts.Counts.{Counts}
use Rattle.path.specs.Query.{Query, Accepts}
use Rattle.path_issuers.specs.Search.{Search}
use Rattle.relying_search.specs.Finding.{FindsHolding}
use Rattle.relying_search.specs.declared.finding.Finding.{Finding}
use Rattle.relying_search.specs.declared.finding.FindingBudget.{FindingBudget}
use Rattle.relying.specs.Asking.{IsFormed, IsFormedOfEither, Looks, LooksAtBoth}
use Rattle.sqlite_disk.specs.declared.Disk.{Ghosts}
use Rattle.store.specs.declared.handle.Store.{Store}
use Rattle.cli_failures.specs.declared.failure.Failure.{Failure}
use Rattle.cli_store.specs.Standing.{IsFound, IsFoundOrMade, LeavesIfClean, Places, seen_of, told_of}
use Rattle.cli.specs.Delivered.{IsNotTaken, IsTakenAtPath}
use Rattle.cli.specs.Checked.{IsCheckedBy, IsComparedBy, IsNotChecked, IsNotCompared}
use Rattle.cli.specs.Searched.{IsFoundBy}
use Rattle.cli.specs.declared.at_path.StorePair.{StorePair}
use Rattle.cli.proofs.Lasting.{IsReady, all_last, same_lasts}
use Rattle.cli.proofs.Unanswered.{no_answer_on_facts, no_comparison, no_verdict}

-- a store that is handed on is left as it was
pub left_as : {D : Type 0} {g : Ghosts D} (Left : Store D g → Type 0) (given kept : Store D g) → given ≡ kept → Left given → Left kept
left_as Left given kept same left = subst Left same left

-- ---- the store at a path, found in its old state and left in the new one

module _ (at : Places) (path : List ℕ) (old new : State) (left : at.leaves path (seen_of new)) (closes : (later : List Holdings) → LeavesIfClean new later → at.lasts path later) (ready : IsReady old) where
  pub taken : (facts : Facts) (counts : Counts) → PutsFacts old new facts (Ok counts) → IsFoundOrMade at path (seen_of old) → IsTakenAtPath at path (facts_in facts) counts
  taken facts counts puts found = record {
    old = seen_of old;
    found = found;
    new = seen_of new;
    left = left;
    taken = λ intact start is. let it = (puts intact).taken start is in (it.hold, it.counted, all_last old new (at.lasts path) closes ready facts counts puts start is);
  }

  pub not_taken : (facts : Facts) (fault : StoreFault) (failure : Failure) → failure ≡ told_of (OfStore fault) → PutsFacts old new facts (Err fault) → AllOrNothing old new facts
      → IsFoundOrMade at path (seen_of old) → IsNotTaken at path (facts_in facts) failure
  not_taken facts fault failure told puts survives found = inr (seen_of old, found, no_answer_on_facts at path old new left closes ready facts fault failure told puts survives)

  pub checked : (accepts : Accepts) (query : Query) (verdict : Verdict) → Looks {A = Verdict} old new (IsVerdict accepts query) (Ok verdict) → CommitsNothing old new → IsFound at path (seen_of old)
      → IsCheckedBy at path accepts query verdict
  checked accepts query verdict looks survives found = record {
    old = seen_of old;
    found = found;
    new = seen_of new;
    left = left;
    is = λ intact held is. (
      (looks intact).1 held is,
      λ is_open. subst (λ now. IsStoreOf now held) (sym ((looks intact).0.now_is is_open)) is,
      same_lasts old new (at.lasts path) closes ready survives held is,
    );
  }

  pub searched : (accepts : Accepts) (s : Search) (budget : FindingBudget) (finding : Finding) → Looks {A = Finding} old new (FindsHolding accepts s budget) (Ok finding) → CommitsNothing old new
      → IsFound at path (seen_of old) → IsFoundBy at path accepts s budget finding
  searched accepts s budget finding looks survives found = record {
    old = seen_of old;
    found = found;
    new = seen_of new;
    left = left;
    is = λ intact held is. (
      (looks intact).1 held is,
      λ is_open. subst (λ now. IsStoreOf now held) (sym ((looks intact).0.now_is is_open)) is,
      same_lasts old new (at.lasts path) closes ready survives held is,
    );
  }

  pub not_checked : (fault : Fault) (failure : Failure) → failure ≡ told_of fault → (HasCleanDisk new → StaysIfOpen old new × IsFormed old fault) → CommitsNothing old new → IsFound at path (seen_of old)
      → IsNotChecked at path failure
  not_checked fault failure told looks survives found = inr (seen_of old, found, no_verdict at path old new left closes ready fault failure told looks survives)

-- ---- the stores at two paths

module _ (at : Places) (stores : StorePair) (old new other_old other_new : State) (left : at.leaves stores.store.now (seen_of new)) (other_left : at.leaves stores.other.now (seen_of other_new))
    (closes : (later : List Holdings) → LeavesIfClean new later → at.lasts stores.store.now later) (other_closes : (later : List Holdings) → LeavesIfClean other_new later → at.lasts stores.other.now later)
    (ready : IsReady old) (other_ready : IsReady other_old) (survives : CommitsNothing old new) (other_survives : CommitsNothing other_old other_new) where
  pub compared : (accepts : Accepts) (query : Query) (comparison : Comparison) → LooksAtBoth {A = Comparison} old new other_old other_new (IsComparison accepts query) (Ok comparison)
      → IsFound at stores.store.now (seen_of old) → IsFound at stores.other.now (seen_of other_old) → IsComparedBy at stores accepts query comparison
  compared accepts query comparison looks found other_found = record {
    old = seen_of old;
    other_old = seen_of other_old;
    found = found;
    other_found = other_found;
    new = seen_of new;
    other_new = seen_of other_new;
    left = left;
    other_left = other_left;
    is = λ intact other_intact held others one other. (
      (looks intact other_intact).2 held others one other,
      λ is_open. subst (λ now. IsStoreOf now held) (sym ((looks intact other_intact).0.now_is is_open)) one,
      λ is_open. subst (λ now. IsStoreOf now others) (sym ((looks intact other_intact).1.now_is is_open)) other,
      same_lasts old new (at.lasts stores.store.now) closes ready survives held one,
      same_lasts other_old other_new (at.lasts stores.other.now) other_closes other_ready other_survives others other,
    );
  }

  pub not_compared : (fault : Fault) (failure : Failure) → failure ≡ told_of fault
      → (HasCleanDisk new → HasCleanDisk other_new → StaysIfOpen old new × StaysIfOpen other_old other_new × IsFormedOfEither old other_old fault)
      → IsFound at stores.store.now (seen_of old) → IsFound at stores.other.now (seen_of other_old) → IsNotCompared at stores failure
  not_compared fault failure told looks found other_found =
      inr (inr (seen_of old, seen_of other_old, found, other_found, no_comparison at stores old new other_old other_new left other_left closes other_closes ready other_ready survives other_survives fault failure told looks))

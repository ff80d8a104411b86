-- What stands at paths, by what the files of a store held.
use Rattle.std.proofs.Common.{◌≡◌, ◌∙◌, ◌⊎◌, ap, sym, subst, ℕ, List, Result, Ok, Err, IfErr, IfOk, inl, inr}
use Rattle.sqlite_disk.specs.declared.Disk.{Ghosts}
use Rattle.sqlite_wal.specs.Recovery.{Image}
use Rattle.sqlite.specs.Effect.{Database}
use Rattle.sqlite.specs.Files.{AreFoundIn, file_state}
use Rattle.sqlite.specs.State.{HasCleanDisk}
use Rattle.sqlite_trees.specs.Tree.{Trees}
use Rattle.statements_facts.specs.declared.profile.Profile.{Profile}
use Rattle.store.specs.Adopts.{IsEmptyStoreOn}
use Rattle.store.specs.Opens.{IsTakenFrom}
use Rattle.store.specs.declared.handle.Store as handle
use Rattle.relying_verdicts.specs.declared.fault.Fault.TheVariants.{Store as OfStore}
use Rattle.store_sql.specs.declared.fault.StoreFault.{StoreFault}
use Rattle.store_sql.specs.declared.fault.StoreFault.TheVariants.{Store, Schema, Memory}
use Rattle.cli_failures.specs.declared.failure.Failure.{Failure}
use Rattle.cli_failures.specs.declared.failure.StoreRefusal.TheVariants as refused
use Rattle.cli_steps.specs.Keeping.{IsNotKept}
use Rattle.cli_store.specs.OnFiles.{IsFoundOn, IsHeldBy, IsTakenAs, places_on, stands_on}
use Rattle.cli_store.specs.Standing.{IsFound, IsFoundOrMade, IsNotFound, IsOfStore, MakesNoStore, seen_in, told_of}

-- ---- a store that was taken from files

module _ {D : Type 0} {g : Ghosts D} (profile : Profile) (image : Image) (path : List ℕ) where
  trees_found : (store : handle.Store D g) (it : IsTakenFrom profile image store.conn) → (file_state it.conn).now.trees ≡ (file_state it.conn).committed.trees
  trees_found store it = ap (λ (d : Database). d.trees) it.opened.0.clean

  held_by : (store : handle.Store D g) (it : IsTakenFrom profile image store.conn) → IsHeldBy image (file_state it.conn).now
  held_by store it = record {
    holds = λ trees has. trees_found store it ∙ it.found.holds trees has;
    reads = subst (AreFoundIn image) (sym (trees_found store it)) it.found.reads;
    sound = (it.opened.1 it.opened.0.is_open).0;
  }

  taken_as : (store : handle.Store D g) (it : IsTakenFrom profile image store.conn) → HasCleanDisk (file_state store.conn) → IsTakenAs (file_state it.conn).now (file_state store.conn).now
  taken_as store it clean = elim (it.was clean) [
    | inl is ↦ inl (it.unchanged clean (is.0, is.1)).0.now_is
    | inr is ↦ inr (is, it.migrated clean)
  ]

  found_in : (store : handle.Store D g) → IsFoundOn profile image store.conn → IsFound (places_on profile image) path (seen_in store)
  found_in store (from, is) =
      (λ intact. let it = from intact in ((file_state it.conn).now, held_by store it, taken_as store it intact), is)

  pub found : (result : Result (handle.Store D g) Failure) → IfOk result (λ store. IsFoundOn profile image store.conn)
      → IfOk result (λ store. IsFound (places_on profile image) path (seen_in store))
  found (Ok store) is = found_in store is
  found (Err failure) is = tt

  -- ---- or made

  made_in : (store : handle.Store D g) → IsEmptyStoreOn profile store.conn → IsFoundOrMade (places_on profile image) path (seen_in store)
  made_in store is = inr (inl tt, is)

  pub made : (result : Result (handle.Store D g) Failure) → IfOk result (λ store. IsEmptyStoreOn profile store.conn)
      → IfOk result (λ store. IsFoundOrMade (places_on profile image) path (seen_in store))
  made (Ok store) is = made_in store is
  made (Err failure) is = tt

  pub found_or_made : (result : Result (handle.Store D g) Failure) → IfOk result (λ store. IsFoundOn profile image store.conn ⊎ IsEmptyStoreOn profile store.conn)
      → IfOk result (λ store. IsFoundOrMade (places_on profile image) path (seen_in store))
  found_or_made (Ok store) (inl is) = inl (found_in store is)
  found_or_made (Ok store) (inr is) = made_in store is
  found_or_made (Err failure) is = tt

pub filled : {D : Type 0} {g : Ghosts D} (profile : Profile) (image : Image) (result : Result (handle.Store D g) Failure) → IfOk result (λ store. IsEmptyStoreOn profile store.conn)
    → IfOk result (λ store. IsFoundOn profile image store.conn ⊎ IsEmptyStoreOn profile store.conn)
filled profile image (Ok store) is = inr is
filled profile image (Err failure) is = tt

-- ---- no store

-- a fault of a store is told as one
pub told_of_store : (fault : StoreFault) (failure : Failure) → failure ≡ told_of (OfStore fault) → IsOfStore failure
told_of_store Store failure is = inr (refused.Store, is)
told_of_store Schema failure is = inr (refused.Schema, is)
told_of_store Memory failure is = inl is

pub of_store : {A : Type 0} (result : Result A Failure) → IfErr result IsNotKept → IfErr result IsOfStore
of_store (Ok store) fails = tt
of_store (Err failure) (inl is) = inl is
of_store (Err failure) (inr is) = inr (refused.Store, is)

module _ (image : Image) (path : List ℕ) where
  no_store_for : (failure : Failure) → IsOfStore failure → MakesNoStore (stands_on image) path failure
  no_store_for failure (inl is) = subst (MakesNoStore (stands_on image) path) (sym is) tt
  no_store_for failure (inr (why, is)) = subst (MakesNoStore (stands_on image) path) (sym is) tt

  not_found_for : (failure : Failure) → IsOfStore failure → IsNotFound (stands_on image) path failure
  not_found_for failure (inl is) = subst (IsNotFound (stands_on image) path) (sym is) tt
  not_found_for failure (inr (why, is)) = subst (IsNotFound (stands_on image) path) (sym is) tt

  pub no_store : {A : Type 0} (result : Result A Failure) → IfErr result IsOfStore → IfErr result (MakesNoStore (stands_on image) path)
  no_store (Ok store) fails = tt
  no_store (Err failure) fails = no_store_for failure fails

  pub not_found : {A : Type 0} (result : Result A Failure) → IfErr result IsOfStore → IfErr result (IsNotFound (stands_on image) path)
  not_found (Ok store) fails = tt
  not_found (Err failure) fails = not_found_for failure fails

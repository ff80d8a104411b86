-- Files that a close gave back, opened and read again.
use Rattle.std.proofs.Common.{◌≢◌, Ok, Err, IsTrue, sym, subst, ◌∙◌, arith}
use Rattle.sqlite_disk.specs.declared.Disk.{Ghosts}
use Rattle.sqlite_disk.specs.declared.Files.{Files}
use Rattle.sqlite_store.specs.declared.store.FileStore.{FileStore}
use Rattle.sqlite.specs.Held.{Held}
use Rattle.sqlite.specs.State.{HasCleanDisk}
use Rattle.sqlite.specs.Files.{file_state, Finds, IsOpened}
use Rattle.sqlite.specs.Closing.{IsCopied}
use Rattle.sqlite.specs.WalReads.{AreClean}
use Rattle.store_sql.specs.declared.fault.StoreFault.{StoreFault}
use Rattle.store_sql.specs.declared.fault.StoreFault.TheVariants.{Schema}
use Rattle.store_sql.specs.Statements.{CommitsNothing}
use Rattle.store_maps.specs.Held.{IsStoreOf}
use Rattle.statements_facts.specs.declared.profile.Profile.{Profile}
use Rattle.statements_facts.specs.Statement.{Holdings}
use Rattle.store_adoption.specs.Creates.{IsSettled}
use Rattle.store.specs.Adopts.{Adopts, Reopens, Restarts}

module _ {D : Type 0} {g : Ghosts D} (old opened again : Held (FileStore D g)) (files : Files D)
    (copied : AreClean g files.log files.db → IsCopied old files) (same : Reopens old files)
    (found : HasCleanDisk (file_state opened) → Finds files opened) (is_opened : HasCleanDisk (file_state opened) → IsOpened opened)
    (read : CommitsNothing (file_state opened) (file_state again)) where
  clean_before : HasCleanDisk (file_state again) → HasCleanDisk (file_state opened)
  clean_before clean = let step = read.clean in omega (arith, step, clean)

  pub restarts : (profile : Profile) → HasCleanDisk (file_state again) → Adopts (file_state opened) (file_state again) (Ok profile) → Restarts (file_state old) (file_state again)
  restarts profile clean adopts =
      let finds = found (clean_before clean) in
      let closed = copied finds.honest in
      record {
        was_clean = closed.was_clean;
        was_open = closed.was_open;
        is_open = adopts.0.0.is_open;
        holds = λ held it. subst (λ db. IsStoreOf db held) (sym adopts.0.0.now_is) (same opened finds (is_opened (clean_before clean)) held it);
      }

  -- what is not taken for a store again still holds what was held
  pub still_holds : (fault : StoreFault) → IsSettled (file_state opened) → IsSettled (file_state again)
      → (HasCleanDisk (file_state again) → Adopts (file_state opened) (file_state again) (Err fault))
      → HasCleanDisk (file_state again) → (held : Holdings) → IsStoreOf (file_state old).now held
      → (fault ≢ Schema) × (IsTrue (file_state again).is_open → IsStoreOf (file_state again).now held)
  still_holds fault settled_opened settled_again adopts clean held it =
      let was = same opened (found (clean_before clean)) (is_opened (clean_before clean)) held it in
      let h = adopts clean in (
        λ schema. h.1 schema held was,
        λ up. subst (λ db. IsStoreOf db held) (sym (settled_again up ∙ h.0.committed up ∙ sym (settled_opened (h.0.was_open up)))) was,
      )

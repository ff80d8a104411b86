-- What is opened on the files that a crash left.
use Rattle.std.proofs.Common.{◌≡◌, List, [], ◌∷◌, ap, sym, subst, ◌∙◌, inl, inr}
use Rattle.std.proofs.Math.Logic.{∥∥₁_map}
use Rattle.sqlite_disk.specs.declared.Disk.{Ghosts}
use Rattle.sqlite.specs.Effect.{Database}
use Rattle.sqlite.specs.Files.{file_state}
use Rattle.sqlite.proofs.Theorems.{next_run}
use Rattle.store_sql.specs.Tables.{store_schema}
use Rattle.statements_facts.specs.Statement.{Holdings}
use Rattle.store_maps.specs.Held.{IsStoreOf, AreTreesOf}
use Rattle.store_taking.specs.Delivery.{MayLeaveAfterCrash}
use Rattle.store.specs.Crash.{IsOneOf, OpenShowsWhatCrashLeft, StoreTreesAreAdopted, StoreTreesAreStore, TakenStoreHoldsWhatFilesHeld, TakenStoreSurvivesCrash}
use Rattle.store.proofs.Again.{store_schema_of_trees}

pub trees_are_store : {D : Type 0} {g : Ghosts D} → StoreTreesAreStore D g
trees_are_store conn held opened of =
    let it = of.1 in
    let live = (opened.1 opened.0.is_open).0 in
    let schema = store_schema_of_trees of.0 (file_state conn).now.schema (file_state conn).now.trees it.rows.sound live in
    let same : record { schema = store_schema of.0; trees = (file_state conn).now.trees } ≡ (file_state conn).now = (λ i. record { schema = sym schema i; trees = (file_state conn).now.trees }) in
    subst (λ (d : Database). IsStoreOf d held) same it

pub trees_are_adopted : {D : Type 0} {g : Ghosts D} → StoreTreesAreAdopted D g
trees_are_adopted conn adopted held opened of keeps clean =
    let it = trees_are_store conn held opened of in
    subst (λ (d : Database). IsStoreOf d held) (sym (keeps clean (held, it)).0.now_is) it

pub holds_what_files_held : {D : Type 0} {g : Ghosts D} → TakenStoreHoldsWhatFilesHeld D g
holds_what_files_held profile image store trees held has of taken clean =
    let shown : (file_state taken.conn).now.trees ≡ trees = ap (λ (d : Database). d.trees) taken.opened.0.clean ∙ taken.found.holds trees has in
    trees_are_adopted taken.conn store held taken.opened (subst (AreTreesOf held) (sym shown) of) taken.unchanged clean

pub shows_what_crash_left : {D E : Type 0} {g : Ghosts D} {h : Ghosts E} → OpenShowsWhatCrashLeft D E g h
shows_what_crash_left old image conn after found opened =
    ∥∥₁_map (next_run old.store (after.connected.numbered after.clean) (after.connected.found after.clean) image after.left (file_state conn) found)
    (λ may. subst (MayLeaveAfterCrash (file_state old)) (ap (λ (d : Database). d.trees) (sym opened.0.clean)) may)

pub survives_crash : {D E : Type 0} {g : Ghosts D} {h : Ghosts E} → TakenStoreSurvivesCrash D E g h
survives_crash old profile image store left after leaves taken clean =
    ∥∥₁_map (shows_what_crash_left old image taken.conn after taken.found taken.opened) (λ may. hold left (leaves (file_state taken.conn).now.trees may))
  where
    hold : (left : List Holdings) → IsOneOf (λ held. AreTreesOf held (file_state taken.conn).now.trees) left → IsOneOf (λ held. IsStoreOf (file_state store).now held) left
    hold [] none = none
    hold (held ∷ others) (inl of) = inl (trees_are_adopted taken.conn store held taken.opened of taken.unchanged clean)
    hold (held ∷ others) (inr of) = inr (hold others of)

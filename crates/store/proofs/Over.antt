-- A database that is taken over is of one version alone.
use Rattle.std.proofs.Common.{◌≡◌, ◌≢◌, ◌⊎◌, Result, Ok, Err, OnOk, IsTrue, sym, ap, subst, ◌∙◌, inl, inr}
use Rattle.sqlite.specs.Effect.{Database}
use Rattle.sqlite.specs.State.{State, IsUnchanged, KeepsCommit, Survives}
use Rattle.sqlite.proofs.StateLemmas.{survives_weaker}
use Rattle.statements_facts.specs.declared.profile.Profile.{Profile}
use Rattle.statements_facts.specs.declared.profile.Profile.TheVariants.{Stated}
use Rattle.statements_facts.specs.Statement.{Holdings}
use Rattle.store_sql.specs.declared.fault.StoreFault.{StoreFault}
use Rattle.store_sql.specs.Tables.{version_1_schema}
use Rattle.store_maps.specs.Held.{IsStoreOf}
use Rattle.store_adoption.specs.Inspects.{Checks, Inspects, TablesAreInOrder, IsStore, IsStoreUnder}
use Rattle.store_adoption.specs.Version1.{IsVersion1Of}
use Rattle.store_adoption.proofs.Laws.{not_version_1, order_of_store}
use Rattle.store_migration.specs.Migrates.{IsMigrated, LeavesMigrated, MayLeaveMigrated, Migrates}
use Rattle.store.specs.Adopts.{Adopts, IsMigratedFrom, IsNoStore, IsTakenOver, TakesOver, TakesOverInOrder, TakesOverOrdered}

other : (db : Database) (held : Holdings) → db.schema ≡ version_1_schema → IsStoreOf db held → ⊥
other db held has it = not_version_1 it.origin (sym it.rows.schema_is ∙ has)

-- version 1 is of the stated profile
of_version_1 : (db : Database) (held : Holdings) → IsVersion1Of db held → held.profile ≡ Stated
of_version_1 db held it = ap (λ (h : Holdings). h.profile) (sym it.held_is)

migrated_over : (old new : State) → old.now.schema ≡ version_1_schema → TablesAreInOrder old.now → IsMigrated old new → IsTakenOver Stated old new
migrated_over old new has ordered m =
    let was = m.version_1 ordered in
    record {
      was_open = m.was_open;
      was = inr was;
      store = (was.0, m.held was.0 was.1, of_version_1 old.now was.0 was.1);
      is_open = m.is_open;
      unchanged = λ it. absurd (other old.now it.0 has it.1);
      migrated = m.held;
    }

migration_fails : (old new : State) (fault : StoreFault) → old.now.schema ≡ version_1_schema → KeepsCommit old new × (fault ≡ StoreFault.Schema → (held : Holdings) → IsVersion1Of old.now held → ⊥)
    → KeepsCommit old new × (fault ≡ StoreFault.Schema → IsNoStore Stated old.now)
migration_fails old new fault has h = (h.0, λ ours held of it. refused ours held it)
  where
    refused : fault ≡ StoreFault.Schema → (held : Holdings) → IsStoreOf old.now held ⊎ IsVersion1Of old.now held → ⊥
    refused ours held (inl it) = other old.now held has it
    refused ours held (inr it) = h.1 ours held it

adopted_over : (profile : Profile) (old new : State) → IsUnchanged old new × IsStoreUnder profile new.now → IsTakenOver profile old new
adopted_over profile old new h =
    let was = subst (IsStoreUnder profile) h.0.0.now_is h.1 in
    record {
      was_open = h.0.0.was_open;
      was = inl was;
      store = h.1;
      is_open = h.0.0.is_open;
      unchanged = λ it. h.0;
      migrated = λ held it. absurd (other old.now was.0 it.rows.schema_is was.1);
    }

adoption_fails : (profile : Profile) (old new : State) (fault : StoreFault) → (profile ≡ Stated → old.now.schema ≢ version_1_schema)
    → KeepsCommit old new × (fault ≡ StoreFault.Schema → (held : Holdings) → IsStoreOf old.now held → held.profile ≡ profile → ⊥)
    → KeepsCommit old new × (fault ≡ StoreFault.Schema → IsNoStore profile old.now)
adoption_fails profile old new fault far h = (h.0, λ ours held of it. refused ours held of it)
  where
    refused : fault ≡ StoreFault.Schema → (held : Holdings) → held.profile ≡ profile → IsStoreOf old.now held ⊎ IsVersion1Of old.now held → ⊥
    refused ours held of (inl it) = h.1 ours held it of
    refused ours held of (inr it) = far (sym of ∙ of_version_1 old.now held it) it.rows.schema_is

-- ---- whatever the answer of the call is

pub migrates_over : {A : Type 0} (profile : Profile) (old new : State) (result : Result A StoreFault) → profile ≡ Stated → old.now.schema ≡ version_1_schema → Migrates old new result → TakesOverOrdered profile old new result
migrates_over profile old new (Ok done) of has m = (m.was_open, λ ordered. subst (λ p. IsTakenOver p old new) (sym of) (migrated_over old new has ordered m))
migrates_over profile old new (Err fault) of has h = subst (λ p. KeepsCommit old new × (fault ≡ StoreFault.Schema → IsNoStore p old.now)) (sym of) (migration_fails old new fault has h)

pub inspects_over : {A : Type 0} (profile : Profile) (old new : State) (result : Result A StoreFault) → (profile ≡ Stated → old.now.schema ≢ version_1_schema)
    → Checks old new (λ done. IsStoreUnder profile) (IsStoreUnder profile) result → TakesOverOrdered profile old new result
inspects_over profile old new (Ok done) far h = (h.0.0.was_open, λ ordered. adopted_over profile old new (h.0, subst (IsStoreUnder profile) (sym h.0.0.now_is) (h.1 ordered)))
inspects_over profile old new (Err fault) far h = adoption_fails profile old new fault far (h.0, λ ours held it of. h.1 ours (order_of_store _ (held, it)) (held, it, of))

-- ---- an open connection whose rows stand in order

module _ (old new : State) (result : Result Profile StoreFault) (ordered : IsTrue old.is_open → TablesAreInOrder old.now) where
  pub adopts : Inspects old new result → Adopts old new result
  adopts = cases result
    where
      cases : (result : Result Profile StoreFault) → Inspects old new result → Adopts old new result
      cases (Ok profile) h = (h.0, subst (IsStoreUnder profile) (sym h.0.0.now_is) (h.1 (ordered h.0.0.was_open)))
      cases (Err fault) h = (h.0, λ ours held it. h.1 ours (order_of_store _ (held, it)) (held, it))

module _ {A : Type 0} (profile : Profile) (old new : State) (result : Result A StoreFault) (ordered : IsTrue old.is_open → TablesAreInOrder old.now) where
  pub takes_over : TakesOverOrdered profile old new result → TakesOver profile old new result
  takes_over = cases result
    where
      cases : (result : Result A StoreFault) → TakesOverOrdered profile old new result → TakesOver profile old new result
      cases (Ok done) h = h.1 (ordered h.0)
      cases (Err fault) h = h

  pub leaves_version_2 : TakesOverInOrder profile old new result → MayLeaveMigrated old new → OnOk result (Survives old new (IsMigratedFrom old))
  leaves_version_2 = cases result
    where
      cases : (result : Result A StoreFault) → TakesOverInOrder profile old new result → MayLeaveMigrated old new → OnOk result (Survives old new (IsMigratedFrom old))
      cases (Ok done) takes crash = survives_weaker old new (LeavesMigrated old) (IsMigratedFrom old) (λ clean db leaves. (leaves.0 (ordered (takes clean).0), leaves.1)) crash
      cases (Err fault) takes crash = tt

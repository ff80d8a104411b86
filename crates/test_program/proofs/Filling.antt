-- Statements that are put into a store, one after the other.
use Rattle.std.proofs.Common.{◌≡◌, ◌≢◌, ◌∙◌, refl, sym, subst, List, [], ◌∷◌, Result, Ok, Err, IfErr, IfOk, OnOk}
use Rattle.sqlite.specs.Effect.{Database}
use Rattle.sqlite.specs.Files.{file_state}
use Rattle.sqlite_disk.specs.declared.Disk.{Ghosts}
use Rattle.statements_facts.specs.Coming.{after_all}
use Rattle.statements_facts.specs.Fact.{facts_in}
use Rattle.statements_facts.specs.Statement.{Holdings}
use Rattle.statements_facts.specs.declared.fact.Facts.{Facts}
use Rattle.statements_facts.specs.declared.profile.Profile.{Profile}
use Rattle.statements_facts.proofs.Laws.{holds_newest}
use Rattle.store.specs.declared.handle.Store.{Store}
use Rattle.store_adoption.specs.Inspects.{IsStoreUnder}
use Rattle.store_maps.specs.Held.{IsStoreOf}
use Rattle.store_sql.specs.declared.fault.StoreFault.{StoreFault}
use Rattle.store_sql.specs.declared.fault.StoreFault.TheVariants.{Schema}
use Rattle.test_program.specs.Shelves.{after_these}

-- one, and then the others
pub filled_more : {E : Type 0} (result : Result (Unit {0}) E) (rows others : List Facts) (first : Facts) (old mid new : Database) → rows ≡ first ∷ others
    → ((held : Holdings) → IsStoreOf old held → IsStoreOf mid (after_all held (facts_in first)))
    → OnOk result ((held : Holdings) → IsStoreOf mid held → IsStoreOf new (after_these held others))
    → OnOk result ((held : Holdings) → IsStoreOf old held → IsStoreOf new (after_these held rows))
filled_more (Ok x) rows others first old mid new is one more =
    λ held stands. subst (λ (all : List Facts). IsStoreOf new (after_these held all)) (sym is) (more (after_all held (facts_in first)) (one held stands))
filled_more (Err e) rows others first old mid new is one more = tt

pub fails_later : {T : Type 0} (result : Result T StoreFault) (first : Facts) (old mid : Database)
    → ((held : Holdings) → IsStoreOf old held → IsStoreOf mid (after_all held (facts_in first)))
    → IfErr result (λ fault. (held : Holdings) → IsStoreOf mid held → fault ≢ Schema)
    → IfErr result (λ fault. (held : Holdings) → IsStoreOf old held → fault ≢ Schema)
fails_later (Ok x) first old mid one later = tt
fails_later (Err fault) first old mid one later = λ held stands. later (after_all held (facts_in first)) (one held stands)

-- a store that holds what another held
pub holds_still : {D E : Type 0} {g : Ghosts D} (result : Result (Store D g) E) (db : Database) (held : Holdings) → IsStoreOf db held
    → IfOk result (λ store. (other : Holdings) → IsStoreOf db other → IsStoreOf (file_state store.conn).now other)
    → IfOk result (λ store. IsStoreOf (file_state store.conn).now held)
holds_still (Ok store) db held stands still = still held stands
holds_still (Err e) db held stands still = tt

-- statements leave the profile
pub profile_stays : (held : Holdings) (rows : List Facts) → (after_these held rows).profile ≡ held.profile
profile_stays held [] = refl
profile_stays held (facts ∷ others) = profile_stays (after_all held (facts_in facts)) others ∙ (holds_newest held (facts_in facts)).profile

pub is_of_profile : {D E : Type 0} {g : Ghosts D} (profile : Profile) (result : Result (Store D g) E) (db : Database) (held : Holdings) → held.profile ≡ profile → IsStoreOf db held
    → IfOk result (λ store. (other : Holdings) → IsStoreOf db other → IsStoreOf (file_state store.conn).now other)
    → IfOk result (λ store. IsStoreUnder profile (file_state store.conn).now)
is_of_profile profile (Ok store) db held is stands still = (held, still held stands, is)
is_of_profile profile (Err e) db held is stands still = tt

pub fails_still : {T : Type 0} (result : Result T StoreFault) (db : Database) (held : Holdings) → IsStoreOf db held
    → IfErr result (λ fault. (other : Holdings) → IsStoreOf db other → fault ≢ Schema) → IfErr result (λ fault. fault ≢ Schema)
fails_still (Ok x) db held stands fails = tt
fails_still (Err fault) db held stands fails = fails held stands

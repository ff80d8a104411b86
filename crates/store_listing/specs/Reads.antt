-- What a reading of a store's tables answers.
use Rattle.std.specs.Prelude.{◌≡◌, ℕ, map, Result, Ok, Err}
use Rattle.std.specs.Global.{Vec}
use Rattle.std.specs.BTreeMap.{BTreeMap}
use Rattle.sqlite.specs.Effect.{Database}
use Rattle.sqlite.specs.Held.{Held, state}
use Rattle.sqlite.specs.State.{State, HasCleanDisk, IsUnchanged, KeepsCommit}
use Rattle.sqlite_trees.specs.declared.store.Store.{Ghosts}
use Rattle.store_sql.specs.declared.origin.Origin.{Origin}
use Rattle.store_sql.specs.declared.fault.StoreFault.{StoreFault}
use Rattle.store_sql.specs.declared.fault.StoreFault.TheVariants.{Schema}
use Rattle.store_rows.specs.Contents.{EntryRow, Contents}
use Rattle.store_rows.specs.Holding.{HasContents, AreInForm}
use Rattle.store_maps.specs.Held.{IsOwned}
use Rattle.store_listing.specs.declared.held.HeldIssuer.{HeldIssuer}
use Rattle.store_listing.specs.declared.held.HeldList.{HeldList}
use Rattle.store_listing.specs.declared.held.HeldSingle.{HeldSingle}
use Rattle.store_listing.specs.declared.counted.KeyedHead.{KeyedHead}
use Rattle.store_listing.specs.Counts.{AreCounted, list_number}
use Rattle.store_listing.specs.Listing.{seen_held_issuer, seen_keyed, seen_held_list, seen_held_single, stored_head, listed_crl, listed_single}

-- the database is that of a store, and these are its rows
pub record IsStoreWith (db : Database) (it : Contents) : Type 0 where
  pub origin : Origin
  pub rows : HasContents db origin it
  pub form : AreInForm it
  pub owned : IsOwned it

-- nothing changes, and what is answered is this of a store's rows; or a fault, which is never for the rows of a store
abbrev pub ReadsStore : {A : Type 0} → State → State → (Contents → A → Type 0) → Result A StoreFault → Type 0
ReadsStore old new Is (Ok answer) = IsUnchanged old new × ((it : Contents) → IsStoreWith old.now it → Is it answer)
ReadsStore old new Is (Err fault) = KeepsCommit old new × (fault ≡ Schema → (it : Contents) → IsStoreWith old.now it → ⊥)

-- the same of a call on a connection, if the disk has returned what was written
abbrev pub ReadsOf : {S A : Type 0} → Ghosts S → Held S → Held S → (Contents → A → Type 0) → Result A StoreFault → Type 0
ReadsOf g old new Is result = HasCleanDisk (state g new) → ReadsStore (state g old) (state g new) Is result

-- ---- table by table

abbrev pub AreIssuers : Contents → Vec HeldIssuer → Type 0
AreIssuers it issuers = map seen_held_issuer issuers.items ≡ it.issuers

abbrev pub number_of_entry : EntryRow → ℕ
number_of_entry entry = list_number entry.issuer entry.scope

abbrev pub CountsEntries : Contents → BTreeMap ℕ ℕ → Type 0
CountsEntries it counts = AreCounted counts (map number_of_entry it.entries)

abbrev pub AreHeads : Contents → Vec KeyedHead → Type 0
AreHeads it heads = map seen_keyed heads.items ≡ map stored_head it.crls

abbrev pub AreLists : Contents → Vec HeldList → Type 0
AreLists it lists = map seen_held_list lists.items ≡ map (listed_crl it.entries) it.crls

abbrev pub AreSingles : Contents → Vec HeldSingle → Type 0
AreSingles it singles = map seen_held_single singles.items ≡ map listed_single it.singles

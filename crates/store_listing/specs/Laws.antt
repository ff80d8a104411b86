-- The listing beside what is held.
use Rattle.std.specs.Prelude.{⊤, ◌≡◌, ◌&&◌, ◌==◌, ◌<◌, ℕ, Bool, List, length, Option, Some, None, option_map, option_and_then, find, Contains, Result, IfOk}
use Rattle.std.specs.Str.{bytes_eq}
use Rattle.sqlite.specs.Effect.{Database}
use Rattle.sqlite.specs.Held.{Held, state}
use Rattle.sqlite.specs.State.{HasCleanDisk}
use Rattle.sqlite_trees.specs.declared.store.Store.{Ghosts}
use Rattle.store_sql.specs.declared.fault.StoreFault.{StoreFault}
use Rattle.sqlite_trees.specs.Tree.{IsAscending}
use Rattle.statements_facts.specs.declared.scope.Scope.{Scope}
use Rattle.statements_facts.specs.Listed.{ListedSerial, first_reason}
use Rattle.statements_facts.specs.Statement.{CrlSlot, CrlFact, OcspSlot, Holdings}
use Rattle.store_rows.specs.Contents.{IssuerRow, Contents, id_of, scope_number}
use Rattle.store_rows.specs.Places.{IsBelow}
use Rattle.store_maps.specs.Held.{IsStoreOf}
use Rattle.store_listing.specs.declared.held.Listing.{Listing}
use Rattle.store_listing.specs.Listing.{Overview, ListedCrl, ListedSingle, overview_of, seen_listing}
use Rattle.store_listing.specs.Reads.{IsStoreWith}

-- ---- look-ups in a listing

abbrev pub is_list_of : ℕ → Scope → ListedCrl → Bool
is_list_of issuer scope list = (list.issuer == issuer) && (scope_number list.scope == scope_number scope)

-- what it lists in the slot of a list
abbrev pub crl_listed : Overview → CrlSlot → Option ListedCrl
crl_listed all slot = option_and_then (λ id. find (is_list_of id slot.scope) all.lists) (id_of all.issuers slot.issuer)

abbrev pub is_about : ℕ → List ℕ → List ℕ → ListedSingle → Bool
is_about issuer name_hash serial listed = (listed.issuer == issuer) && (bytes_eq listed.single.name_hash name_hash && bytes_eq listed.single.serial serial)

-- and in that of a certificate
abbrev pub single_listed : Overview → OcspSlot → Option ListedSingle
single_listed all slot = option_and_then (λ id. find (is_about id slot.name_hash slot.serial) all.singles) (id_of all.issuers slot.issuer)

-- ---- the laws

-- the list has this number and window, and revokes as many serial numbers as are counted
pub record IsListedAs (fact : CrlFact) (list : ListedCrl) : Type 0 where
  pub number : fact.number ≡ list.head.number
  pub window : fact.window ≡ list.head.window
  pub revoked : List ListedSerial
  pub reasons : fact.reasons ≡ first_reason revoked
  pub ascend : IsAscending IsBelow revoked
  pub count : length revoked ≡ list.entries

-- both are there, or neither
abbrev pub AreListedAs : Option CrlFact → Option ListedCrl → Type 0
AreListedAs None None = ⊤
AreListedAs None (Some list) = ⊥
AreListedAs (Some fact) None = ⊥
AreListedAs (Some fact) (Some list) = IsListedAs fact list

-- slot by slot the listing shows what is held, and nothing where nothing is held
pub record ShowsHeld (held : Holdings) (all : Overview) : Type 0 where
  pub crl : (slot : CrlSlot) → AreListedAs (held.crl slot) (crl_listed all slot)
  pub ocsp : (slot : OcspSlot) → held.ocsp slot ≡ option_map (λ listed. listed.single.fact) (single_listed all slot)

-- the listing of a store shows what the store holds
abbrev pub ListingShowsHeld : Type 0
ListingShowsHeld = (db : Database) (held : Holdings) → IsStoreOf db held → (it : Contents) × IsStoreWith db it × ShowsHeld held (overview_of it)

-- Nothing is listed twice: the ids of issuers rise, and what stands under the id of an issuer that is listed is what its slot shows.
pub record ListsOnce (all : Overview) : Type 0 where
  pub rise : IsAscending (λ one other. one.id < other.id) all.issuers
  pub issuers : (row : IssuerRow) → Contains all.issuers row → id_of all.issuers row.identity ≡ Some row.id
  pub lists : (row : IssuerRow) (list : ListedCrl) → Contains all.issuers row → Contains all.lists list → list.issuer ≡ row.id → crl_listed all (record { issuer = row.identity; scope = list.scope }) ≡ Some list
  pub singles : (row : IssuerRow) (listed : ListedSingle) → Contains all.issuers row → Contains all.singles listed → listed.issuer ≡ row.id
      → single_listed all (record { issuer = row.identity; name_hash = listed.single.name_hash; serial = listed.single.serial }) ≡ Some listed

abbrev pub ListingListsOnce : Type 0
ListingListsOnce = (db : Database) (it : Contents) → IsStoreWith db it → ListsOnce (overview_of it)

-- ---- as the code has it

-- where the database is that of a store, the listing shows what is held, and nothing twice
abbrev pub ShowsStore : Database → Listing → Type 0
ShowsStore db all = (held : Holdings) → IsStoreOf db held → ShowsHeld held (seen_listing all) × ListsOnce (seen_listing all)

-- the same of a call on a connection, if the disk has returned what was written
abbrev pub ShowsStoreOf : {S : Type 0} → Ghosts S → Held S → Held S → Result Listing StoreFault → Type 0
ShowsStoreOf g old new result = HasCleanDisk (state g new) → IfOk result (ShowsStore (state g old).now)

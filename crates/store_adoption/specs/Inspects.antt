-- What the one reading of all rows says of a database.
use Rattle.std.specs.Prelude.{◌≡◌, ◌≢◌, ◌⊎◌, ◌≤◌, ℕ, List, [], ◌∷◌, map, length, None, Result, Ok, Err, IfErr}
use Rattle.std.specs.List.{AllByRecursion}
use Rattle.sqlite.specs.Order.{Row, column}
use Rattle.sqlite.specs.Effect.{Database}
use Rattle.sqlite.specs.Schema.{Schema as TheSchema}
use Rattle.sqlite.specs.Held.{Held, state}
use Rattle.sqlite.specs.State.{State, HasCleanDisk, IsUnchanged, KeepsCommit}
use Rattle.sqlite_trees.specs.declared.store.Shape.TheVariants.{Table}
use Rattle.sqlite_trees.specs.declared.store.Store.{Ghosts}
use Rattle.sqlite_trees.specs.View.{IsShaped}
use Rattle.statements_facts.specs.declared.profile.Profile.{Profile}
use Rattle.statements_facts.specs.Statement.{Holdings}
use Rattle.store_sql.specs.Cause.{MayRefuse}
use Rattle.store_sql.specs.declared.origin.Origin.{Origin}
use Rattle.store_sql.specs.declared.fault.StoreFault.{StoreFault}
use Rattle.store_sql.specs.declared.fault.StoreFault.TheVariants.{Store, Schema}
use Rattle.store_sql.specs.Tables.{version_1_schema, store_schema, crls_tree, entries_tree}
use Rattle.store_rows.specs.Contents.{version_number}
use Rattle.store_maps.specs.Held.{IsStoreOf}
use Rattle.store_adoption.specs.Version1.{UnscopedCrl, UnscopedEntry, IsVersion1, HasLists}
use Rattle.store_adoption.specs.Cells.{IsVersionCells, IsIssuerCells, IsUnscopedCrlCells, IsUnscopedEntryCells, unscoped_crl_in, unscoped_entry_in, next_after, IsCrlCells, IsSingleCells, IsEntryCells, AreChained, entry_of_row}

-- the rows of each table stand in the order of their ids
pub record InOrder (origin : Origin) (db : Database) : Type 0 where
  pub versions : IsShaped Table (db.trees 0)
  pub issuers : IsShaped Table (db.trees 1)
  pub singles : IsShaped Table (db.trees 3)
  pub crls : IsShaped Table (db.trees (crls_tree origin))
  pub entries : IsShaped Table (db.trees (entries_tree origin))

-- the same of version 1
pub record InOrderOfVersion1 (db : Database) : Type 0 where
  pub versions : IsShaped Table (db.trees 0)
  pub issuers : IsShaped Table (db.trees 1)
  pub singles : IsShaped Table (db.trees 3)
  pub crls : IsShaped Table (db.trees 5)
  pub entries : IsShaped Table (db.trees 6)

pub record TablesAreInOrder (db : Database) : Type 0 where
  pub version_1 : db.schema ≡ version_1_schema → InOrderOfVersion1 db
  pub version_2 : (origin : Origin) → db.schema ≡ store_schema origin → InOrder origin db

-- the tables are others than those of version 2, or of version 1
abbrev pub LacksVersion2 : Database → Type 0
LacksVersion2 db = (origin : Origin) → db.schema ≢ store_schema origin

abbrev pub LacksVersion1 : Database → Type 0
LacksVersion1 db = db.schema ≢ version_1_schema

-- the database is that of a store
abbrev pub IsStore : Database → Type 0
IsStore db = (held : Holdings) × IsStoreOf db held

-- of one of this profile
abbrev pub IsStoreUnder : Profile → Database → Type 0
IsStoreUnder profile db = (held : Holdings) × IsStoreOf db held × (held.profile ≡ profile)

-- nothing changes, and this holds; or a fault, which is for the rows only where that does not hold
abbrev pub Checks : {A : Type 0} → State → State → (A → Database → Type 0) → (Database → Type 0) → Result A StoreFault → Type 0
Checks old new P Q (Ok answer) = IsUnchanged old new × (TablesAreInOrder old.now → P answer old.now)
Checks old new P Q (Err fault) = KeepsCommit old new × (fault ≡ Schema → TablesAreInOrder old.now → Q old.now → ⊥)

-- what is answered are the lists of a database of version 1, and their entries
abbrev pub ReadsVersion1 : {A : Type 0} → State → State → (A → List UnscopedCrl) → (A → List UnscopedEntry) → Result A StoreFault → Type 0
ReadsVersion1 old new crls entries result = Checks old new (λ lists. HasLists (crls lists) (entries lists)) IsVersion1 result

-- what is answered is the profile of a store
abbrev pub Inspects : State → State → Result Profile StoreFault → Type 0
Inspects old new result = Checks old new IsStoreUnder IsStore result

-- a table has as many rows as a reading counts
abbrev pub HasTooMany : Database → Type 0
HasTooMany db = (tree : ℕ) × (18446744073709551615 ≤ length (db.trees tree))

-- the fault `Store` has a cause
abbrev pub CheckIsCaused : State → State → StoreFault → Type 0
CheckIsCaused old new fault = fault ≡ Store → TablesAreInOrder old.now → MayRefuse old new ⊎ HasTooMany old.now

-- ---- the same of a call on a connection, if the disk has returned what was written

abbrev pub ChecksForCause : {S A : Type 0} → Ghosts S → Held S → Held S → Result A StoreFault → Type 0
ChecksForCause g old new result = HasCleanDisk (state g new) → IfErr result (CheckIsCaused (state g old) (state g new))

abbrev pub ChecksOn : {S A : Type 0} → Ghosts S → Held S → Held S → (A → Database → Type 0) → (Database → Type 0) → Result A StoreFault → Type 0
ChecksOn g old new P Q result = HasCleanDisk (state g new) → Checks (state g old) (state g new) P Q result

-- where nothing is read beside
abbrev pub ChecksThat : {S A : Type 0} → Ghosts S → Held S → Held S → (Database → Type 0) → Result A StoreFault → Type 0
ChecksThat g old new P result = ChecksOn g old new (λ done. P) P result

-- what is answered is shown beside
abbrev pub ReadsOn : {S A : Type 0} → Ghosts S → Held S → Held S → (Database → Type 0) → (A → Database → Type 0) → Result A StoreFault → Type 0
ReadsOn g old new P IsShown result = ChecksOn g old new (λ answer db. P db × IsShown answer db) P result

abbrev pub ReadsVersion1On : {S A : Type 0} → Ghosts S → Held S → Held S → (A → List UnscopedCrl) → (A → List UnscopedEntry) → Result A StoreFault → Type 0
ReadsVersion1On g old new crls entries result = HasCleanDisk (state g new) → ReadsVersion1 (state g old) (state g new) crls entries result

abbrev pub InspectsOn : {S : Type 0} → Ghosts S → Held S → Held S → Result Profile StoreFault → Type 0
InspectsOn g old new result = HasCleanDisk (state g new) → Inspects (state g old) (state g new) result

abbrev pub HasSchema : {S : Type 0} → Ghosts S → Held S → TheSchema → Type 0
HasSchema g conn schema = HasCleanDisk (state g conn) → (state g conn).now.schema ≡ schema

-- ---- table by table, as the rows are shown

abbrev pub version_cells : Row → Row
version_cells row = column row 0 ∷ column row 2 ∷ []

abbrev pub HasVersion : ℕ → Database → Type 0
HasVersion version db = AllByRecursion (IsVersionCells version) (map version_cells (db.trees 0)) × (length (map version_cells (db.trees 0)) ≡ 1)

-- the version of the tables of a profile
abbrev pub HasVersionOf : Profile → Database → Type 0
HasVersionOf profile = HasVersion (version_number profile)

abbrev pub HasProfile : Database → Type 0
HasProfile db = (profile : Profile) × HasVersionOf profile db

abbrev pub issuer_cells : Row → Row
issuer_cells row = column row 0 ∷ []

abbrev pub HasIssuers : Database → Type 0
HasIssuers db = AllByRecursion IsIssuerCells (map issuer_cells (db.trees 1))

abbrev pub HasNext : ℕ → Database → Type 0
HasNext next db = next_after (map issuer_cells (db.trees 1)) ≡ next

abbrev pub HasVersionAndIssuers : ℕ → Database → Type 0
HasVersionAndIssuers version db = HasVersion version db × HasIssuers db

abbrev pub HasIds : ℕ → ℕ → Database → Type 0
HasIds version next db = HasVersion version db × HasIssuers db × HasNext next db

abbrev pub crl_columns : Row → Row
crl_columns row = column row 1 ∷ column row 2 ∷ column row 3 ∷ []

abbrev pub HasCrls : Origin → ℕ → Database → Type 0
HasCrls origin next db = AllByRecursion (IsCrlCells next) (map crl_columns (db.trees (crls_tree origin)))

abbrev pub single_cells : Row → Row
single_cells row = column row 1 ∷ column row 8 ∷ column row 9 ∷ []

abbrev pub HasSingles : ℕ → Database → Type 0
HasSingles next db = AllByRecursion (IsSingleCells next) (map single_cells (db.trees 3))

-- what stands under the ids of issuers
abbrev pub HasCrlsAndSingles : Origin → ℕ → Database → Type 0
HasCrlsAndSingles origin next db = HasCrls origin next db × HasSingles next db

abbrev pub entry_cells : Row → Row
entry_cells row = column row 0 ∷ column row 2 ∷ column row 3 ∷ column row 4 ∷ column row 5 ∷ []

abbrev pub HasEntries : Origin → Database → Type 0
HasEntries origin db = AllByRecursion IsEntryCells (map entry_cells (db.trees (entries_tree origin))) × AreChained None (map entry_of_row (map entry_cells (db.trees (entries_tree origin))))

-- issuers, and what stands under their ids
pub record HasHeads (origin : Origin) (db : Database) : Type 0 where
  pub issuers : HasIssuers db
  pub crls : HasCrls origin (next_after (map issuer_cells (db.trees 1))) db
  pub singles : HasSingles (next_after (map issuer_cells (db.trees 1))) db

-- all rows but that of the version
abbrev pub HasRows : Origin → Database → Type 0
HasRows origin db = HasHeads origin db × HasEntries origin db

-- ---- the same of version 1

abbrev pub unscoped_crl_cells : Row → Row
unscoped_crl_cells row = column row 0 ∷ column row 2 ∷ column row 3 ∷ column row 4 ∷ []

abbrev pub HasUnscopedCrls : ℕ → Database → Type 0
HasUnscopedCrls next db = AllByRecursion (IsUnscopedCrlCells next) (map unscoped_crl_cells (db.trees 5))

abbrev pub ShowsCrls : List UnscopedCrl → Database → Type 0
ShowsCrls crls db = crls ≡ map unscoped_crl_in (map unscoped_crl_cells (db.trees 5))

abbrev pub unscoped_entry_cells : Row → Row
unscoped_entry_cells row = column row 1 ∷ column row 2 ∷ column row 3 ∷ []

abbrev pub HasUnscopedEntries : ℕ → Database → Type 0
HasUnscopedEntries next db = AllByRecursion (IsUnscopedEntryCells next) (map unscoped_entry_cells (db.trees 6))

abbrev pub ShowsEntries : List UnscopedEntry → Database → Type 0
ShowsEntries entries db = entries ≡ map unscoped_entry_in (map unscoped_entry_cells (db.trees 6))

-- lists and entries stand under ids below the next
abbrev pub HasListsUnder : ℕ → Database → Type 0
HasListsUnder next db = HasUnscopedCrls next db × HasUnscopedEntries next db

abbrev pub ShowsLists : List UnscopedCrl → List UnscopedEntry → Database → Type 0
ShowsLists crls entries db = ShowsCrls crls db × ShowsEntries entries db

abbrev pub HasUnder : ℕ → Database → Type 0
HasUnder next db = HasSingles next db × HasListsUnder next db

-- What a database of version 1 holds. Its lists are for all certificates: an issuer has one, which stands under the issuer's id, and so
-- do its entries.
use Rattle.std.specs.Prelude.{◌≡◌, ◌<◌, ◌<ℤ◌, ◌==◌, ℕ, ℤ, pos, List, [], ◌∷◌, map, filter, find, Option, None, option_map, option_and_then}
use Rattle.std.specs.List.{AllByRecursion}
use Rattle.sqlite.specs.declared.types.Value.TheVariants.{Null, Int}
use Rattle.sqlite.specs.Order.{Row}
use Rattle.sqlite.specs.Effect.{Database, IsDatabase}
use Rattle.sqlite_trees.specs.Tree.{IsAscending}
use Rattle.statements_facts.specs.declared.profile.Profile.TheVariants.{Stated}
use Rattle.statements_facts.specs.declared.scope.Scope.{Scope}
use Rattle.statements_facts.specs.declared.scope.Scope.TheVariants.{All, User, Ca}
use Rattle.statements_facts.specs.Listed.{ListedSerial, first_reason}
use Rattle.statements_facts.specs.Statement.{CrlFact, Holdings}
use Rattle.store_sql.specs.Tables.{version_1_schema}
use Rattle.store_rows.specs.Contents.{IssuerRow, SingleRow, CrlHead, Contents, id_of, issuer_row, single_row, head_cells, listed_cells}
use Rattle.store_rows.specs.Holding.{HasRoom, HasByte, IsSaid, IsNumbered, next_id}
use Rattle.store_maps.specs.Held.{held_in}

-- the list of an issuer, without its entries
pub record UnscopedCrl : Type 0 where
  pub issuer : ℕ
  pub head : CrlHead

-- an entry of an issuer's list
pub record UnscopedEntry : Type 0 where
  pub issuer : ℕ
  pub listed : ListedSerial

pub record UnscopedEntryRow : Type 0 where
  pub id : ℤ
  pub entry : UnscopedEntry

-- ---- as the columns have them

abbrev pub unscoped_crl_row : UnscopedCrl → Row
unscoped_crl_row crl = Int (pos crl.issuer) ∷ Null ∷ head_cells crl.head

abbrev pub unscoped_entry_row : UnscopedEntryRow → Row
unscoped_entry_row row = Int row.id ∷ Int (pos row.entry.issuer) ∷ listed_cells row.entry.listed

-- the row of the version, which is 1
abbrev pub version_1_row : Row
version_1_row = Int (pos 1) ∷ Null ∷ Int (pos 1) ∷ []

-- ---- all rows

pub record UnscopedContents : Type 0 where
  pub issuers : List IssuerRow
  pub crls : List UnscopedCrl
  pub entries : List UnscopedEntryRow
  pub singles : List SingleRow

-- the tables are those of version 1, these are their rows, and ids rise
pub record HoldsVersion1 (db : Database) (it : UnscopedContents) : Type 0 where
  pub schema_is : db.schema ≡ version_1_schema
  pub sound : IsDatabase db
  pub version : db.trees 0 ≡ version_1_row ∷ []
  pub issuers : db.trees 1 ≡ map issuer_row it.issuers
  pub singles : db.trees 3 ≡ map single_row it.singles
  pub crls : db.trees 5 ≡ map unscoped_crl_row it.crls
  pub entries : db.trees 6 ≡ map unscoped_entry_row it.entries
  pub issuers_rise : IsAscending (λ one other. one.id < other.id) it.issuers
  pub singles_rise : IsAscending (λ one other. one.id <ℤ other.id) it.singles
  pub crls_rise : IsAscending (λ one other. one.issuer < other.issuer) it.crls
  pub entries_rise : IsAscending (λ one other. one.id <ℤ other.id) it.entries

-- ids, numbers and reasons are as the code can have them, and what stands under an id stands under one below that of the next issuer
pub record AreUnscopedInForm (it : UnscopedContents) : Type 0 where
  pub ids : AllByRecursion (λ row. HasRoom row.id) it.issuers
  pub crls : AllByRecursion (λ crl. (crl.issuer < next_id it.issuers) × IsNumbered crl.head) it.crls
  pub entries : AllByRecursion (λ row. (row.entry.issuer < next_id it.issuers) × HasByte row.entry.listed) it.entries
  pub singles : AllByRecursion (λ row. (row.issuer < next_id it.issuers) × IsSaid row.fact) it.singles

-- ---- from rows to facts

-- the entries of an issuer's list
abbrev pub listed_under : List UnscopedEntry → ℕ → List ListedSerial
listed_under entries id = map (λ entry. entry.listed) (filter (λ entry. entry.issuer == id) entries)

-- the list that stands under an issuer's id, with the reasons that its entries give
abbrev pub unscoped_crl_under : List UnscopedCrl → List UnscopedEntry → ℕ → Option CrlFact
unscoped_crl_under crls entries id = option_map (λ crl. record { number = crl.head.number; window = crl.head.window; reasons = first_reason (listed_under entries id) }) (find (λ crl. crl.issuer == id) crls)

-- as a list for all certificates, beside which there is none for some
abbrev pub for_all_certificates : Scope → Option CrlFact → Option CrlFact
for_all_certificates All fact = fact
for_all_certificates User fact = None
for_all_certificates Ca fact = None

-- issuers and what responses say are as in version 2
abbrev pub without_lists : UnscopedContents → Contents
without_lists it = record { profile = Stated; issuers = it.issuers; crls = []; entries = []; singles = it.singles }

abbrev pub unscoped_entries : UnscopedContents → List UnscopedEntry
unscoped_entries it = map (λ row. row.entry) it.entries

abbrev pub held_in_version_1 : UnscopedContents → Holdings
held_in_version_1 it = record {
  profile = Stated;
  crl = λ slot. for_all_certificates slot.scope (option_and_then (unscoped_crl_under it.crls (unscoped_entries it)) (id_of it.issuers slot.issuer));
  ocsp = (held_in (without_lists it)).ocsp;
}

-- the database is of version 1, and this is held
pub record IsVersion1Of (db : Database) (held : Holdings) : Type 0 where
  pub contents : UnscopedContents
  pub rows : HoldsVersion1 db contents
  pub form : AreUnscopedInForm contents
  pub held_is : held_in_version_1 contents ≡ held

abbrev pub IsVersion1 : Database → Type 0
IsVersion1 db = (held : Holdings) × IsVersion1Of db held

-- these are the lists, and their entries
abbrev pub AreUnscopedLists : List UnscopedCrl → List UnscopedEntry → UnscopedContents → Type 0
AreUnscopedLists crls entries it = (it.crls ≡ crls) × (unscoped_entries it ≡ entries)

-- the database is of version 1, and these are its lists and their entries
pub record HasLists (crls : List UnscopedCrl) (entries : List UnscopedEntry) (db : Database) : Type 0 where
  pub version_1 : IsVersion1 db
  pub lists : (it : UnscopedContents) → HoldsVersion1 db it → AreUnscopedInForm it → AreUnscopedLists crls entries it

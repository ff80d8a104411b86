-- How far the lists of a store of version 1 have come, inside the transaction.
use Rattle.std.specs.Prelude.{◌≡◌, ◌<◌, ◌<ℤ◌, ◌≤ℤ◌, ◌++◌, ℕ, ℤ, pos, List, [], ◌∷◌, length, map}
use Rattle.std.specs.List.{AllByRecursion}
use Rattle.sqlite.specs.Effect.{Database, IsDatabase}
use Rattle.sqlite_trees.specs.Tree.{IsAscending}
use Rattle.statements_facts.specs.declared.profile.Profile.TheVariants.{Stated}
use Rattle.statements_facts.specs.declared.scope.Scope.{Scope}
use Rattle.statements_facts.specs.Statement.{Holdings}
use Rattle.store_sql.specs.declared.origin.Origin.TheVariants.{Migrated}
use Rattle.store_sql.specs.Tables.{store_schema}
use Rattle.store_rows.specs.Contents.{Contents, issuer_row, single_row}
use Rattle.store_rows.specs.Holding.{HasContents, AreInForm}
use Rattle.store_maps.specs.Held.{crl_under, IsOwned}
use Rattle.store_adoption.specs.Version1.{UnscopedCrl, UnscopedEntry, UnscopedContents, HoldsVersion1, AreUnscopedInForm, AreUnscopedLists, held_in_version_1, unscoped_crl_under, for_all_certificates, version_1_row}

-- what version 1 held, with these lists and their entries
pub record HeldBefore (crls : List UnscopedCrl) (entries : List UnscopedEntry) (it : UnscopedContents) (held : Holdings) : Type 0 where
  pub form : AreUnscopedInForm it
  pub issuers_rise : IsAscending (λ one other. one.id < other.id) it.issuers
  pub singles_rise : IsAscending (λ one other. one.id <ℤ other.id) it.singles
  pub crls_rise : IsAscending (λ one other. one.issuer < other.issuer) it.crls
  pub lists : AreUnscopedLists crls entries it
  pub held_is : held_in_version_1 it ≡ held

-- the database is of version 1
pub record IsOld (crls : List UnscopedCrl) (entries : List UnscopedEntry) (db : Database) (held : Holdings) : Type 0 where
  pub it : UnscopedContents
  pub was : HeldBefore crls entries it held
  pub rows : HoldsVersion1 db it

-- the tables of version 2 stand beside those of version 1, and nothing is in them
pub record HasNewTables (crls : List UnscopedCrl) (entries : List UnscopedEntry) (db : Database) (held : Holdings) : Type 0 where
  pub it : UnscopedContents
  pub was : HeldBefore crls entries it held
  pub schema_is : db.schema ≡ store_schema Migrated
  pub sound : IsDatabase db
  pub version : db.trees 0 ≡ version_1_row ∷ []
  pub issuers : db.trees 1 ≡ map issuer_row it.issuers
  pub singles : db.trees 3 ≡ map single_row it.singles
  pub no_crls : db.trees 8 ≡ []
  pub no_entries : db.trees 10 ≡ []

-- SQLite has given so many ids at most, from 1 on
abbrev pub IsAmongFirst : ℕ → ℤ → Type 0
IsAmongFirst count id = (pos 1 ≤ℤ id) × (id ≤ℤ pos count)

-- the database is of version 2, of the stated profile, and these lists are there, each for all certificates
pub record HasMoved (crls : List UnscopedCrl) (entries : List UnscopedEntry) (moved : List UnscopedCrl) (db : Database) (held : Holdings) : Type 0 where
  pub it : UnscopedContents
  pub was : HeldBefore crls entries it held
  pub contents : Contents
  pub rows : HasContents db Migrated contents
  pub form : AreInForm contents
  pub owned : IsOwned contents
  pub profile_is : contents.profile ≡ Stated
  pub issuers_are : contents.issuers ≡ it.issuers
  pub singles_are : contents.singles ≡ it.singles
  pub ids : AllByRecursion (λ row. IsAmongFirst (length moved) row.id) contents.crls
  pub lists : (id : ℕ) (scope : Scope) → crl_under contents scope id ≡ for_all_certificates scope (unscoped_crl_under moved entries id)

-- the list is the one behind these
abbrev pub IsNext : List UnscopedCrl → List UnscopedCrl → UnscopedCrl → Type 0
IsNext crls moved crl = (rest : List UnscopedCrl) × (crls ≡ (moved ++ crl ∷ []) ++ rest)

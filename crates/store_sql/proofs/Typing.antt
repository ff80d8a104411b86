-- Each text that writes is one statement with so many parameters, whose types fit.
use Rattle.std.proofs.Common.{◌≡◌, ℤ, List, ℕ, [], ◌∷◌, true, refl}
use Rattle.sqlite_typing.specs.Types.{accepts_program, accepts_terms}
use Rattle.sqlite_tied.specs.Compute.{everything}
use Rattle.sqlite.specs.Listing.{understood}
use Rattle.sqlite.specs.Order.{Row}
use Rattle.sqlite.specs.Term.{lit, col}
use Rattle.sqlite.specs.declared.types.Value.TheVariants.{Null, Int, Blob}
use Rattle.store_sql.specs.declared.origin.Origin.{Origin}
use Rattle.store_sql.specs.declared.origin.Origin.TheVariants.{Made, Migrated}
use Rattle.store_sql.specs.Queries.{rows_of, is_param, from_param, below_param}
use Rattle.store_sql.specs.Tables.{store_schema, crls_tree, entries_tree}
use Rattle.store_sql.specs.Texts.{insert_issuer, delete_crl, insert_crl, delete_entries, insert_entry, insert_entries, delete_single, insert_single, delete_version, insert_version}
use Rattle.store_sql.proofs.Refusing.{IsWhole}
use Rattle.store_sql.proofs.Meaning.{group_terms}

pub delete_version_whole : (origin : Origin) → IsWhole delete_version 1 (understood (store_schema origin) delete_version)
unfolding understood everything
delete_version_whole Made = (refl, refl)
delete_version_whole Migrated = (refl, refl)

pub insert_version_whole : (origin : Origin) → IsWhole insert_version 2 (understood (store_schema origin) insert_version)
unfolding understood everything
insert_version_whole Made = (refl, refl)
insert_version_whole Migrated = (refl, refl)

pub insert_issuer_whole : (origin : Origin) → IsWhole insert_issuer 2 (understood (store_schema origin) insert_issuer)
unfolding understood everything
insert_issuer_whole Made = (refl, refl)
insert_issuer_whole Migrated = (refl, refl)

pub delete_crl_whole : (origin : Origin) → IsWhole delete_crl 2 (understood (store_schema origin) delete_crl)
unfolding understood everything
delete_crl_whole Made = (refl, refl)
delete_crl_whole Migrated = (refl, refl)

pub insert_crl_whole : (origin : Origin) → IsWhole insert_crl 5 (understood (store_schema origin) insert_crl)
unfolding understood everything
insert_crl_whole Made = (refl, refl)
insert_crl_whole Migrated = (refl, refl)

pub delete_entries_whole : (origin : Origin) → IsWhole delete_entries 2 (understood (store_schema origin) delete_entries)
unfolding understood everything
delete_entries_whole Made = (refl, refl)
delete_entries_whole Migrated = (refl, refl)

pub insert_entry_whole : (origin : Origin) → IsWhole insert_entry 5 (understood (store_schema origin) insert_entry)
unfolding understood everything
insert_entry_whole Made = (refl, refl)
insert_entry_whole Migrated = (refl, refl)

pub insert_entries_whole : (origin : Origin) → IsWhole insert_entries 40 (understood (store_schema origin) insert_entries)
unfolding understood everything
insert_entries_whole Made = (refl, refl)
insert_entries_whole Migrated = (refl, refl)

pub delete_single_whole : (origin : Origin) → IsWhole delete_single 3 (understood (store_schema origin) delete_single)
unfolding understood everything
delete_single_whole Made = (refl, refl)
delete_single_whole Migrated = (refl, refl)

pub insert_single_whole : (origin : Origin) → IsWhole insert_single 9 (understood (store_schema origin) insert_single)
unfolding understood everything
insert_single_whole Made = (refl, refl)
insert_single_whole Migrated = (refl, refl)

pub version_deletion_typed : (origin : Origin) (a : ℤ) → accepts_program (store_schema origin) [] (rows_of 0 (is_param 0 0 ∷ []) (col 1 0 ∷ [])) (Int a ∷ []) ≡ true
unfolding everything
version_deletion_typed Made a = refl
version_deletion_typed Migrated a = refl

pub crl_deletion_typed : (origin : Origin) (a b : ℤ) → accepts_program (store_schema origin) [] (rows_of (crls_tree origin) (is_param 1 0 ∷ is_param 2 1 ∷ []) (col 1 0 ∷ [])) (Int a ∷ Int b ∷ []) ≡ true
unfolding everything
crl_deletion_typed Made a b = refl
crl_deletion_typed Migrated a b = refl

pub entries_deletion_typed : (origin : Origin) (a b : ℤ) → accepts_program (store_schema origin) [] (rows_of (entries_tree origin) (from_param 0 0 ∷ below_param 0 1 ∷ []) (col 1 0 ∷ [])) (Int a ∷ Int b ∷ []) ≡ true
unfolding everything
entries_deletion_typed Made a b = refl
entries_deletion_typed Migrated a b = refl

pub single_deletion_typed : (origin : Origin) (a : ℤ) (name_hash serial : List ℕ)
    → accepts_program (store_schema origin) [] (rows_of 3 (is_param 1 0 ∷ is_param 2 1 ∷ is_param 3 2 ∷ []) (col 1 0 ∷ [])) (Int a ∷ Blob name_hash ∷ Blob serial ∷ []) ≡ true
unfolding everything
single_deletion_typed Made a name_hash serial = refl
single_deletion_typed Migrated a name_hash serial = refl

pub version_insertion_typed : (a b : ℤ) → accepts_terms (col 0 0 ∷ lit Null ∷ col 0 1 ∷ []) (Int a ∷ Int b ∷ []) ≡ true
unfolding everything
version_insertion_typed a b = refl

pub issuer_insertion_typed : (name key_info : List ℕ) → accepts_terms (lit Null ∷ lit Null ∷ col 0 0 ∷ col 0 1 ∷ []) (Blob name ∷ Blob key_info ∷ []) ≡ true
unfolding everything
issuer_insertion_typed name key_info = refl

pub crl_insertion_typed : (a b c d : ℤ) (number : List ℕ) → accepts_terms (lit Null ∷ col 0 0 ∷ col 0 1 ∷ col 0 2 ∷ col 0 3 ∷ col 0 4 ∷ []) (Int a ∷ Int b ∷ Blob number ∷ Int c ∷ Int d ∷ []) ≡ true
unfolding everything
crl_insertion_typed a b c d number = refl

pub entry_insertion_typed : (a b c d : ℤ) (serial : List ℕ) → accepts_terms (col 0 0 ∷ lit Null ∷ col 0 1 ∷ col 0 2 ∷ col 0 3 ∷ col 0 4 ∷ []) (Int a ∷ Int b ∷ Int c ∷ Blob serial ∷ Int d ∷ []) ≡ true
unfolding everything
entry_insertion_typed a b c d serial = refl

-- the columns of entries
pub record EntryColumns : Type 0 where
  pub place : ℤ
  pub issuer : ℤ
  pub scope : ℤ
  pub serial : List ℕ
  pub reason : ℤ

abbrev pub columns_and : EntryColumns → Row → Row
columns_and e more = Int e.place ∷ Int e.issuer ∷ Int e.scope ∷ Blob e.serial ∷ Int e.reason ∷ more

abbrev pub group_columns : (a b c d e f g h : EntryColumns) → Row
group_columns a b c d e f g h = columns_and a (columns_and b (columns_and c (columns_and d (columns_and e (columns_and f (columns_and g (columns_and h [])))))))

pub entries_insertion_typed : (a b c d e f g h : EntryColumns) → accepts_terms group_terms (group_columns a b c d e f g h) ≡ true
unfolding everything
entries_insertion_typed a b c d e f g h = refl

pub single_insertion_typed : (a b c d e f g : ℤ) (name_hash serial : List ℕ)
    → accepts_terms (lit Null ∷ col 0 0 ∷ col 0 1 ∷ col 0 2 ∷ col 0 3 ∷ col 0 4 ∷ col 0 5 ∷ col 0 6 ∷ col 0 7 ∷ col 0 8 ∷ []) (Int a ∷ Blob name_hash ∷ Blob serial ∷ Int b ∷ Int c ∷ Int d ∷ Int e ∷ Int f ∷ Int g ∷ []) ≡ true
unfolding everything
single_insertion_typed a b c d e f g name_hash serial = refl

-- Why the tables of a store are not made: each is new among those that stand before it.
use Rattle.std.proofs.Common.{◌≡◌, ℕ, List, [], Err, Ok, false, refl, arith}
use Rattle.sqlite_trees.specs.Sound.{same_name, begins, is_free_name, fits_kind}
use Rattle.sqlite_schema.specs.Names.{same_name as one_name}
use Rattle.std.specs.Float.Ieee
use Rattle.sqlite_value.specs.Order.{value_cmp}
use Rattle.sqlite_tied.specs.Compute.{everything}
use Rattle.sqlite.specs.Change.{created}
use Rattle.sqlite.specs.Does.{lacks_sequence}
use Rattle.sqlite.specs.declared.error.Error.{Error}
use Rattle.sqlite.specs.Listing.{understood}
use Rattle.sqlite.specs.State.{State, ExecutesInside}
use Rattle.store_sql.specs.declared.fault.StoreFault.TheVariants.{Store}
use Rattle.store_sql.specs.declared.origin.Origin.{Origin}
use Rattle.store_sql.specs.declared.origin.Origin.TheVariants.{Made, Migrated}
use Rattle.store_sql.specs.Fault.{fault_from}
use Rattle.store_sql.specs.Cause.{MayRefuse}
use Rattle.store_sql.specs.Tables.{no_schema, meta_alone, meta_and_issuers, start_schema, half_schema, meta_table, issuers_table, ocsp_table, scoped_crls_table, scoped_entries_table}
use Rattle.store_sql.specs.Texts.{create_meta, create_issuers, create_ocsp, create_scoped_crls, create_scoped_entries}
use Rattle.store_sql.proofs.Meaning.{makes_meta, makes_issuers, makes_ocsp, makes_crls, makes_entries}
use Rattle.store_sql.proofs.Refusing.{IsWhole}
use Rattle.store_sql.proofs.RefusingTables.{IsNew, table_caused}

-- ---- the version

meta_new : IsNew no_schema create_meta (meta_table 0)
unfolding everything same_name begins is_free_name fits_kind value_cmp Ieee.is_nan Ieee.lt
meta_new = record {
  free = refl;
  keys_free = tt;
  named = refl;
  own = refl;
  few = omega arith;
  reals = omega arith;
  key_reals = tt;
  formed = refl;
  fits = refl;
  text = refl;
  short = omega arith;
}

meta_whole : IsWhole create_meta 0 (understood no_schema create_meta)
unfolding understood everything
meta_whole = (refl, refl)

pub meta_caused : (old new : State) → old.now.schema ≡ no_schema → (error : Error) → ExecutesInside 0 create_meta [] old new (Err error) → fault_from error ≡ Store → MayRefuse old new
meta_caused =
    let text = makes_meta in
    table_caused no_schema create_meta (meta_table 0) text.2 meta_new refl text.4 meta_whole text.0 text.1

-- ---- issuers

issuers_new : IsNew meta_alone create_issuers (issuers_table 0)
unfolding everything same_name begins is_free_name fits_kind value_cmp Ieee.is_nan Ieee.lt
issuers_new = record {
  free = refl;
  keys_free = (refl, tt);
  named = refl;
  own = refl;
  few = omega arith;
  reals = omega arith;
  key_reals = (omega arith, tt);
  formed = refl;
  fits = refl;
  text = refl;
  short = omega arith;
}

issuers_whole : IsWhole create_issuers 0 (understood meta_alone create_issuers)
unfolding understood everything
issuers_whole = (refl, refl)

pub issuers_caused : (old new : State) → old.now.schema ≡ meta_alone → (error : Error) → ExecutesInside 0 create_issuers [] old new (Err error) → fault_from error ≡ Store → MayRefuse old new
issuers_caused =
    let text = makes_issuers in
    table_caused meta_alone create_issuers (issuers_table 0) text.2 issuers_new refl text.4 issuers_whole text.0 text.1

-- ---- what responses say

ocsp_new : IsNew meta_and_issuers create_ocsp (ocsp_table 0)
unfolding everything same_name begins is_free_name fits_kind value_cmp Ieee.is_nan Ieee.lt
ocsp_new = record {
  free = refl;
  keys_free = (refl, tt);
  named = refl;
  own = refl;
  few = omega arith;
  reals = omega arith;
  key_reals = (omega arith, tt);
  formed = refl;
  fits = refl;
  text = refl;
  short = omega arith;
}

ocsp_whole : IsWhole create_ocsp 0 (understood meta_and_issuers create_ocsp)
unfolding understood everything
ocsp_whole = (refl, refl)

pub ocsp_caused : (old new : State) → old.now.schema ≡ meta_and_issuers → (error : Error) → ExecutesInside 0 create_ocsp [] old new (Err error) → fault_from error ≡ Store → MayRefuse old new
ocsp_caused =
    let text = makes_ocsp in
    table_caused meta_and_issuers create_ocsp (ocsp_table 0) text.2 ocsp_new refl text.4 ocsp_whole text.0 text.1

-- ---- lists

crls_new : (origin : Origin) → IsNew (start_schema origin) create_scoped_crls (scoped_crls_table 0)
unfolding everything same_name begins is_free_name fits_kind value_cmp Ieee.is_nan Ieee.lt
crls_new Made = record {
  free = refl;
  keys_free = (refl, tt);
  named = refl;
  own = refl;
  few = omega arith;
  reals = omega arith;
  key_reals = (omega arith, tt);
  formed = refl;
  fits = refl;
  text = refl;
  short = omega arith;
}
crls_new Migrated = record {
  free = refl;
  keys_free = (refl, tt);
  named = refl;
  own = refl;
  few = omega arith;
  reals = omega arith;
  key_reals = (omega arith, tt);
  formed = refl;
  fits = refl;
  text = refl;
  short = omega arith;
}

crls_whole : (origin : Origin) → IsWhole create_scoped_crls 0 (understood (start_schema origin) create_scoped_crls)
unfolding understood everything
crls_whole Made = (refl, refl)
crls_whole Migrated = (refl, refl)

crls_uncounted : (origin : Origin) → lacks_sequence (created (start_schema origin) (scoped_crls_table 0)) ≡ false
crls_uncounted Made = refl
crls_uncounted Migrated = refl

pub crls_caused : (origin : Origin) (old new : State) → old.now.schema ≡ start_schema origin → (error : Error) → ExecutesInside 0 create_scoped_crls [] old new (Err error) → fault_from error ≡ Store → MayRefuse old new
crls_caused origin =
    let text = makes_crls origin in
    table_caused (start_schema origin) create_scoped_crls (scoped_crls_table 0) text.2 (crls_new origin) (crls_uncounted origin) text.4 (crls_whole origin) text.0 text.1

-- ---- their entries

entries_new : (origin : Origin) → IsNew (half_schema origin) create_scoped_entries (scoped_entries_table 0)
unfolding everything same_name begins is_free_name fits_kind value_cmp Ieee.is_nan Ieee.lt
entries_new Made = record {
  free = refl;
  keys_free = tt;
  named = refl;
  own = refl;
  few = omega arith;
  reals = omega arith;
  key_reals = tt;
  formed = refl;
  fits = refl;
  text = refl;
  short = omega arith;
}
entries_new Migrated = record {
  free = refl;
  keys_free = tt;
  named = refl;
  own = refl;
  few = omega arith;
  reals = omega arith;
  key_reals = tt;
  formed = refl;
  fits = refl;
  text = refl;
  short = omega arith;
}

entries_whole : (origin : Origin) → IsWhole create_scoped_entries 0 (understood (half_schema origin) create_scoped_entries)
unfolding understood everything
entries_whole Made = (refl, refl)
entries_whole Migrated = (refl, refl)

entries_uncounted : (origin : Origin) → lacks_sequence (created (half_schema origin) (scoped_entries_table 0)) ≡ false
entries_uncounted Made = refl
entries_uncounted Migrated = refl

pub entries_caused : (origin : Origin) (old new : State) → old.now.schema ≡ half_schema origin → (error : Error) → ExecutesInside 0 create_scoped_entries [] old new (Err error) → fault_from error ≡ Store → MayRefuse old new
entries_caused origin =
    let text = makes_entries origin in
    table_caused (half_schema origin) create_scoped_entries (scoped_entries_table 0) text.2 (entries_new origin) (entries_uncounted origin) text.4 (entries_whole origin) text.0 text.1

-- What the texts mean under the store's schemas.
use Rattle.std.proofs.Common.{◌≡◌, ℕ, ◌+◌, List, [], ◌∷◌, codes, Ok, refl, false}
use Rattle.sqlite.specs.Term.{Term, lit, col}
use Rattle.sqlite.specs.Source.TheVariants.{Values}
use Rattle.sqlite.specs.Command.TheVariants.{Insert, Select, CreateTable, Delete}
use Rattle.sqlite.specs.declared.types.Value.TheVariants.{Null}
use Rattle.sqlite.specs.Compile.{table_defined_by}
use Rattle.sqlite.specs.Change.{created}
use Rattle.sqlite_tied.specs.Compute.{everything}
use Rattle.sqlite.specs.Listing.{understood, reads_listing}
use Rattle.sqlite.proofs.Callers.{IsPlain, command_of, statement_of}
use Rattle.store_sql.specs.declared.origin.Origin.{Origin}
use Rattle.store_sql.specs.declared.origin.Origin.TheVariants.{Made, Migrated}
use Rattle.store_sql.specs.Queries.{rows_of, is_param, from_param, below_param}
use Rattle.store_sql.specs.Texts.{create_meta, create_issuers, create_ocsp, create_scoped_crls, create_scoped_entries, select_versions, delete_version, insert_version, select_issuer, insert_issuer, select_crl, delete_crl, insert_crl, select_entry, select_entries, delete_entries, insert_entry, insert_entries, select_single, delete_single, insert_single}
use Rattle.store_sql.specs.Tables.{no_schema, meta_alone, meta_and_issuers, meta_table, issuers_table, ocsp_table, scoped_crls_table, scoped_entries_table, start_schema, half_schema, store_schema, crls_position, entries_position, crls_tree, entries_tree}

-- ---- tables are made

pub makes_meta : (command_of (understood (no_schema) create_meta) ≡ CreateTable) × (statement_of create_meta (understood (no_schema) create_meta) ≡ create_meta) × (table_defined_by create_meta ≡ Ok (meta_table 0)) × (created (no_schema) (meta_table 0) ≡ meta_alone) × IsPlain (understood (no_schema) create_meta)
unfolding understood everything
makes_meta = (refl, refl, refl, refl, (refl, refl))

pub makes_issuers : (command_of (understood (meta_alone) create_issuers) ≡ CreateTable) × (statement_of create_issuers (understood (meta_alone) create_issuers) ≡ create_issuers) × (table_defined_by create_issuers ≡ Ok (issuers_table 0)) × (created (meta_alone) (issuers_table 0) ≡ meta_and_issuers) × IsPlain (understood (meta_alone) create_issuers)
unfolding understood everything
makes_issuers = (refl, refl, refl, refl, (refl, refl))

pub makes_ocsp : (command_of (understood (meta_and_issuers) create_ocsp) ≡ CreateTable) × (statement_of create_ocsp (understood (meta_and_issuers) create_ocsp) ≡ create_ocsp) × (table_defined_by create_ocsp ≡ Ok (ocsp_table 0)) × (created (meta_and_issuers) (ocsp_table 0) ≡ start_schema Made) × IsPlain (understood (meta_and_issuers) create_ocsp)
unfolding understood everything
makes_ocsp = (refl, refl, refl, refl, (refl, refl))

pub makes_crls : (origin : Origin) → (command_of (understood (start_schema origin) create_scoped_crls) ≡ CreateTable) × (statement_of create_scoped_crls (understood (start_schema origin) create_scoped_crls) ≡ create_scoped_crls) × (table_defined_by create_scoped_crls ≡ Ok (scoped_crls_table 0)) × (created (start_schema origin) (scoped_crls_table 0) ≡ half_schema origin) × IsPlain (understood (start_schema origin) create_scoped_crls)
unfolding understood everything
makes_crls Made = (refl, refl, refl, refl, (refl, refl))
makes_crls Migrated = (refl, refl, refl, refl, (refl, refl))

pub makes_entries : (origin : Origin) → (command_of (understood (half_schema origin) create_scoped_entries) ≡ CreateTable) × (statement_of create_scoped_entries (understood (half_schema origin) create_scoped_entries) ≡ create_scoped_entries) × (table_defined_by create_scoped_entries ≡ Ok (scoped_entries_table 0)) × (created (half_schema origin) (scoped_entries_table 0) ≡ store_schema origin) × IsPlain (understood (half_schema origin) create_scoped_entries)
unfolding understood everything
makes_entries Made = (refl, refl, refl, refl, (refl, refl))
makes_entries Migrated = (refl, refl, refl, refl, (refl, refl))

-- ---- the version

pub selects_versions : (origin : Origin) → (command_of (understood (store_schema origin) select_versions) ≡ Select (record { lets = []; body = rows_of 0 ([]) (col 1 0 ∷ col 1 2 ∷ []) }) (codes "id" ∷ codes "version" ∷ [])) × (reads_listing (store_schema origin) select_versions ≡ false) × IsPlain (understood (store_schema origin) select_versions)
unfolding understood everything
selects_versions Made = (refl, refl, (refl, refl))
selects_versions Migrated = (refl, refl, (refl, refl))

pub deletes_version : (origin : Origin) → (command_of (understood (store_schema origin) delete_version) ≡ Delete 0 (record { lets = []; body = rows_of 0 (is_param 0 0 ∷ []) (col 1 0 ∷ []) })) × IsPlain (understood (store_schema origin) delete_version)
unfolding understood everything
deletes_version Made = (refl, (refl, refl))
deletes_version Migrated = (refl, (refl, refl))

pub inserts_version : (origin : Origin) → (command_of (understood (store_schema origin) insert_version) ≡ Insert 0 (Values (col 0 0 ∷ lit Null ∷ col 0 1 ∷ []) 3)) × IsPlain (understood (store_schema origin) insert_version)
unfolding understood everything
inserts_version Made = (refl, (refl, refl))
inserts_version Migrated = (refl, (refl, refl))

-- ---- issuers

pub selects_issuer : (origin : Origin) → (command_of (understood (store_schema origin) select_issuer) ≡ Select (record { lets = []; body = rows_of 1 (is_param 2 0 ∷ is_param 3 1 ∷ []) (col 1 0 ∷ []) }) (codes "id" ∷ [])) × (reads_listing (store_schema origin) select_issuer ≡ false) × IsPlain (understood (store_schema origin) select_issuer)
unfolding understood everything
selects_issuer Made = (refl, refl, (refl, refl))
selects_issuer Migrated = (refl, refl, (refl, refl))

pub inserts_issuer : (origin : Origin) → (command_of (understood (store_schema origin) insert_issuer) ≡ Insert 1 (Values (lit Null ∷ lit Null ∷ col 0 0 ∷ col 0 1 ∷ []) 4)) × IsPlain (understood (store_schema origin) insert_issuer)
unfolding understood everything
inserts_issuer Made = (refl, (refl, refl))
inserts_issuer Migrated = (refl, (refl, refl))

-- ---- revocation lists

pub selects_crl : (origin : Origin) → (command_of (understood (store_schema origin) select_crl) ≡ Select (record { lets = []; body = rows_of (crls_tree origin) (is_param 1 0 ∷ is_param 2 1 ∷ []) (col 1 3 ∷ col 1 4 ∷ col 1 5 ∷ []) }) (codes "number" ∷ codes "since" ∷ codes "until" ∷ [])) × (reads_listing (store_schema origin) select_crl ≡ false) × IsPlain (understood (store_schema origin) select_crl)
unfolding understood everything
selects_crl Made = (refl, refl, (refl, refl))
selects_crl Migrated = (refl, refl, (refl, refl))

pub deletes_crl : (origin : Origin) → (command_of (understood (store_schema origin) delete_crl) ≡ Delete (crls_position origin) (record { lets = []; body = rows_of (crls_tree origin) (is_param 1 0 ∷ is_param 2 1 ∷ []) (col 1 0 ∷ []) })) × IsPlain (understood (store_schema origin) delete_crl)
unfolding understood everything
deletes_crl Made = (refl, (refl, refl))
deletes_crl Migrated = (refl, (refl, refl))

pub inserts_crl : (origin : Origin) → (command_of (understood (store_schema origin) insert_crl) ≡ Insert (crls_position origin) (Values (lit Null ∷ col 0 0 ∷ col 0 1 ∷ col 0 2 ∷ col 0 3 ∷ col 0 4 ∷ []) 6)) × IsPlain (understood (store_schema origin) insert_crl)
unfolding understood everything
inserts_crl Made = (refl, (refl, refl))
inserts_crl Migrated = (refl, (refl, refl))

-- ---- entries

pub selects_entry : (origin : Origin) → (command_of (understood (store_schema origin) select_entry) ≡ Select (record { lets = []; body = rows_of (entries_tree origin) (is_param 0 0 ∷ []) (col 1 4 ∷ col 1 5 ∷ []) }) (codes "serial" ∷ codes "reason" ∷ [])) × (reads_listing (store_schema origin) select_entry ≡ false) × IsPlain (understood (store_schema origin) select_entry)
unfolding understood everything
selects_entry Made = (refl, refl, (refl, refl))
selects_entry Migrated = (refl, refl, (refl, refl))

pub selects_entries : (origin : Origin) → (command_of (understood (store_schema origin) select_entries) ≡ Select (record { lets = []; body = rows_of (entries_tree origin) (from_param 0 0 ∷ below_param 0 1 ∷ []) (col 1 0 ∷ col 1 4 ∷ col 1 5 ∷ []) }) (codes "id" ∷ codes "serial" ∷ codes "reason" ∷ [])) × (reads_listing (store_schema origin) select_entries ≡ false) × IsPlain (understood (store_schema origin) select_entries)
unfolding understood everything
selects_entries Made = (refl, refl, (refl, refl))
selects_entries Migrated = (refl, refl, (refl, refl))

pub deletes_entries : (origin : Origin) → (command_of (understood (store_schema origin) delete_entries) ≡ Delete (entries_position origin) (record { lets = []; body = rows_of (entries_tree origin) (from_param 0 0 ∷ below_param 0 1 ∷ []) (col 1 0 ∷ []) })) × IsPlain (understood (store_schema origin) delete_entries)
unfolding understood everything
deletes_entries Made = (refl, (refl, refl))
deletes_entries Migrated = (refl, (refl, refl))

pub inserts_entry : (origin : Origin) → (command_of (understood (store_schema origin) insert_entry) ≡ Insert (entries_position origin) (Values (col 0 0 ∷ lit Null ∷ col 0 1 ∷ col 0 2 ∷ col 0 3 ∷ col 0 4 ∷ []) 6)) × IsPlain (understood (store_schema origin) insert_entry)
unfolding understood everything
inserts_entry Made = (refl, (refl, refl))
inserts_entry Migrated = (refl, (refl, refl))

-- an entry, whose columns are the parameters from this one on
abbrev entry_terms : ℕ → List Term → List Term
entry_terms n more = col 0 n ∷ lit Null ∷ col 0 (n + 1) ∷ col 0 (n + 2) ∷ col 0 (n + 3) ∷ col 0 (n + 4) ∷ more

abbrev pub group_terms : List Term
group_terms = entry_terms 0 (entry_terms 5 (entry_terms 10 (entry_terms 15 (entry_terms 20 (entry_terms 25 (entry_terms 30 (entry_terms 35 [])))))))

pub inserts_entries : (origin : Origin) → (command_of (understood (store_schema origin) insert_entries) ≡ Insert (entries_position origin) (Values group_terms 6)) × IsPlain (understood (store_schema origin) insert_entries)
unfolding understood everything
inserts_entries Made = (refl, (refl, refl))
inserts_entries Migrated = (refl, (refl, refl))

-- ---- what responses say

pub selects_single : (origin : Origin) → (command_of (understood (store_schema origin) select_single) ≡ Select (record { lets = []; body = rows_of 3 (is_param 1 0 ∷ is_param 2 1 ∷ is_param 3 2 ∷ []) (col 1 4 ∷ col 1 5 ∷ col 1 6 ∷ col 1 7 ∷ col 1 8 ∷ col 1 9 ∷ []) }) (codes "this_update" ∷ codes "produced_at" ∷ codes "since" ∷ codes "until" ∷ codes "status" ∷ codes "reason" ∷ [])) × (reads_listing (store_schema origin) select_single ≡ false) × IsPlain (understood (store_schema origin) select_single)
unfolding understood everything
selects_single Made = (refl, refl, (refl, refl))
selects_single Migrated = (refl, refl, (refl, refl))

pub deletes_single : (origin : Origin) → (command_of (understood (store_schema origin) delete_single) ≡ Delete 2 (record { lets = []; body = rows_of 3 (is_param 1 0 ∷ is_param 2 1 ∷ is_param 3 2 ∷ []) (col 1 0 ∷ []) })) × IsPlain (understood (store_schema origin) delete_single)
unfolding understood everything
deletes_single Made = (refl, (refl, refl))
deletes_single Migrated = (refl, (refl, refl))

pub inserts_single : (origin : Origin) → (command_of (understood (store_schema origin) insert_single) ≡ Insert 2 (Values (lit Null ∷ col 0 0 ∷ col 0 1 ∷ col 0 2 ∷ col 0 3 ∷ col 0 4 ∷ col 0 5 ∷ col 0 6 ∷ col 0 7 ∷ col 0 8 ∷ []) 10)) × IsPlain (understood (store_schema origin) insert_single)
unfolding understood everything
inserts_single Made = (refl, (refl, refl))
inserts_single Migrated = (refl, (refl, refl))

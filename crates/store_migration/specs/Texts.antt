-- The SQL text of the tables of version 1, statement by statement.
use Rattle.std.specs.Prelude.{◌≡◌, ◌++◌, ℕ, List, codes, Ok}
use Rattle.sqlite.specs.Change.{created}
use Rattle.sqlite.specs.Compile.{table_defined_by}
use Rattle.store_sql.specs.Tables.{no_schema, version_1_schema, meta_table, issuers_table, ocsp_table, crls_table, entries_table}
use Rattle.store_sql.specs.Texts.{create_meta, create_issuers, create_ocsp}

abbrev pub create_crls : List ℕ
create_crls = codes "CREATE TABLE crls (issuer INTEGER PRIMARY KEY, number BLOB NOT NULL, since INTEGER NOT NULL, until INTEGER NOT NULL) STRICT"

abbrev pub create_entries : List ℕ
create_entries = codes "CREATE TABLE entries (issuer INTEGER NOT NULL, serial BLOB NOT NULL, reason INTEGER NOT NULL, PRIMARY KEY (issuer, serial)) STRICT"

-- one behind the other
abbrev pub version_1_text : List ℕ
version_1_text = create_meta ++ codes ";\n" ++ create_issuers ++ codes ";\n" ++ create_ocsp ++ codes ";\n" ++ create_crls ++ codes ";\n" ++ create_entries ++ codes ";\n"

-- each statement defines its table, and in this order they make the schema of version 1
pub record AreTablesOfVersion1 : Type 0 where
  pub meta : table_defined_by create_meta ≡ Ok (meta_table 0)
  pub issuers : table_defined_by create_issuers ≡ Ok (issuers_table 0)
  pub ocsp : table_defined_by create_ocsp ≡ Ok (ocsp_table 0)
  pub crls : table_defined_by create_crls ≡ Ok (crls_table 0)
  pub entries : table_defined_by create_entries ≡ Ok (entries_table 0)
  pub schema : created (created (created (created (created no_schema (meta_table 0)) (issuers_table 0)) (ocsp_table 0)) (crls_table 0)) (entries_table 0) ≡ version_1_schema

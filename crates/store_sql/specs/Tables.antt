-- The tables of the store, as SQLite's schema says them. A statement of an issuer stands under the issuer's id.
use Rattle.std.specs.Prelude.{◌+◌, ℕ, Bool, true, false, List, [], ◌∷◌, ◌++◌, Option, Some, None, codes}
use Rattle.sqlite_value.specs.declared.keys.Order.{Order}
use Rattle.sqlite_value.specs.Keys.{plain}
use Rattle.sqlite.specs.Collation.TheVariants.{Binary}
use Rattle.sqlite.specs.declared.types.Value.TheVariants.{Null}
use Rattle.sqlite.specs.Table.{Table}
use Rattle.sqlite.specs.Schema.{Schema}
use Rattle.sqlite.specs.Kind.{Kind}
use Rattle.sqlite.specs.Kind.TheVariants.{Integer, Blob}
use Rattle.sqlite_schema.specs.declared.schema.Column.{Column}
use Rattle.sqlite_schema.specs.declared.schema.Index.{Index}
use Rattle.sqlite_schema.specs.declared.schema.Stamps.{Stamps}
use Rattle.store_sql.specs.declared.origin.Origin.{Origin}
use Rattle.store_sql.specs.declared.origin.Origin.TheVariants.{Made, Migrated}

-- ---- forms of tables

abbrev pub column_with : List ℕ → Kind → Bool → Column
column_with name kind not_null = record { name = name; kind = kind; is_strict = true; not_null = not_null; default = Null; collation = Binary }

-- INTEGER PRIMARY KEY, which is the rowid
abbrev pub id_column : List ℕ → Column
id_column name = column_with name Integer false

-- NOT NULL
abbrev pub required_column : List ℕ → Kind → Column
required_column name kind = column_with name kind true

-- no column is computed
abbrev pub no_stamps : Stamps
no_stamps = record { places = []; terms = []; formats = [] }

-- a STRICT table without checks, references or defaults
abbrev pub shaped : List ℕ → ℕ → List Column → Option ℕ → List ℕ → List (List ℕ) → List Order → Table
shaped name tree columns key primary uniques orders = record {
  name = name;
  tree = tree;
  columns = columns;
  key = key;
  primary = primary;
  uniques = uniques;
  orders = orders;
  checks = [];
  references = [];
  computed = [];
  stamps = no_stamps;
  is_counted = false;
}

-- without CHECK, REFERENCES and columns that are computed
abbrev pub without_rules : Table → Table
without_rules table = record table { checks = []; references = []; computed = []; stamps = no_stamps; is_counted = false }

-- under this name, in this tree, with this PRIMARY KEY
abbrev pub table_named : List ℕ → ℕ → Option ℕ → List ℕ → Table → Table
table_named name tree key primary table = record table { name = name; tree = tree; key = key; primary = primary }

abbrev pub plainly_named : List ℕ → ℕ → Option ℕ → List ℕ → Table → Table
plainly_named name tree key primary table = without_rules (table_named name tree key primary table)

-- one whose first column is the rowid, without another key
abbrev pub keyed_by_id : List ℕ → ℕ → List Column → Table
keyed_by_id name tree columns = shaped name tree columns (Some 0) (0 ∷ []) [] []

-- one whose first column is the rowid, and these columns are UNIQUE
abbrev pub keyed_twice : List ℕ → ℕ → List Column → List ℕ → Table
keyed_twice name tree columns unique = shaped name tree columns (Some 0) (0 ∷ []) (unique ∷ []) (plain ∷ [])

-- one whose PRIMARY KEY is these columns, counted from 1
abbrev pub keyed_by : List ℕ → ℕ → List Column → List ℕ → Table
keyed_by name tree columns primary = shaped name tree columns None primary (primary ∷ []) (plain ∷ [])

-- the index that SQLite makes for a key, in the tree behind that of its table
abbrev pub key_of : List ℕ → ℕ → List ℕ → Index
key_of name table columns = record { name = name; tree = table + 1; table = table; columns = columns; order = plain; is_unique = true }

-- ---- the tables

-- the version of the tables, in one row
abbrev pub meta_table : ℕ → Table
meta_table tree = keyed_by_id (codes "meta") tree (id_column (codes "id") ∷ required_column (codes "version") Integer ∷ [])

-- each issuer once: the key of its name, and its subjectPublicKeyInfo
abbrev pub issuers_table : ℕ → Table
issuers_table tree = keyed_twice (codes "issuers") tree
    (id_column (codes "id") ∷ required_column (codes "name") Blob ∷ required_column (codes "spki") Blob ∷ []) (2 ∷ 3 ∷ [])

-- what responses say of one certificate (RFC 6960, 4.2.1)
abbrev pub status_columns : List Column
status_columns = required_column (codes "until") Integer ∷ required_column (codes "status") Integer ∷ required_column (codes "reason") Integer ∷ []

abbrev pub said_columns : List Column
said_columns = required_column (codes "this_update") Integer ∷ required_column (codes "produced_at") Integer ∷ required_column (codes "since") Integer ∷ status_columns

abbrev pub ocsp_columns : List Column
ocsp_columns = required_column (codes "issuer") Integer ∷ required_column (codes "name_hash") Blob ∷ required_column (codes "serial") Blob ∷ said_columns

abbrev pub ocsp_table : ℕ → Table
ocsp_table tree = keyed_by (codes "ocsp") tree ocsp_columns (1 ∷ 2 ∷ 3 ∷ [])

-- what a list says (RFC 5280, 5.1), and an entry
abbrev pub list_columns : List Column
list_columns = required_column (codes "number") Blob ∷ required_column (codes "since") Integer ∷ required_column (codes "until") Integer ∷ []

abbrev pub entry_columns : List Column
entry_columns = required_column (codes "serial") Blob ∷ required_column (codes "reason") Integer ∷ []

-- version 1: the list of an issuer, and its entries
abbrev pub crls_table : ℕ → Table
crls_table tree = keyed_by_id (codes "crls") tree
    (id_column (codes "issuer") ∷ list_columns)

abbrev pub entries_table : ℕ → Table
entries_table tree = keyed_by (codes "entries") tree
    (required_column (codes "issuer") Integer ∷ entry_columns) (1 ∷ 2 ∷ [])

-- version 2: the list of an issuer and a scope (5.2.5), and its entries, whose ids are their places
abbrev pub scoped_crls_table : ℕ → Table
scoped_crls_table tree = keyed_by (codes "scoped_crls") tree
    (required_column (codes "issuer") Integer ∷ required_column (codes "scope") Integer ∷ list_columns) (1 ∷ 2 ∷ [])

abbrev pub scoped_entries_table : ℕ → Table
scoped_entries_table tree = keyed_by_id (codes "scoped_entries") tree
    (id_column (codes "id") ∷ required_column (codes "issuer") Integer ∷ required_column (codes "scope") Integer ∷ entry_columns)

-- ---- the schemas

abbrev pub issuers_key : Index
issuers_key = key_of (codes "sqlite_autoindex_issuers_1") 1 (2 ∷ 3 ∷ [])

abbrev pub ocsp_key : Index
ocsp_key = key_of (codes "sqlite_autoindex_ocsp_1") 3 (1 ∷ 2 ∷ 3 ∷ [])

abbrev pub entries_key : Index
entries_key = key_of (codes "sqlite_autoindex_entries_1") 6 (1 ∷ 2 ∷ [])

abbrev pub scoped_crls_key : ℕ → Index
scoped_crls_key table = key_of (codes "sqlite_autoindex_scoped_crls_1") table (1 ∷ 2 ∷ [])

abbrev pub no_schema : Schema
no_schema = record { tables = []; indexes = []; views = [] }

abbrev pub meta_alone : Schema
meta_alone = record { tables = meta_table 0 ∷ []; indexes = []; views = [] }

abbrev pub meta_and_issuers : Schema
meta_and_issuers = record { tables = meta_table 0 ∷ issuers_table 1 ∷ []; indexes = issuers_key ∷ []; views = [] }

-- the tables of both versions, which come first, so that their trees have the same numbers in each store
abbrev pub common_tables : List Table
common_tables = meta_table 0 ∷ issuers_table 1 ∷ ocsp_table 3 ∷ []

abbrev pub common_keys : List Index
common_keys = issuers_key ∷ ocsp_key ∷ []

-- before the two tables of version 2 are made: without those of version 1, or with them
abbrev pub start_schema : Origin → Schema
start_schema Made = record { tables = common_tables; indexes = common_keys; views = [] }
start_schema Migrated = record { tables = common_tables ++ crls_table 5 ∷ entries_table 6 ∷ []; indexes = common_keys ++ entries_key ∷ []; views = [] }

abbrev pub version_1_schema : Schema
version_1_schema = start_schema Migrated

-- where the two tables of version 2 stand among the tables, and in which trees
abbrev pub crls_position : Origin → ℕ
crls_position Made = 3
crls_position Migrated = 5

abbrev pub entries_position : Origin → ℕ
entries_position Made = 4
entries_position Migrated = 6

abbrev pub crls_tree : Origin → ℕ
crls_tree Made = 5
crls_tree Migrated = 8

abbrev pub entries_tree : Origin → ℕ
entries_tree Made = 7
entries_tree Migrated = 10

-- when the first of the two is made
abbrev pub half_schema : Origin → Schema
half_schema origin = record {
  tables = (start_schema origin).tables ++ scoped_crls_table (crls_tree origin) ∷ [];
  indexes = (start_schema origin).indexes ++ scoped_crls_key (crls_tree origin) ∷ [];
  views = [];
}

-- the tables of version 2
abbrev pub store_schema : Origin → Schema
store_schema origin = record {
  tables = (start_schema origin).tables ++ scoped_crls_table (crls_tree origin) ∷ scoped_entries_table (entries_tree origin) ∷ [];
  indexes = (start_schema origin).indexes ++ scoped_crls_key (crls_tree origin) ∷ [];
  views = [];
}

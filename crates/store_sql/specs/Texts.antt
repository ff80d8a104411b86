-- The SQL texts of the store.
use Rattle.std.specs.Prelude.{ℕ, List, codes}

abbrev pub create_meta : List ℕ
create_meta = codes "CREATE TABLE meta (id INTEGER PRIMARY KEY, version INTEGER NOT NULL) STRICT"

abbrev pub create_issuers : List ℕ
create_issuers = codes "CREATE TABLE issuers (id INTEGER PRIMARY KEY, name BLOB NOT NULL, spki BLOB NOT NULL, UNIQUE (name, spki)) STRICT"

abbrev pub create_ocsp : List ℕ
create_ocsp = codes "CREATE TABLE ocsp (issuer INTEGER NOT NULL, name_hash BLOB NOT NULL, serial BLOB NOT NULL, this_update INTEGER NOT NULL, produced_at INTEGER NOT NULL, since INTEGER NOT NULL, until INTEGER NOT NULL, status INTEGER NOT NULL, reason INTEGER NOT NULL, PRIMARY KEY (issuer, name_hash, serial)) STRICT"

abbrev pub create_scoped_crls : List ℕ
create_scoped_crls = codes "CREATE TABLE scoped_crls (issuer INTEGER NOT NULL, scope INTEGER NOT NULL, number BLOB NOT NULL, since INTEGER NOT NULL, until INTEGER NOT NULL, PRIMARY KEY (issuer, scope)) STRICT"

abbrev pub create_scoped_entries : List ℕ
create_scoped_entries = codes "CREATE TABLE scoped_entries (id INTEGER PRIMARY KEY, issuer INTEGER NOT NULL, scope INTEGER NOT NULL, serial BLOB NOT NULL, reason INTEGER NOT NULL) STRICT"

abbrev pub select_versions : List ℕ
select_versions = codes "SELECT id, version FROM meta"

abbrev pub delete_version : List ℕ
delete_version = codes "DELETE FROM meta WHERE id = ?1"

abbrev pub insert_version : List ℕ
insert_version = codes "INSERT INTO meta (id, version) VALUES (?1, ?2)"

abbrev pub select_issuer : List ℕ
select_issuer = codes "SELECT id FROM issuers WHERE name = ?1 AND spki = ?2"

abbrev pub insert_issuer : List ℕ
insert_issuer = codes "INSERT INTO issuers (name, spki) VALUES (?1, ?2)"

abbrev pub select_crl : List ℕ
select_crl = codes "SELECT number, since, until FROM scoped_crls WHERE issuer = ?1 AND scope = ?2"

abbrev pub delete_crl : List ℕ
delete_crl = codes "DELETE FROM scoped_crls WHERE issuer = ?1 AND scope = ?2"

abbrev pub insert_crl : List ℕ
insert_crl = codes "INSERT INTO scoped_crls (issuer, scope, number, since, until) VALUES (?1, ?2, ?3, ?4, ?5)"

abbrev pub select_entry : List ℕ
select_entry = codes "SELECT serial, reason FROM scoped_entries WHERE id = ?1"

abbrev pub select_entries : List ℕ
select_entries = codes "SELECT id, serial, reason FROM scoped_entries WHERE id >= ?1 AND id < ?2"

abbrev pub delete_entries : List ℕ
delete_entries = codes "DELETE FROM scoped_entries WHERE id >= ?1 AND id < ?2"

abbrev pub insert_entry : List ℕ
insert_entry = codes "INSERT INTO scoped_entries (id, issuer, scope, serial, reason) VALUES (?1, ?2, ?3, ?4, ?5)"

abbrev pub insert_entries : List ℕ
insert_entries = codes "INSERT INTO scoped_entries (id, issuer, scope, serial, reason) VALUES (?1, ?2, ?3, ?4, ?5), (?6, ?7, ?8, ?9, ?10), (?11, ?12, ?13, ?14, ?15), (?16, ?17, ?18, ?19, ?20), (?21, ?22, ?23, ?24, ?25), (?26, ?27, ?28, ?29, ?30), (?31, ?32, ?33, ?34, ?35), (?36, ?37, ?38, ?39, ?40)"

abbrev pub select_single : List ℕ
select_single = codes "SELECT this_update, produced_at, since, until, status, reason FROM ocsp WHERE issuer = ?1 AND name_hash = ?2 AND serial = ?3"

abbrev pub delete_single : List ℕ
delete_single = codes "DELETE FROM ocsp WHERE issuer = ?1 AND name_hash = ?2 AND serial = ?3"

abbrev pub insert_single : List ℕ
insert_single = codes "INSERT INTO ocsp (issuer, name_hash, serial, this_update, produced_at, since, until, status, reason) VALUES (?1, ?2, ?3, ?4, ?5, ?6, ?7, ?8, ?9)"

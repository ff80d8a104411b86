-- The SQL texts by which each table is read once, in the order of its ids.
use Rattle.std.specs.Prelude.{ℕ, List, codes}

abbrev pub all_versions : List ℕ
all_versions = codes "SELECT id, version FROM meta ORDER BY id"

abbrev pub all_issuers : List ℕ
all_issuers = codes "SELECT id FROM issuers ORDER BY id"

abbrev pub all_crls : List ℕ
all_crls = codes "SELECT issuer, scope, number FROM scoped_crls ORDER BY rowid"

abbrev pub all_ocsp : List ℕ
all_ocsp = codes "SELECT issuer, status, reason FROM ocsp ORDER BY rowid"

abbrev pub all_entries : List ℕ
all_entries = codes "SELECT id, issuer, scope, serial, reason FROM scoped_entries ORDER BY id"

-- version 1
abbrev pub all_unscoped_crls : List ℕ
all_unscoped_crls = codes "SELECT issuer, number, since, until FROM crls ORDER BY issuer"

abbrev pub all_unscoped_entries : List ℕ
all_unscoped_entries = codes "SELECT issuer, serial, reason FROM entries ORDER BY rowid"

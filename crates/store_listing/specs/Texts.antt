-- The SQL texts by which the listing reads each table, in the order of its ids.
use Rattle.std.specs.Prelude.{ℕ, List, codes}

abbrev pub held_issuers : List ℕ
held_issuers = codes "SELECT id, name, spki FROM issuers ORDER BY id"

abbrev pub held_lists : List ℕ
held_lists = codes "SELECT issuer, scope, number, since, until FROM scoped_crls ORDER BY rowid"

abbrev pub held_entries : List ℕ
held_entries = codes "SELECT issuer, scope FROM scoped_entries ORDER BY id"

abbrev pub held_singles : List ℕ
held_singles = codes "SELECT issuer, name_hash, serial, this_update, produced_at, since, until, status, reason FROM ocsp ORDER BY rowid"

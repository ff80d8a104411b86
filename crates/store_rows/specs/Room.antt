-- What a store has room for: beyond these limits nothing is put into it.
use Rattle.std.specs.Prelude.{◌≡◌, ◌≤◌, ◌+◌, ◌+ℤ◌, ◌≤ℤ◌, ℕ, ℤ, pos, negsuc, None, List, length}
use Rattle.std.specs.List.{AllByRecursion}
use Rattle.statements_facts.specs.Single.{SingleFact}
use Rattle.statements_facts.specs.Listed.{ListedSerial}
use Rattle.statements_facts.specs.Statement.{IssuerIdentity}
use Rattle.store_rows.specs.Contents.{Contents, id_of}

-- octet strings of this length together fit into a row: SQLite takes a billion octets, less 18 for each column, of which there are ten
-- at most
abbrev pub FitRow : ℕ → Type 0
FitRow octets = octets + 180 ≤ 1000000000

abbrev pub IssuerFitsRow : IssuerIdentity → Type 0
IssuerFitsRow identity = FitRow (length identity.name + length identity.key_info)

abbrev pub SingleFitsRow : SingleFact → Type 0
SingleFitsRow single = FitRow (length single.name_hash + length single.serial)

-- a list has room for 2^32 entries
pub record EntriesFit (listed : List ListedSerial) : Type 0 where
  pub few : length listed ≤ 4294967296
  pub short : AllByRecursion (λ entry. FitRow (length entry.serial)) listed

-- behind this id there are so many more of 64 bits
pub record LeavesIds (count : ℕ) (id : ℤ) : Type 0 where
  pub low : negsuc 9223372036854775807 ≤ℤ id
  pub high : (id +ℤ pos count) ≤ℤ pos 9223372036854775807

-- SQLite can give so many more rows of what responses say an id, and another row of lists
abbrev pub SinglesLeaveIds : ℕ → Contents → Type 0
SinglesLeaveIds count it = AllByRecursion (λ row. LeavesIds count row.id) it.singles

abbrev pub CrlsLeaveAnId : Contents → Type 0
CrlsLeaveAnId it = AllByRecursion (λ row. LeavesIds 1 row.id) it.crls

-- an issuer that has no id can be added
abbrev pub CanAddIssuer : IssuerIdentity → Contents → Type 0
CanAddIssuer identity it = (id_of it.issuers identity ≡ None) × IssuerFitsRow identity

-- what a response says of a certificate can be put
abbrev pub CanPutSingle : SingleFact → Contents → Type 0
CanPutSingle single it = SinglesLeaveIds 1 it × SingleFitsRow single

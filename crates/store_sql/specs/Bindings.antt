-- What each call asks of the database: a text, and the values of its parameters.
use Rattle.std.specs.Prelude.{ℕ, ℤ, pos, List, [], ◌∷◌}
use Rattle.sqlite.specs.Order.{Row}
use Rattle.sqlite.specs.declared.types.Value.TheVariants.{Int, Blob}
use Rattle.store_sql.specs.declared.crl.CrlKey.{CrlKey}
use Rattle.store_sql.specs.declared.crl.CrlCells.{CrlCells}
use Rattle.store_sql.specs.declared.entry.Places.{Places}
use Rattle.store_sql.specs.declared.entry.EntryCells.{EntryCells}
use Rattle.store_sql.specs.declared.single.SingleKey.{SingleKey}
use Rattle.store_sql.specs.declared.single.SaidCells.{SaidCells}
use Rattle.store_sql.specs.Texts.{select_versions, delete_version, insert_version, select_issuer, insert_issuer, select_crl, delete_crl, insert_crl, select_entry, select_entries, delete_entries, insert_entry, insert_entries, select_single, delete_single, insert_single}

pub record SqlStatement : Type 0 where
  pub text : List ℕ
  pub params : Row

abbrev pub without_params : List ℕ → SqlStatement
without_params text = record { text = text; params = [] }

-- the version stands in the row with id 1
abbrev pub versions_query : SqlStatement
versions_query = without_params select_versions

abbrev pub version_deletion : SqlStatement
version_deletion = record { text = delete_version; params = Int (pos 1) ∷ [] }

abbrev pub version_insertion : ℤ → SqlStatement
version_insertion version = record { text = insert_version; params = Int (pos 1) ∷ Int version ∷ [] }

abbrev pub issuer_query : List ℕ → List ℕ → SqlStatement
issuer_query name key_info = record { text = select_issuer; params = Blob name ∷ Blob key_info ∷ [] }

abbrev pub issuer_insertion : List ℕ → List ℕ → SqlStatement
issuer_insertion name key_info = record { text = insert_issuer; params = Blob name ∷ Blob key_info ∷ [] }

abbrev pub crl_query : CrlKey → SqlStatement
crl_query key = record { text = select_crl; params = Int key.issuer ∷ Int key.scope ∷ [] }

abbrev pub crl_deletion : CrlKey → SqlStatement
crl_deletion key = record { text = delete_crl; params = Int key.issuer ∷ Int key.scope ∷ [] }

abbrev pub crl_insertion : CrlKey → CrlCells → SqlStatement
crl_insertion key cells = record {
  text = insert_crl;
  params = Int key.issuer ∷ Int key.scope ∷ Blob cells.number.now ∷ Int cells.since ∷ Int cells.until ∷ [];
}

abbrev pub entry_query : ℤ → SqlStatement
entry_query place = record { text = select_entry; params = Int place ∷ [] }

abbrev pub entries_query : Places → SqlStatement
entries_query places = record { text = select_entries; params = Int places.first ∷ Int places.end ∷ [] }

abbrev pub entries_deletion : Places → SqlStatement
entries_deletion places = record { text = delete_entries; params = Int places.first ∷ Int places.end ∷ [] }

-- an entry, column by column
abbrev pub entry_cells_row : EntryCells → Row
entry_cells_row entry = Int entry.place ∷ Int entry.issuer ∷ Int entry.scope ∷ Blob entry.serial.now ∷ Int entry.reason ∷ []

abbrev pub entry_insertion : EntryCells → SqlStatement
entry_insertion entry = record { text = insert_entry; params = entry_cells_row entry }

-- a group of entries, each column by column
abbrev pub entries_insertion : Row → SqlStatement
entries_insertion columns = record { text = insert_entries; params = columns }

abbrev pub single_query : SingleKey → SqlStatement
single_query key = record { text = select_single; params = Int key.issuer ∷ Blob key.name_hash.now ∷ Blob key.serial.now ∷ [] }

abbrev pub single_deletion : SingleKey → SqlStatement
single_deletion key = record { text = delete_single; params = Int key.issuer ∷ Blob key.name_hash.now ∷ Blob key.serial.now ∷ [] }

-- what a response says
abbrev pub said_params : SaidCells → Row
said_params said = Int said.this_update ∷ Int said.produced_at ∷ Int said.since ∷ Int said.until ∷ Int said.status ∷ Int said.reason ∷ []

abbrev pub single_insertion : SingleKey → SaidCells → SqlStatement
single_insertion key said = record {
  text = insert_single;
  params = Int key.issuer ∷ Blob key.name_hash.now ∷ Blob key.serial.now ∷ said_params said;
}

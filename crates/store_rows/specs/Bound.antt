-- Rows as the statements that write them have them.
use Rattle.std.specs.Prelude.{◌+◌, ◌∷◌, ◌++◌, [], List, ℕ, suc, pos}
use Rattle.sqlite.specs.Order.{Row}
use Rattle.sqlite.specs.declared.types.Value.TheVariants.{Int}
use Rattle.statements_facts.specs.declared.revoked.Listed.{Listed}
use Rattle.statements_facts.specs.Listed.{ListedSerial, seen_listed}
use Rattle.store_sql.specs.declared.crl.CrlKey.{CrlKey}
use Rattle.store_sql.specs.Bindings.{SqlStatement}
use Rattle.store_sql.specs.Texts.{insert_crl, insert_entry, delete_entries}
use Rattle.store_rows.specs.declared.crl.Head.{Head}
use Rattle.store_rows.specs.declared.entry.ListKey.{ListKey}
use Rattle.store_rows.specs.Contents.{head_cells, listed_cells, scope_number}
use Rattle.store_rows.specs.Places.{list_base}
use Rattle.store_rows.specs.Seen.{seen_head}

abbrev pub head_insertion : CrlKey → Head → SqlStatement
head_insertion key head = record { text = insert_crl; params = Int key.issuer ∷ Int key.scope ∷ head_cells (seen_head head) }

-- where the entries of a list begin
abbrev pub first_place : ListKey → ℕ
first_place list = list_base list.issuer (scope_number list.scope)

-- all places of a list
abbrev pub room_deletion : ListKey → SqlStatement
room_deletion list = record { text = delete_entries; params = Int (pos (first_place list)) ∷ Int (pos (first_place list + 4294967296)) ∷ [] }

abbrev pub insertion_at : ListKey → ℕ → Listed → SqlStatement
insertion_at list index listed = record {
  text = insert_entry;
  params = Int (pos (first_place list + index)) ∷ Int (pos list.issuer) ∷ Int (pos (scope_number list.scope)) ∷ listed_cells (seen_listed listed);
}

-- an entry at a place, column by column
abbrev pub columns_at : ℕ → ℕ → ℕ → ListedSerial → Row
columns_at issuer scope place listed = Int (pos place) ∷ Int (pos issuer) ∷ Int (pos scope) ∷ listed_cells listed

-- entries from a place on, each column by column
abbrev pub columns_from : ℕ → ℕ → ℕ → List ListedSerial → Row
columns_from issuer scope place [] = []
columns_from issuer scope place (listed ∷ more) = columns_at issuer scope place listed ++ columns_from issuer scope (suc place) more

abbrev pub columns_in : ListKey → ℕ → List ListedSerial → Row
columns_in list index listed = columns_from list.issuer (scope_number list.scope) (first_place list + index) listed

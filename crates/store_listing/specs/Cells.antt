-- The rows of each table, as the texts show them, and what is read of them.
use Rattle.std.specs.Prelude.{◌≡◌, ℕ, zero, suc}
use Rattle.sqlite.specs.Order.{Row, column}
use Rattle.statements_facts.specs.declared.scope.Scope.{Scope}
use Rattle.statements_facts.specs.declared.scope.Scope.TheVariants.{All, User, Ca}
use Rattle.statements_facts.specs.declared.single.Status.{Status}
use Rattle.statements_facts.specs.declared.single.Status.TheVariants.{Good, Revoked, Unknown}
use Rattle.statements_facts.specs.Statement.{OcspFact}
use Rattle.store_rows.specs.Contents.{IssuerRow, CrlHead}
use Rattle.store_rows.specs.Seen.{seen_head}
use Rattle.store_rows.specs.declared.crl.Head.{Head}
use Rattle.statements_facts.specs.Answer.{seen_ocsp}
use Rattle.statements_facts.specs.declared.answer.OcspAnswer.{OcspAnswer}
use Rattle.store_adoption.specs.Cells.{cell_natural, cell_integer, cell_octets, cell_number, HasNatural, HasInteger, HasOctets, HasNumber}
use Rattle.store_listing.specs.declared.held.HeldIssuer.{HeldIssuer}
use Rattle.store_listing.specs.declared.held.HeldSingle.{HeldSingle}
use Rattle.store_listing.specs.declared.counted.KeyedHead.{KeyedHead}
use Rattle.store_listing.specs.Counts.{list_number}
use Rattle.store_listing.specs.Listing.{StoredHead, ListedSingle, seen_held_issuer, seen_keyed, seen_held_single}

-- ---- the numbers of scopes and statuses

abbrev pub held_scope_in : ℕ → Scope
held_scope_in zero = All
held_scope_in (suc zero) = User
held_scope_in (suc (suc n)) = Ca

abbrev pub status_in : ℕ → ℕ → Status
status_in zero reason = Good
status_in (suc zero) reason = Revoked reason
status_in (suc (suc n)) reason = Unknown

-- ---- issuers: id, name, key

abbrev pub IsIssuerRow : Row → Type 0
IsIssuerRow row = HasNatural 536870911 (column row 0) × HasOctets (column row 1) × HasOctets (column row 2)

abbrev pub held_issuer_in : Row → IssuerRow
held_issuer_in row = record { id = cell_natural (column row 0); identity = record { name = cell_octets (column row 1); key_info = cell_octets (column row 2) } }

abbrev pub IsIssuerIn : Row → HeldIssuer → Type 0
IsIssuerIn row issuer = IsIssuerRow row × (seen_held_issuer issuer ≡ held_issuer_in row)

-- ---- entries: issuer, scope

abbrev pub IsKeyRow : Row → Type 0
IsKeyRow row = HasNatural 536870911 (column row 0) × HasNatural 3 (column row 1)

abbrev pub list_of : Row → ℕ
list_of row = list_number (cell_natural (column row 0)) (cell_natural (column row 1))

abbrev pub IsListNumberIn : Row → ℕ → Type 0
IsListNumberIn row number = IsKeyRow row × (number ≡ list_of row)

-- ---- lists: issuer, scope, number, from when and until when they count

abbrev pub HasHeldHead : Row → Type 0
HasHeldHead row = HasNumber (column row 2) × HasInteger (column row 3) × HasInteger (column row 4)

abbrev pub held_head_in : Row → CrlHead
held_head_in row = record { number = cell_number (column row 2); window = record { from = cell_integer (column row 3); until = cell_integer (column row 4) } }

abbrev pub IsHeadIn : Row → Head → Type 0
IsHeadIn row head = HasHeldHead row × (seen_head head ≡ held_head_in row)

abbrev pub IsListRow : Row → Type 0
IsListRow row = HasNatural 536870911 (column row 0) × HasNatural 3 (column row 1) × HasHeldHead row

abbrev pub list_in : Row → StoredHead
list_in row = record { issuer = cell_natural (column row 0); scope = held_scope_in (cell_natural (column row 1)); head = held_head_in row }

abbrev pub IsHeldListIn : Row → KeyedHead → Type 0
IsHeldListIn row keyed = IsListRow row × (seen_keyed keyed ≡ list_in row)

-- ---- responses: issuer, hash of the name, serial number, thisUpdate, producedAt, from when and until when they count, status, reason

abbrev pub HasTimes : Row → Type 0
HasTimes row = HasInteger (column row 3) × HasInteger (column row 4) × HasInteger (column row 5) × HasInteger (column row 6)

abbrev pub HasHeldStatus : Row → Type 0
HasHeldStatus row = HasNatural 3 (column row 7) × HasNatural 256 (column row 8)

abbrev pub status_of_row : Row → Status
status_of_row row = status_in (cell_natural (column row 7)) (cell_natural (column row 8))

abbrev pub IsStatusIn : Row → Status → Type 0
IsStatusIn row status = HasHeldStatus row × (status ≡ status_of_row row)

abbrev pub said_in : Row → OcspFact
said_in row = record {
  times = record { this_update = cell_integer (column row 3); produced_at = cell_integer (column row 4) };
  window = record { from = cell_integer (column row 5); until = cell_integer (column row 6) };
  status = status_of_row row;
}

abbrev pub HasSaid : Row → Type 0
HasSaid row = HasTimes row × HasHeldStatus row

abbrev pub IsHeldAnswerIn : Row → OcspAnswer → Type 0
IsHeldAnswerIn row said = HasSaid row × (seen_ocsp said ≡ said_in row)

abbrev pub IsSingleRow : Row → Type 0
IsSingleRow row = HasNatural 536870911 (column row 0) × HasOctets (column row 1) × HasOctets (column row 2) × HasSaid row

abbrev pub single_in : Row → ListedSingle
single_in row = record { issuer = cell_natural (column row 0); single = record { name_hash = cell_octets (column row 1); serial = cell_octets (column row 2); fact = said_in row } }

abbrev pub IsSingleIn : Row → HeldSingle → Type 0
IsSingleIn row single = IsSingleRow row × (seen_held_single single ≡ single_in row)

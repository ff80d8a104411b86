-- The rows of a store's tables, and what they say.
use Rattle.std.specs.Prelude.{◌≡◌, ◌<◌, ℕ, ℤ, pos, Bool, ◌&&◌, ◌==◌, List, [], ◌∷◌, length, Option, Some, None, option_map, find}
use Rattle.sqlite.specs.declared.types.Value.TheVariants.{Null, Int, Blob}
use Rattle.sqlite.specs.declared.types.Value.{Value}
use Rattle.sqlite.specs.Order.{Row, column}
use Rattle.asn.specs.NumberLaws.{number_octets}
use Rattle.statements_facts.specs.declared.profile.Profile.{Profile}
use Rattle.statements_facts.specs.declared.profile.Profile.TheVariants.{Stated, Wide}
use Rattle.statements_facts.specs.declared.scope.Scope.{Scope}
use Rattle.statements_facts.specs.declared.scope.Scope.TheVariants.{All, User, Ca}
use Rattle.statements_facts.specs.declared.single.Status.{Status}
use Rattle.statements_facts.specs.declared.single.Status.TheVariants.{Good, Revoked, Unknown}
use Rattle.statements_facts.specs.Listed.{ListedSerial}
use Rattle.statements_facts.specs.Statement.{IssuerIdentity, Window, OcspFact, same_issuer}
use Rattle.std.specs.Str.{bytes_eq}

-- an issuer, and the id under which what it says stands
pub record IssuerRow : Type 0 where
  pub id : ℕ
  pub identity : IssuerIdentity

-- a list of an issuer (RFC 5280, 5.1), without its entries
pub record CrlRow : Type 0 where
  pub id : ℤ
  pub issuer : ℕ
  pub scope : Scope
  pub number : ℕ
  pub window : Window

-- an entry of a list, at its place
pub record EntryRow : Type 0 where
  pub place : ℕ
  pub issuer : ℕ
  pub scope : ℕ
  pub listed : ListedSerial

-- what a response says of one certificate (RFC 6960, 4.2.1)
pub record SingleRow : Type 0 where
  pub id : ℤ
  pub issuer : ℕ
  pub name_hash : List ℕ
  pub serial : List ℕ
  pub fact : OcspFact

-- ---- as the columns have them

abbrev pub scope_number : Scope → ℕ
scope_number All = 0
scope_number User = 1
scope_number Ca = 2

abbrev pub status_number : Status → ℕ
status_number Good = 0
status_number (Revoked reason) = 1
status_number Unknown = 2

-- 0 where the certificate is not revoked
abbrev pub reason_number : Status → ℕ
reason_number Good = 0
reason_number (Revoked reason) = reason
reason_number Unknown = 0

-- the number has twenty octets, the most significant first
abbrev pub crl_cells : ℕ → Window → Row
crl_cells number window = Blob (number_octets 20 number) ∷ Int window.from ∷ Int window.until ∷ []

abbrev pub listed_cells : ListedSerial → Row
listed_cells listed = Blob listed.serial ∷ Int (pos listed.reason) ∷ []

abbrev pub said_cells : OcspFact → Row
said_cells fact = Int fact.times.this_update ∷ Int fact.times.produced_at ∷ Int fact.window.from ∷ Int fact.window.until ∷ Int (pos (status_number fact.status)) ∷ Int (pos (reason_number fact.status)) ∷ []

abbrev pub issuer_row : IssuerRow → Row
issuer_row row = Int (pos row.id) ∷ Null ∷ Blob row.identity.name ∷ Blob row.identity.key_info ∷ []

abbrev pub crl_row : CrlRow → Row
crl_row row = Int row.id ∷ Int (pos row.issuer) ∷ Int (pos (scope_number row.scope)) ∷ crl_cells row.number row.window

abbrev pub entry_row : EntryRow → Row
entry_row row = Int (pos row.place) ∷ Null ∷ Int (pos row.issuer) ∷ Int (pos row.scope) ∷ listed_cells row.listed

abbrev pub single_row : SingleRow → Row
single_row row = Int row.id ∷ Int (pos row.issuer) ∷ Blob row.name_hash ∷ Blob row.serial ∷ said_cells row.fact

-- the version of the tables of each profile
abbrev pub version_number : Profile → ℕ
version_number Stated = 2
version_number Wide = 3

-- its row
abbrev pub version_row : Profile → Row
version_row profile = Int (pos 1) ∷ Null ∷ Int (pos (version_number profile)) ∷ []

-- ---- all rows

pub record Contents : Type 0 where
  pub profile : Profile
  pub issuers : List IssuerRow
  pub crls : List CrlRow
  pub entries : List EntryRow
  pub singles : List SingleRow

-- ---- look-ups

abbrev pub is_issuer : IssuerIdentity → IssuerRow → Bool
is_issuer identity row = same_issuer row.identity identity

abbrev pub is_crl_of : ℕ → Scope → CrlRow → Bool
is_crl_of issuer scope row = (row.issuer == issuer) && (scope_number row.scope == scope_number scope)

abbrev pub is_single_of : ℕ → List ℕ → List ℕ → SingleRow → Bool
is_single_of issuer name_hash serial row = (row.issuer == issuer) && (bytes_eq row.name_hash name_hash && bytes_eq row.serial serial)

-- the id of an issuer
abbrev pub id_of : List IssuerRow → IssuerIdentity → Option ℕ
id_of rows identity = option_map (λ row. row.id) (find (is_issuer identity) rows)

-- ---- what a query shows

abbrev pub HasCell : Row → ℕ → Value → Type 0
HasCell row at value = (at < length row) × (column row at ≡ value)

-- one row of what was found, where it was
abbrev pub shown : {X : Type 0} → (X → Row) → Option X → List Row
shown cells None = []
shown cells (Some found) = cells found ∷ []

abbrev pub id_cells : ℕ → Row
id_cells id = Int (pos id) ∷ []

-- a list without its entries
pub record CrlHead : Type 0 where
  pub number : ℕ
  pub window : Window

abbrev pub head_of : CrlRow → CrlHead
head_of row = record { number = row.number; window = row.window }

abbrev pub head_cells : CrlHead → Row
head_cells head = crl_cells head.number head.window

abbrev pub said_of : SingleRow → OcspFact
said_of row = row.fact

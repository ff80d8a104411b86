-- Values as the columns have them, and the rows that a store writes.
use Rattle.std.specs.Prelude.{◌≡◌, ◌<◌, ◌+◌, ◌^◌, ◌⊎◌, ⊤, ℕ, ℤ, pos, List, [], ◌∷◌, fold, length, Option, Some, None, Result, Err}
use Rattle.std.specs.Global.{Vec}
use Rattle.std.specs.List.{AllByRecursion}
use Rattle.asn.specs.Integer.{binary_value}
use Rattle.asn.specs.NumberLaws.{number_octets}
use Rattle.sqlite.specs.declared.types.Value.{Value}
use Rattle.sqlite.specs.declared.types.Value.TheVariants.{Int, Blob}
use Rattle.sqlite.specs.Order.{Row, column}
use Rattle.store_sql.specs.declared.fault.StoreFault.{StoreFault}
use Rattle.store_rows.specs.Contents.{CrlHead, EntryRow}
use Rattle.store_rows.specs.Places.{list_base, IsBelow}
use Rattle.store_adoption.specs.Version1.{UnscopedCrl, UnscopedEntry}

-- ---- what a value says

abbrev pub cell_natural : Value → ℕ
cell_natural (Int (pos number)) = number
cell_natural _ = 0

abbrev pub cell_integer : Value → ℤ
cell_integer (Int number) = number
cell_integer _ = pos 0

abbrev pub cell_octets : Value → List ℕ
cell_octets (Blob octets) = octets
cell_octets _ = []

-- a number below the bound
abbrev pub HasNatural : ℕ → Value → Type 0
HasNatural bound value = (value ≡ Int (pos (cell_natural value))) × (cell_natural value < bound)

abbrev pub HasInteger : Value → Type 0
HasInteger value = value ≡ Int (cell_integer value)

abbrev pub HasOctets : Value → Type 0
HasOctets value = value ≡ Blob (cell_octets value)

-- a CRL number, in twenty octets (RFC 5280, 5.2.3)
abbrev pub cell_number : Value → ℕ
cell_number value = binary_value (cell_octets value)

abbrev pub HasNumber : Value → Type 0
HasNumber value = (value ≡ Blob (number_octets 20 (cell_number value))) × (cell_number value < 2 ^ 160)

-- ---- what is read of a cell

-- the fault `Schema` says that this does not hold
abbrev pub SchemaRefutes : {A : Type 0} → Result A StoreFault → Type 0 → Type 0
SchemaRefutes result P = result ≡ Err StoreFault.Schema → P → ⊥

abbrev pub ReadsNatural : ℕ → Row → ℕ → ℕ → Type 0
ReadsNatural bound row at number = HasNatural bound (column row at) × (cell_natural (column row at) ≡ number)

abbrev pub ReadsOctets : Row → ℕ → Vec ℕ → Type 0
ReadsOctets row at octets = HasOctets (column row at) × (cell_octets (column row at) ≡ octets.items)

abbrev pub ReadsInteger : Row → ℕ → ℤ → Type 0
ReadsInteger row at number = HasInteger (column row at) × (cell_integer (column row at) ≡ number)

abbrev pub ReadsNumber : Row → ℕ → ℕ → Type 0
ReadsNumber row at number = HasNumber (column row at) × (cell_number (column row at) ≡ number)

-- ---- the rows of each table, as they are shown

abbrev pub IsVersionCells : ℕ → Row → Type 0
IsVersionCells version row = (column row 0 ≡ Int (pos 1)) × (column row 1 ≡ Int (pos version))

-- no row, or the one of this version
abbrev pub AreRowsOfVersion : Option ℕ → List Row → Type 0
AreRowsOfVersion None rows = rows ≡ []
AreRowsOfVersion (Some version) rows = AllByRecursion (IsVersionCells version) rows × (length rows ≡ 1)

-- the one row of a version that there is
abbrev pub AreVersionRows : List Row → Type 0
AreVersionRows rows = (version : ℕ) × (version < 4) × AreRowsOfVersion (Some version) rows

abbrev pub IsIssuerCells : Row → Type 0
IsIssuerCells row = HasNatural 536870911 (column row 0)

-- one more than the id of the last, or 1
abbrev pub next_after : List Row → ℕ
next_after = fold (λ next row. cell_natural (column row 0) + 1) 1

-- it stands under an id below the next
abbrev pub IsCrlCells : ℕ → Row → Type 0
IsCrlCells next row = HasNatural next (column row 0) × HasNatural 3 (column row 1) × HasNumber (column row 2)

-- a reason stands beside a status that is not revoked as 0
abbrev pub HasStatus : Row → Type 0
HasStatus row = HasNatural 3 (column row 1) × HasNatural 256 (column row 2) × ((cell_natural (column row 1) ≡ 1) ⊎ (cell_natural (column row 2) ≡ 0))

abbrev pub RefusesStatusCells : {A : Type 0} → Row → Result A StoreFault → Type 0
RefusesStatusCells row result =
    result ≡ Err StoreFault.Schema → HasNatural 3 (column row 1) → HasNatural 256 (column row 2) → (cell_natural (column row 1) ≡ 1) ⊎ (cell_natural (column row 2) ≡ 0) → ⊥

abbrev pub IsSingleCells : ℕ → Row → Type 0
IsSingleCells next row = HasNatural next (column row 0) × HasNatural 3 (column row 1) × HasNatural 256 (column row 2)
    × ((cell_natural (column row 1) ≡ 1) ⊎ (cell_natural (column row 2) ≡ 0))

abbrev pub IsEntryCells : Row → Type 0
IsEntryCells row = HasNatural (2 ^ 64) (column row 0) × HasNatural 536870911 (column row 1) × HasNatural 3 (column row 2) × HasOctets (column row 3) × HasNatural 256 (column row 4)

abbrev pub entry_of_row : Row → EntryRow
entry_of_row row = record {
  place = cell_natural (column row 0);
  issuer = cell_natural (column row 1);
  scope = cell_natural (column row 2);
  listed = record { serial = cell_octets (column row 3); reason = cell_natural (column row 4) };
}

-- ---- the same of version 1, which has one list an issuer

abbrev pub HasHead : Row → Type 0
HasHead row = HasNumber (column row 1) × HasInteger (column row 2) × HasInteger (column row 3)

abbrev pub head_in : Row → CrlHead
head_in row = record { number = cell_number (column row 1); window = record { from = cell_integer (column row 2); until = cell_integer (column row 3) } }

-- it stands under an id below the next
abbrev pub IsUnscopedCrlCells : ℕ → Row → Type 0
IsUnscopedCrlCells next row = HasNatural next (column row 0) × HasHead row

abbrev pub unscoped_crl_in : Row → UnscopedCrl
unscoped_crl_in row = record {
  issuer = cell_natural (column row 0);
  head = head_in row;
}

abbrev pub IsUnscopedEntryCells : ℕ → Row → Type 0
IsUnscopedEntryCells next row = HasNatural next (column row 0) × HasOctets (column row 1) × HasNatural 256 (column row 2)

abbrev pub unscoped_entry_in : Row → UnscopedEntry
unscoped_entry_in row = record {
  issuer = cell_natural (column row 0);
  listed = record { serial = cell_octets (column row 1); reason = cell_natural (column row 2) };
}

-- ---- entries that stand in their places, one after the other

-- it is the first of its list
abbrev pub Begins : EntryRow → Type 0
Begins e = e.place ≡ list_base e.issuer e.scope

-- a place that its list may have
abbrev pub IsInRoom : EntryRow → Type 0
IsInRoom e = e.place < list_base e.issuer e.scope + 4294967296

abbrev pub IsOfSameList : EntryRow → EntryRow → Type 0
IsOfSameList last e = (e.issuer ≡ last.issuer) × (e.scope ≡ last.scope)

-- it stands behind another of its list, with a greater serial number
pub record Continues (last e : EntryRow) : Type 0 where
  pub issuer : e.issuer ≡ last.issuer
  pub scope : e.scope ≡ last.scope
  pub place : e.place ≡ last.place + 1
  pub room : IsInRoom e
  pub serial : IsBelow last.listed e.listed

abbrev pub Follows : Option EntryRow → EntryRow → Type 0
Follows None e = Begins e
Follows (Some last) e = Continues last e ⊎ (Begins e × (last.place < e.place))

-- the ids of issuer and scope are those that places are made of
abbrev pub HasIdsOfPlaces : EntryRow → Type 0
HasIdsOfPlaces e = (e.issuer < 536870911) × (e.scope < 3)

abbrev pub AreChained : Option EntryRow → List EntryRow → Type 0
AreChained last [] = ⊤
AreChained last (e ∷ es) = HasIdsOfPlaces e × Follows last e × AreChained (Some e) es

abbrev pub last_of : List EntryRow → Option EntryRow
last_of = fold (λ last e. Some e) None

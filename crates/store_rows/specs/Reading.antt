-- What is read of rows that a query shows. Rows are refused only if no value in form is shown so.
use Rattle.std.specs.Prelude.{◌≡◌, ◌≢◌, ◌<◌, ◌^◌, ℕ, pos, List, Option, Some, Result, Err, IfSome, option_map}
use Rattle.sqlite.specs.Order.{Row}
use Rattle.sqlite.specs.declared.types.Value.{Value}
use Rattle.sqlite.specs.declared.types.Value.TheVariants.{Int}
use Rattle.asn.specs.NumberLaws.{number_octets}
use Rattle.statements_facts.specs.declared.single.Status.{Status}
use Rattle.statements_facts.specs.Listed.{ListedSerial}
use Rattle.statements_facts.specs.Statement.{OcspFact}
use Rattle.store_sql.specs.declared.fault.StoreFault.{StoreFault}
use Rattle.store_rows.specs.declared.beside.SerialAtPlace.{SerialAtPlace}
use Rattle.statements_facts.specs.declared.answer.OcspAnswer.{OcspAnswer}
use Rattle.store_rows.specs.Contents.{HasCell, shown, id_cells, listed_cells, said_cells, status_number, reason_number}
use Rattle.store_rows.specs.Holding.{HasByte, HasReason}
use Rattle.store_rows.specs.Places.{beside_of}
use Rattle.statements_facts.specs.Answer.{seen_ocsp}

-- ---- one cell

abbrev pub RefusesCell : {A X : Type 0} → (X → Value) → Row → ℕ → Result A StoreFault → Type 0
RefusesCell {A} {X} value row at result = result ≡ Err StoreFault.Schema → (held : X) → ¬ HasCell row at (value held)

abbrev pub RefusesNatural : {A : Type 0} → ℕ → Row → ℕ → Result A StoreFault → Type 0
RefusesNatural bound row at result = result ≡ Err StoreFault.Schema → (number : ℕ) → number < bound → ¬ HasCell row at (Int (pos number))

-- twenty octets spell the number
abbrev pub SpellsNumber : List ℕ → ℕ → Type 0
SpellsNumber octets number = (octets ≡ number_octets 20 number) × (number < 2 ^ 160)

-- ---- a row, and rows of which there is one at most

-- a value in form that the row shows is the one that was read
abbrev pub IsShown : {A X : Type 0} → (A → X) → (X → Row) → (X → Type 0) → Row → A → Type 0
IsShown {A} {X} seen cells IsFormed row found = (held : X) → IsFormed held → row ≡ cells held → seen found ≡ held

abbrev pub AreShown : {A X : Type 0} → (A → X) → (X → Row) → (X → Type 0) → List Row → Option A → Type 0
AreShown {A} {X} seen cells IsFormed rows found = (held : Option X) → IfSome held IsFormed → rows ≡ shown cells held → option_map seen found ≡ held

abbrev pub RefusesRow : {A X : Type 0} → (X → Row) → (X → Type 0) → Row → Result A StoreFault → Type 0
RefusesRow {A} {X} cells IsFormed row result = result ≡ Err StoreFault.Schema → (held : X) → IsFormed held → row ≢ cells held

abbrev pub RefusesRows : {A X : Type 0} → (X → Row) → (X → Type 0) → List Row → Result A StoreFault → Type 0
RefusesRows {A} {X} cells IsFormed rows result = result ≡ Err StoreFault.Schema → (held : Option X) → IfSome held IsFormed → rows ≢ shown cells held

-- the id that the row shows, where it shows one
abbrev pub IsIdShown : List Row → Option ℕ → Type 0
IsIdShown rows found = (id : Option ℕ) → rows ≡ shown id_cells id → found ≡ id

-- ---- entries, beside a serial number

abbrev pub IsBesideRow : Row → List ℕ → SerialAtPlace → Type 0
IsBesideRow row serial beside = (listed : ListedSerial) → row ≡ listed_cells listed → beside ≡ beside_of (Some listed) serial

abbrev pub IsBesideRows : List Row → List ℕ → SerialAtPlace → Type 0
IsBesideRows rows serial beside = (listed : Option ListedSerial) → IfSome listed HasByte → rows ≡ shown listed_cells listed → beside ≡ beside_of listed serial

-- ---- what responses say

abbrev pub HasNumbers : ℕ → ℕ → Status → Type 0
HasNumbers status reason known = (status ≡ status_number known) × (reason ≡ reason_number known)

abbrev pub AreOfNoStatus : ℕ → ℕ → Type 0
AreOfNoStatus status reason = (known : Status) → status ≡ status_number known → reason ≢ reason_number known

abbrev pub HasStatusCells : Row → Status → Type 0
HasStatusCells row known = HasCell row 4 (Int (pos (status_number known))) × HasCell row 5 (Int (pos (reason_number known)))

abbrev pub RefusesStatus : {A : Type 0} → Row → Result A StoreFault → Type 0
RefusesStatus row result = result ≡ Err StoreFault.Schema → (known : Status) → HasReason known → HasCell row 4 (Int (pos (status_number known))) → HasCell row 5 (Int (pos (reason_number known))) → ⊥

abbrev pub IsSaidIn : Row → OcspAnswer → Type 0
IsSaidIn row found = (fact : OcspFact) → row ≡ said_cells fact → seen_ocsp found ≡ fact

-- What a cell that is read says of its value.
use Rattle.std.proofs.Common.{◌≡◌, ◌<◌, ◌^◌, ℕ, ℤ, zero, suc, pos, List, [], ◌∷◌, length, Result, Ok, Err, IfOk, sym, ap, ◌∙◌, arith}
use Rattle.asn.specs.Integer.{binary_value}
use Rattle.asn.specs.NumberLaws.{number_octets}
use Rattle.sqlite.specs.declared.types.Value.{Value}
use Rattle.sqlite.specs.declared.types.Value.TheVariants.{Null, Int, Blob}
use Rattle.sqlite.specs.Order.{Row, column}
use Rattle.store_sql.specs.declared.fault.StoreFault.{StoreFault}
use Rattle.store_rows.specs.Contents.{HasCell}
use Rattle.store_rows.proofs.Laws.{value_back}
use Rattle.store_adoption.specs.Cells.{cell_integer, cell_natural, cell_octets, cell_number, HasInteger, HasNatural, HasOctets, HasNumber}

-- a cell with a number, or with octets, is there
pub int_there : (row : Row) (at : ℕ) (n : _) → column row at ≡ Int n → at < length row
int_there [] at n h = absurd (let no : Null ≡ Int n = h in cc)
int_there (v ∷ row) zero n h = omega arith
int_there (v ∷ row) (suc at) n h = let more = int_there row at n h in omega arith

pub blob_there : (row : Row) (at : ℕ) (b : List ℕ) → column row at ≡ Blob b → at < length row
blob_there [] at b h = absurd (let no : Null ≡ Blob b = h in cc)
blob_there (v ∷ row) zero b h = omega arith
blob_there (v ∷ row) (suc at) b h = let more = blob_there row at b h in omega arith

natural_is : (v : Value) (n bound : ℕ) → v ≡ Int (pos n) → n < bound → HasNatural bound v × (cell_natural v ≡ n)
natural_is v n bound is low = let same : cell_natural v ≡ n = ap cell_natural is in ((is ∙ ap (λ m. Int (pos m)) (sym same), omega (arith, same, low)), same)

pub natural_read : (row : Row) (at bound : ℕ) (result : Result ℕ StoreFault) → IfOk result (λ number. HasCell row at (Int (pos number)) × (number < bound))
    → IfOk result (λ number. HasNatural bound (column row at) × (cell_natural (column row at) ≡ number))
natural_read row at bound (Ok number) h = natural_is (column row at) number bound h.0.1 h.1
natural_read row at bound (Err fault) h = tt

pub natural_refused : (row : Row) (at bound : ℕ) → ((number : ℕ) → number < bound → ¬ HasCell row at (Int (pos number))) → HasNatural bound (column row at) → ⊥
natural_refused row at bound none has = none (cell_natural (column row at)) has.1 (int_there row at _ has.0, has.0)

integer_is : (v : Value) (n : ℤ) → v ≡ Int n → HasInteger v × (cell_integer v ≡ n)
integer_is v n is = let same : cell_integer v ≡ n = ap cell_integer is in (is ∙ ap (λ m. Int m) (sym same), same)

pub integer_read : (row : Row) (at : ℕ) (result : Result ℤ StoreFault) → IfOk result (λ number. HasCell row at (Int number)) → IfOk result (λ number. HasInteger (column row at) × (cell_integer (column row at) ≡ number))
integer_read row at (Ok number) h = integer_is (column row at) number h.1
integer_read row at (Err fault) h = tt

pub integer_refused : (row : Row) (at : ℕ) → ((number : ℤ) → ¬ HasCell row at (Int number)) → HasInteger (column row at) → ⊥
integer_refused row at none has = none (cell_integer (column row at)) (int_there row at _ has, has)

octets_is : (v : Value) (b : List ℕ) → v ≡ Blob b → HasOctets v × (cell_octets v ≡ b)
octets_is v b is = let same : cell_octets v ≡ b = ap cell_octets is in (is ∙ ap (λ m. Blob m) (sym same), same)

pub octets_read : {V : Type 0} (items : V → List ℕ) (row : Row) (at : ℕ) (result : Result V StoreFault) → IfOk result (λ octets. HasCell row at (Blob (items octets)))
    → IfOk result (λ octets. HasOctets (column row at) × (cell_octets (column row at) ≡ items octets))
octets_read items row at (Ok octets) h = octets_is (column row at) (items octets) h.1
octets_read items row at (Err fault) h = tt

pub octets_refused : (row : Row) (at : ℕ) → ((octets : List ℕ) → ¬ HasCell row at (Blob octets)) → HasOctets (column row at) → ⊥
octets_refused row at none has = none (cell_octets (column row at)) (blob_there row at _ has, has)

-- twenty octets and their number
pub number_told : (row : Row) (at : ℕ) (octets : List ℕ) (number : ℕ) → HasCell row at (Blob octets) → octets ≡ number_octets 20 number → number < 2 ^ 160 → cell_number (column row at) ≡ number
number_told row at octets number has is low = ap cell_number has.1 ∙ ap binary_value is ∙ value_back 20 number low

pub number_read : (row : Row) (at : ℕ) (octets : List ℕ) (number : ℕ) → HasCell row at (Blob octets) → octets ≡ number_octets 20 number → number < 2 ^ 160 → HasNumber (column row at)
number_read row at octets number has is low =
    let back = number_told row at octets number has is low in
    (has.1 ∙ ap (λ all. Blob all) (is ∙ ap (number_octets 20) (sym back)), omega (arith, back, low))

pub number_refused : (row : Row) (at : ℕ) (octets : List ℕ) → HasCell row at (Blob octets) → ((number : ℕ) → octets ≡ number_octets 20 number → ⊥) → HasNumber (column row at) → ⊥
number_refused row at octets has none is =
    none (cell_number (column row at)) (let same : Blob octets ≡ Blob (number_octets 20 (cell_number (column row at))) = sym has.1 ∙ is.0 in cc)

pub no_number : (row : Row) (at : ℕ) → ((octets : List ℕ) → ¬ HasCell row at (Blob octets)) → HasNumber (column row at) → ⊥
no_number row at none is = none (number_octets 20 (cell_number (column row at))) (blob_there row at _ is.0, is.0)

-- Look-ups of lists, and a list in the place of another.
use Rattle.std.proofs.Common.{◌≡◌, ◌<◌, ◌^◌, ℕ, ℤ, pos, List, [], ◌∷◌, filter, find, not, Option, option_map, Result, Ok, Err, IfOk, IfSome, IsTrue, refl, sym, ap, ◌∙◌}
use Rattle.asn.specs.NumberLaws.{number_octets}
use Rattle.sqlite.specs.declared.types.Value.{Value}
use Rattle.sqlite.specs.declared.types.Value.TheVariants.{Int, Blob}
use Rattle.sqlite.specs.Order.{Row, column}
use Rattle.sqlite.specs.State.{State, Shown, ExecutesInside}
use Rattle.statements_facts.specs.declared.scope.Scope.{Scope}
use Rattle.store_sql.specs.declared.fault.StoreFault.{StoreFault}
use Rattle.store_sql.specs.Texts.{select_crl, delete_crl, insert_crl}
use Rattle.store_sql.proofs.Laws.{selects_crl}
use Rattle.store_rows.specs.Contents.{CrlRow, CrlHead, HasCell, head_of, head_cells, is_crl_of, scope_number, shown}
use Rattle.store_rows.specs.Holding.{IsNumbered, with_crl}
use Rattle.store_rows.specs.Steps.{Finds, Moves}
use Rattle.store_rows.proofs.Numbers.{one_number}
use Rattle.store_rows.proofs.Finding.{finds_shown, shown_map}
use Rattle.store_rows.proofs.Issuers.{found_has, mapped_has}
use Rattle.store_rows.proofs.Steps.{crl_shown, crl_deleted, crl_added}

blob_of : (a b : List ℕ) → ◌≡◌ {A = Value} (Blob a) (Blob b) → a ≡ b
blob_of a b e = cc

int_of : (a b : ℤ) → ◌≡◌ {A = Value} (Int a) (Int b) → a ≡ b
int_of a b e = cc

-- a row that shows a list is read as it
pub head_read : (row : Row) (octets : List ℕ) (number : ℕ) (from until : ℤ) → HasCell row 0 (Blob octets) → HasCell row 1 (Int from) → HasCell row 2 (Int until) → octets ≡ number_octets 20 number → number < 2 ^ 160
    → (head : CrlHead) → IsNumbered head → row ≡ head_cells head → record { number = number; window = record { from = from; until = until } } ≡ head
head_read row octets number from until cell_0 cell_1 cell_2 spelled low head low_head is =
    let same : octets ≡ number_octets 20 head.number = blob_of octets (number_octets 20 head.number) (sym cell_0.1 ∙ ap (λ r. column r 0) is) in
    let one : number ≡ head.number = one_number number head.number low low_head (sym spelled ∙ same) in
    let begins : from ≡ head.window.from = int_of from head.window.from (sym cell_1.1 ∙ ap (λ r. column r 1) is) in
    let ends : until ≡ head.window.until = int_of until head.window.until (sym cell_2.1 ∙ ap (λ r. column r 2) is) in
    λ i. record { number = one i; window = record { from = begins i; until = ends i } }

pub crl_found : {A : Type 0} (old new : State) (issuer : ℕ) (scope : Scope) (rows : List Row) (result : Result A StoreFault) (view : A → Option CrlHead)
    → IfOk result (λ found. (head : Option CrlHead) → IfSome head IsNumbered → rows ≡ shown head_cells head → view found ≡ head)
    → (result ≡ Err StoreFault.Schema → (head : Option CrlHead) → IfSome head IsNumbered → rows ≡ shown head_cells head → ⊥)
    → IsTrue old.in_transaction → Shown select_crl (Int (pos issuer) ∷ Int (pos (scope_number scope)) ∷ []) old new rows
    → Finds old new (λ it found. view found ≡ option_map head_of (find (is_crl_of issuer scope) it.crls)) result
crl_found old new issuer scope rows result view ok schema inside h =
    finds_shown old new select_crl (Int (pos issuer) ∷ Int (pos (scope_number scope)) ∷ []) rows result head_cells (λ found head. view found ≡ head) IsNumbered (λ it. option_map head_of (find (is_crl_of issuer scope) it.crls)) (λ it found. view found ≡ option_map head_of (find (is_crl_of issuer scope) it.crls))
    ok schema inside h (λ origin. (selects_crl origin).2)
    (λ origin it held form. (
      crl_shown origin old new it held issuer scope rows h ∙ shown_map head_cells head_of (find (is_crl_of issuer scope) it.crls),
      mapped_has head_of IsNumbered (find (is_crl_of issuer scope) it.crls) (found_has (λ (row : CrlRow). IsNumbered (head_of row)) (is_crl_of issuer scope) it.crls form.numbers),
    ))
    (λ it found is. is)

pub crl_moves : (old mid new : State) (issuer : ℕ) (scope : Scope) (head : CrlHead) (gone count : ℕ)
    → ExecutesInside 0 delete_crl (Int (pos issuer) ∷ Int (pos (scope_number scope)) ∷ []) old mid (Ok gone)
    → ExecutesInside 0 insert_crl (Int (pos issuer) ∷ Int (pos (scope_number scope)) ∷ head_cells head) mid new (Ok count) → Moves old new (with_crl issuer scope head)
crl_moves old mid new issuer scope head gone count one two = record {
  was_open = one.1.was_open;
  is_open = two.1.is_open;
  committed_is = two.1.committed_is ∙ one.1.committed_is;
  mode = rw two.1.mode refl;
  rows = λ origin it held form.
      crl_added origin mid new (record it { crls = filter (λ row. not (is_crl_of issuer scope row)) it.crls }) (crl_deleted origin old mid it held issuer scope gone one.0) issuer scope head.number head.window count two.0;
}

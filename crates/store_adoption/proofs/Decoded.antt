-- Stored rows as records: what is read of a row that has passed is the row.
use Rattle.std.proofs.Common.{◌≡◌, ◌⊎◌, ◌<◌, ℕ, zero, suc, ℤ, pos, List, [], ◌∷◌, map, refl, sym, ap, ap₂, ◌∙◌, inl, inr, arith}
use Rattle.std.specs.List.{AllByRecursion}
use Rattle.sqlite.specs.declared.types.Value.{Value}
use Rattle.sqlite.specs.declared.types.Value.TheVariants.{Null, Int, Blob}
use Rattle.sqlite.specs.Order.{Row, column}
use Rattle.sqlite.specs.Kind.{Kind}
use Rattle.sqlite.specs.Kind.TheVariants as kind
use Rattle.statements_facts.specs.declared.scope.Scope.{Scope}
use Rattle.statements_facts.specs.declared.scope.Scope.TheVariants.{All, User, Ca}
use Rattle.statements_facts.specs.declared.single.Status.{Status}
use Rattle.statements_facts.specs.declared.single.Status.TheVariants.{Good, Revoked, Unknown}
use Rattle.store_rows.specs.Contents.{IssuerRow, CrlRow, SingleRow, issuer_row, crl_row, entry_row, single_row, scope_number, status_number, reason_number}
use Rattle.store_rows.specs.Holding.{HasReason}
use Rattle.store_adoption.specs.Cells.{cell_integer, cell_natural, cell_octets, cell_number, HasNatural, IsIssuerCells, IsCrlCells, IsSingleCells, IsEntryCells, entry_of_row}
use Rattle.store_adoption.specs.Inspects.{issuer_cells, crl_columns, single_cells, entry_cells}
use Rattle.store_adoption.proofs.Typed.{IsOf, AreOf}

-- a value as its kind has it
abbrev pub put_in : Kind → Value → Value
put_in kind.Integer v = Int (cell_integer v)
put_in kind.Real v = v
put_in kind.Text v = v
put_in kind.Blob v = Blob (cell_octets v)
put_in kind.Any v = v

abbrev pub shape : List Kind → (ℕ → Value) → Row
shape [] cell = []
shape (k ∷ ks) cell = put_in k (cell 0) ∷ shape ks (λ n. cell (suc n))

put_back : (k : Kind) (v : Value) → IsOf k v → v ≡ put_in k v
put_back kind.Integer v h = h.1 ∙ ap (λ w. Int (cell_integer w)) (sym h.1)
put_back kind.Blob v h = h.1 ∙ ap (λ w. Blob (cell_octets w)) (sym h.1)
put_back kind.Real v h = refl
put_back kind.Text v h = refl
put_back kind.Any v h = refl

pub canonical : (ks : List Kind) (cells : Row) → AreOf ks cells → cells ≡ shape ks (λ n. column cells n)
canonical [] [] h = refl
canonical [] (v ∷ vs) h = absurd h
canonical (k ∷ ks) [] h = absurd h
canonical (k ∷ ks) (v ∷ vs) h = ap₂ (λ a b. a ∷ b) (put_back k v h.0) (canonical ks vs h.1)

pub natural_back : (bound : ℕ) (v : Value) → HasNatural bound v → cell_integer v ≡ pos (cell_natural v)
natural_back bound v h = ap cell_integer h.0

-- ---- scopes and statuses

abbrev pub scope_in : ℕ → Scope
scope_in zero = All
scope_in (suc zero) = User
scope_in (suc (suc n)) = Ca

scope_back : (n : ℕ) → n < 3 → scope_number (scope_in n) ≡ n
scope_back zero low = refl
scope_back (suc zero) low = refl
scope_back (suc (suc zero)) low = refl
scope_back (suc (suc (suc n))) low = absurd (omega arith)

abbrev pub status_in : ℕ → ℕ → Status
status_in zero reason = Good
status_in (suc zero) reason = Revoked reason
status_in (suc (suc n)) reason = Unknown

status_back : (n reason : ℕ) → n < 3 → (n ≡ 1) ⊎ (reason ≡ 0) → (status_number (status_in n reason) ≡ n) × (reason_number (status_in n reason) ≡ reason)
status_back zero reason low (inl is) = absurd (omega (arith, is))
status_back zero reason low (inr is) = (refl, sym is)
status_back (suc zero) reason low either = (refl, refl)
status_back (suc (suc zero)) reason low (inl is) = absurd (omega (arith, is))
status_back (suc (suc zero)) reason low (inr is) = (refl, sym is)
status_back (suc (suc (suc n))) reason low either = absurd (omega arith)

pub reason_fits : (n reason : ℕ) → reason < 256 → HasReason (status_in n reason)
reason_fits zero reason low = tt
reason_fits (suc zero) reason low = low
reason_fits (suc (suc n)) reason low = tt

-- ---- rows

abbrev pub issuer_in : Row → IssuerRow
issuer_in row = record { id = cell_natural (column row 0); identity = record { name = cell_octets (column row 2); key_info = cell_octets (column row 3) } }

pub issuer_is : (id : ℤ) (cells : Row) → AreOf (kind.Blob ∷ kind.Blob ∷ []) cells → IsIssuerCells (issuer_cells (Int id ∷ Null ∷ cells)) → Int id ∷ Null ∷ cells ≡ issuer_row (issuer_in (Int id ∷ Null ∷ cells))
issuer_is id cells are h = ap₂ (λ v vs. v ∷ Null ∷ vs) h.0 (canonical (kind.Blob ∷ kind.Blob ∷ []) cells are)

abbrev pub crl_in : Row → CrlRow
crl_in row = record {
  id = cell_integer (column row 0);
  issuer = cell_natural (column row 1);
  scope = scope_in (cell_natural (column row 2));
  number = cell_number (column row 3);
  window = record { from = cell_integer (column row 4); until = cell_integer (column row 5) };
}

pub crl_is : (next : ℕ) (id : ℤ) (cells : Row) → AreOf (kind.Integer ∷ kind.Integer ∷ kind.Blob ∷ kind.Integer ∷ kind.Integer ∷ []) cells → IsCrlCells next (crl_columns (Int id ∷ cells)) → Int id ∷ cells ≡ crl_row (crl_in (Int id ∷ cells))
crl_is next id cells are h =
    let c = λ (n : ℕ). column cells n in
    let issuer = natural_back next (c 0) h.0 in
    let scope = natural_back 3 (c 1) h.1 ∙ ap pos (sym (scope_back (cell_natural (c 1)) h.1.1)) in
    let number = ap cell_octets h.2.0 in
    ap (λ vs. Int id ∷ vs) (canonical (kind.Integer ∷ kind.Integer ∷ kind.Blob ∷ kind.Integer ∷ kind.Integer ∷ []) cells are ∙ (λ i. Int (issuer i) ∷ Int (scope i) ∷ Blob (number i) ∷ Int (cell_integer (c 3)) ∷ Int (cell_integer (c 4)) ∷ []))

abbrev pub single_in : Row → SingleRow
single_in row = record {
  id = cell_integer (column row 0);
  issuer = cell_natural (column row 1);
  name_hash = cell_octets (column row 2);
  serial = cell_octets (column row 3);
  fact = record {
    times = record { this_update = cell_integer (column row 4); produced_at = cell_integer (column row 5) };
    window = record { from = cell_integer (column row 6); until = cell_integer (column row 7) };
    status = status_in (cell_natural (column row 8)) (cell_natural (column row 9));
  };
}

abbrev pub single_kinds : List Kind
single_kinds = kind.Integer ∷ kind.Blob ∷ kind.Blob ∷ kind.Integer ∷ kind.Integer ∷ kind.Integer ∷ kind.Integer ∷ kind.Integer ∷ kind.Integer ∷ []

pub single_is : (next : ℕ) (id : ℤ) (cells : Row) → AreOf single_kinds cells → IsSingleCells next (single_cells (Int id ∷ cells)) → Int id ∷ cells ≡ single_row (single_in (Int id ∷ cells))
single_is next id cells are h =
    let c = λ (n : ℕ). column cells n in
    let issuer = natural_back next (c 0) h.0 in
    let back = status_back (cell_natural (c 7)) (cell_natural (c 8)) h.1.1 h.3 in
    let status = natural_back 3 (c 7) h.1 ∙ ap pos (sym back.0) in
    let reason = natural_back 256 (c 8) h.2 ∙ ap pos (sym back.1) in
    ap (λ vs. Int id ∷ vs) (canonical single_kinds cells are ∙ (λ i. Int (issuer i) ∷ Blob (cell_octets (c 1)) ∷ Blob (cell_octets (c 2)) ∷ Int (cell_integer (c 3)) ∷ Int (cell_integer (c 4)) ∷ Int (cell_integer (c 5)) ∷ Int (cell_integer (c 6)) ∷ Int (status i) ∷ Int (reason i) ∷ []))

pub entry_is : (id : ℤ) (cells : Row) → AreOf (kind.Integer ∷ kind.Integer ∷ kind.Blob ∷ kind.Integer ∷ []) cells → IsEntryCells (entry_cells (Int id ∷ Null ∷ cells)) → Int id ∷ Null ∷ cells ≡ entry_row (entry_of_row (entry_cells (Int id ∷ Null ∷ cells)))
entry_is id cells are h =
    let c = λ (n : ℕ). column cells n in
    let issuer = natural_back 536870911 (c 0) h.1 in
    let scope = natural_back 3 (c 1) h.2 in
    let reason = natural_back 256 (c 3) h.4 in
    ap₂ (λ v vs. v ∷ Null ∷ vs) h.0.0 (canonical (kind.Integer ∷ kind.Integer ∷ kind.Blob ∷ kind.Integer ∷ []) cells are ∙ (λ i. Int (issuer i) ∷ Int (scope i) ∷ Blob (cell_octets (c 2)) ∷ Int (reason i) ∷ []))

-- ---- all rows of a table

pub all_is : {X : Type 0} (P Q : Row → Type 0) (show : Row → Row) (row_of : X → Row) (read : Row → X) → ((r : Row) → P r → Q (show r) → r ≡ row_of (read r)) → (rows : List Row) → AllByRecursion P rows → AllByRecursion Q (map show rows) → rows ≡ map row_of (map read rows)
all_is P Q show row_of read each [] p q = refl
all_is P Q show row_of read each (r ∷ rs) p q = ap₂ (λ a b. a ∷ b) (each r p.0 q.0) (all_is P Q show row_of read each rs p.1 q.1)

pub all_read : {X : Type 0} (Q : Row → Type 0) (R : X → Type 0) (show : Row → Row) (read : Row → X) → ((r : Row) → Q (show r) → R (read r)) → (rows : List Row) → AllByRecursion Q (map show rows) → AllByRecursion R (map read rows)
all_read Q R show read each [] q = tt
all_read Q R show read each (r ∷ rs) q = (each r q.0, all_read Q R show read each rs q.1)

-- and back
pub all_shown : {X : Type 0} (R : X → Type 0) (Q : Row → Type 0) (row_of : X → Row) (show : Row → Row) → ((x : X) → R x → Q (show (row_of x))) → (xs : List X) → AllByRecursion R xs → AllByRecursion Q (map show (map row_of xs))
all_shown R Q row_of show each [] h = tt
all_shown R Q row_of show each (x ∷ xs) h = (each x h.0, all_shown R Q row_of show each xs h.1)

-- The rows of a table whose columns are required have the values that the columns say.
use Rattle.std.proofs.Common.{◌≡◌, ◌+◌, ℕ, suc, ℤ, Bool, true, false, not, ◌&&◌, List, [], ◌∷◌, map, drop, Some, None, Option, IsTrue, refl, sym, ap, subst, ◌∙◌, true≢false, arith}
use Rattle.std.specs.List.{AllByRecursion}
use Rattle.std.proofs.lemmas.Bool.Decides.{nat_tests}
use Rattle.sqlite.specs.declared.types.Value.{Value}
use Rattle.sqlite.specs.declared.types.Value.TheVariants.{Null, Int, Real, Text, Blob}
use Rattle.sqlite.specs.Order.{Row, column}
use Rattle.sqlite.specs.Tree.{rowid}
use Rattle.sqlite.specs.View.{is_int}
use Rattle.sqlite.specs.Ops.{is_null}
use Rattle.sqlite.specs.Kind.{Kind}
use Rattle.sqlite.specs.Kind.TheVariants as kind
use Rattle.sqlite_schema.specs.declared.schema.Column.{Column}
use Rattle.sqlite_schema.specs.Names.{is_key}
use Rattle.sqlite_schema.specs.Rules.{is_of, are_typed, are_present}
use Rattle.store_sql.specs.Tables.{required_column, id_column}

both : (a b : Bool) → (a && b) ≡ true → (a ≡ true) × (b ≡ true)
both true true e = (refl, refl)
both true false e = absurd (true≢false (sym e))
both false b e = absurd (true≢false (sym e))

-- a value of this kind
abbrev pub IsOf : Kind → Value → Type 0
IsOf kind.Integer v = (n : ℤ) × (v ≡ Int n)
IsOf kind.Real v = Unit {0}
IsOf kind.Text v = Unit {0}
IsOf kind.Blob v = (b : List ℕ) × (v ≡ Blob b)
IsOf kind.Any v = Unit {0}

abbrev pub AreOf : List Kind → Row → Type 0
AreOf [] [] = Unit {0}
AreOf [] (v ∷ vs) = ⊥
AreOf (k ∷ ks) [] = ⊥
AreOf (k ∷ ks) (v ∷ vs) = IsOf k v × AreOf ks vs

of_kind : (k : Kind) (v : Value) → is_of k v ≡ true → not (is_null v) ≡ true → IsOf k v
of_kind kind.Integer Null e some = absurd (true≢false (sym some))
of_kind kind.Integer (Int n) e some = (n, refl)
of_kind kind.Integer (Real x) e some = absurd (true≢false (sym e))
of_kind kind.Integer (Text t) e some = absurd (true≢false (sym e))
of_kind kind.Integer (Blob b) e some = absurd (true≢false (sym e))
of_kind kind.Blob Null e some = absurd (true≢false (sym some))
of_kind kind.Blob (Int n) e some = absurd (true≢false (sym e))
of_kind kind.Blob (Real x) e some = absurd (true≢false (sym e))
of_kind kind.Blob (Text t) e some = absurd (true≢false (sym e))
of_kind kind.Blob (Blob b) e some = (b, refl)
of_kind kind.Real v e some = tt
of_kind kind.Text v e some = tt
of_kind kind.Any v e some = tt

abbrev pub columns_of : List (List ℕ × Kind) → List Column
columns_of specs = map (λ s. required_column s.0 s.1) specs

abbrev pub kinds_of : List (List ℕ × Kind) → List Kind
kinds_of specs = map (λ s. s.1) specs

-- the columns from a place on, and what stands there
pub required_cells : (specs : List (List ℕ × Kind)) (key : Option ℕ) (at : ℕ) (row vs : Row) → ((k n : ℕ) → n ≡ at + k → is_key key n ≡ false) → ((k n : ℕ) → n ≡ at + k + 1 → column row n ≡ column vs k)
    → are_typed key at (columns_of specs) vs ≡ true → are_present key at (columns_of specs) row ≡ true → AreOf (kinds_of specs) vs
required_cells [] key at row [] other same typed present = tt
required_cells [] key at row (v ∷ vs) other same typed present = absurd (true≢false (sym typed))
required_cells (s ∷ ss) key at row [] other same typed present =
    let here : column row (at + 1) ≡ Null = same 0 (at + 1) (omega arith) in
    let far : is_key key at ≡ false = other 0 at (omega arith) in
    absurd (true≢false (sym (rw (far, here) at present)))
required_cells (s ∷ ss) key at row (v ∷ vs) other same typed present =
    let here : column row (at + 1) ≡ v = same 0 (at + 1) (omega arith) in
    let far : is_key key at ≡ false = other 0 at (omega arith) in
    let t = both _ _ (rw far at typed) in
    let p = both _ _ (rw (far, here) at present) in
    (of_kind s.1 v t.0 p.0, required_cells ss key (at + 1) row vs (λ k n e. other (suc k) n (omega (arith, e))) (λ k n e. same (suc k) n (omega (arith, e))) t.1 p.1)

behind_one : (r : Value) (vs : Row) (k n : ℕ) → n ≡ suc k → column (r ∷ vs) n ≡ column vs k
behind_one r vs k n e = subst (λ m. column (r ∷ vs) m ≡ column vs k) (sym e) refl

behind_two : (r v : Value) (vs : Row) (k n : ℕ) → n ≡ suc (suc k) → column (r ∷ v ∷ vs) n ≡ column vs k
behind_two r v vs k n e = subst (λ m. column (r ∷ v ∷ vs) m ≡ column vs k) (sym e) refl

past_one : (r : Value) (k n : ℕ) → n ≡ suc (suc k) → column (r ∷ []) n ≡ Null
past_one r k n e = subst (λ m. column (r ∷ []) m ≡ Null) (sym e) refl

pub an_int : (v : Value) → IsTrue (is_int v) → (n : ℤ) × (v ≡ Int n)
an_int Null h = absurd (true≢false (sym h))
an_int (Int n) h = (n, refl)
an_int (Real x) h = absurd (true≢false (sym h))
an_int (Text t) h = absurd (true≢false (sym h))
an_int (Blob b) h = absurd (true≢false (sym h))

null_is : (v : Value) → is_null v ≡ true → v ≡ Null
null_is Null h = refl
null_is (Int n) h = absurd (true≢false (sym h))
null_is (Real x) h = absurd (true≢false (sym h))
null_is (Text t) h = absurd (true≢false (sym h))
null_is (Blob b) h = absurd (true≢false (sym h))

-- a row of a table whose columns are all required
pub record IsKeyed (specs : List (List ℕ × Kind)) (row : Row) : Type 0 where
  pub id : ℤ
  pub cells : Row
  pub row_is : row ≡ Int id ∷ cells
  pub are : AreOf (kinds_of specs) cells

pub keyed_row : (specs : List (List ℕ × Kind)) (row : Row) → IsTrue (is_int (rowid row)) → are_typed None 0 (columns_of specs) (drop 1 row) ≡ true → are_present None 0 (columns_of specs) row ≡ true → IsKeyed specs row
keyed_row specs [] int typed present = absurd (true≢false (sym int))
keyed_row specs (r ∷ vs) int typed present =
    let id = an_int r int in
    record { id = id.0; cells = vs; row_is = ap (λ v. v ∷ vs) id.1; are = required_cells specs None 0 (r ∷ vs) vs (λ k n e. refl) (λ k n e. behind_one r vs k n (omega (arith, e))) typed present }

-- a row of a table whose first column is the rowid, and whose others are required
pub record HasId (specs : List (List ℕ × Kind)) (row : Row) : Type 0 where
  pub id : ℤ
  pub cells : Row
  pub row_is : row ≡ Int id ∷ Null ∷ cells
  pub are : AreOf (kinds_of specs) cells

later : (k n : ℕ) → n ≡ 1 + k → is_key (Some 0) n ≡ false
later k n e = grind (arith, nat_tests)

pub row_with_id : (name : List ℕ) (first : List ℕ × Kind) (specs : List (List ℕ × Kind)) (row : Row) → IsTrue (is_int (rowid row)) → are_typed (Some 0) 0 (id_column name ∷ columns_of (first ∷ specs)) (drop 1 row) ≡ true
    → are_present (Some 0) 0 (id_column name ∷ columns_of (first ∷ specs)) row ≡ true → HasId (first ∷ specs) row
row_with_id name first specs [] int typed present = absurd (true≢false (sym int))
row_with_id name first specs (r ∷ []) int typed present =
    absurd (required_cells (first ∷ specs) (Some 0) 1 (r ∷ []) [] later (λ k n e. past_one r k n (omega (arith, e)) ∙ nothing k) typed present)
  where
    nothing : (k : ℕ) → Null ≡ column [] k
    nothing k = refl
row_with_id name first specs (r ∷ v ∷ vs) int typed present =
    let id = an_int r int in
    let t = both _ _ typed in
    let none = null_is v t.0 in
    record { id = id.0; cells = vs; row_is = ap (λ w. w ∷ v ∷ vs) id.1 ∙ ap (λ w. Int id.0 ∷ w ∷ vs) none; are = required_cells (first ∷ specs) (Some 0) 1 (r ∷ v ∷ vs) vs later (λ k n e. behind_two r v vs k n (omega (arith, e))) t.1 present }

-- ---- all rows of a table

pub keyed_rows : (specs : List (List ℕ × Kind)) (rest : Row → Bool) (rows : List Row) → AllByRecursion (λ r. IsTrue (is_int (rowid r))) rows
    → AllByRecursion (λ r. (are_typed None 0 (columns_of specs) (drop 1 r) && rest r) ≡ true) rows → AllByRecursion (λ r. are_present None 0 (columns_of specs) r ≡ true) rows → AllByRecursion (IsKeyed specs) rows
keyed_rows specs rest [] ints typed present = tt
keyed_rows specs rest (r ∷ rs) ints typed present = (keyed_row specs r ints.0 (both _ _ typed.0).0 present.0, keyed_rows specs rest rs ints.1 typed.1 present.1)

pub rows_with_id : (name : List ℕ) (first : List ℕ × Kind) (specs : List (List ℕ × Kind)) (rest : Row → Bool) (rows : List Row) → AllByRecursion (λ r. IsTrue (is_int (rowid r))) rows
    → AllByRecursion (λ r. (are_typed (Some 0) 0 (id_column name ∷ columns_of (first ∷ specs)) (drop 1 r) && rest r) ≡ true) rows → AllByRecursion (λ r. are_present (Some 0) 0 (id_column name ∷ columns_of (first ∷ specs)) r ≡ true) rows → AllByRecursion (HasId (first ∷ specs)) rows
rows_with_id name first specs rest [] ints typed present = tt
rows_with_id name first specs rest (r ∷ rs) ints typed present = (row_with_id name first specs r ints.0 (both _ _ typed.0).0 present.0, rows_with_id name first specs rest rs ints.1 typed.1 present.1)

-- The ids that SQLite gives the lists, and how many lists there are.
use Rattle.std.proofs.Common.{◌≡◌, ◌<◌, ◌≤◌, ◌+◌, ℕ, ℤ, pos, negsuc, ◌+ℤ◌, ◌≤ℤ◌, List, [], ◌∷◌, ◌++◌, map, filter, fold, length, arith}
use Rattle.std.proofs.lemmas.Int.{ints}
use Rattle.std.specs.List.{AllByRecursion}
use Rattle.sqlite.specs.Edit.{next_rowid, id_in}
use Rattle.sqlite_trees.specs.Tree.{IsAscending, rowid}
use Rattle.store_rows.specs.Contents.{IssuerRow, CrlRow, crl_row}
use Rattle.store_rows.specs.Holding.{HasRoom, next_id}
use Rattle.store_rows.specs.Room.{LeavesIds}
use Rattle.store_adoption.specs.Version1.{UnscopedCrl}
use Rattle.store_migration.specs.Moved.{IsAmongFirst}

next_among : (n : ℕ) (s : ℤ) (xs : List CrlRow) → IsAmongFirst (n + 1) s → AllByRecursion (λ (row : CrlRow). IsAmongFirst n row.id) xs → IsAmongFirst (n + 1) (fold (λ _ r. id_in (rowid r) +ℤ pos 1) s (map crl_row xs))
next_among n s [] first h = first
next_among n s (x ∷ xs) first h = next_among n (x.id +ℤ pos 1) xs (let low = h.0.0 in let high = h.0.1 in (grind (arith, ints), grind (arith, ints))) h.1

-- one more id
pub next_is_among : (n : ℕ) (xs : List CrlRow) → AllByRecursion (λ (row : CrlRow). IsAmongFirst n row.id) xs → IsAmongFirst (n + 1) (next_rowid (map crl_row xs))
next_is_among n xs h = next_among n (pos 1) xs (grind (arith, ints), grind (arith, ints)) h

pub among_more : (n : ℕ) (id : ℤ) → IsAmongFirst n id → IsAmongFirst (n + 1) id
among_more n id h = let low = h.0 in let high = h.1 in (low, grind (arith, ints))

pub among_leaves : (n : ℕ) (id : ℤ) → n < 9223372036854775807 → IsAmongFirst n id → LeavesIds 1 id
among_leaves n id few h = let low = h.0 in let high = h.1 in record { low = grind (arith, ints); high = grind (arith, ints) }

-- ---- how many lists

-- no id of an issuer has come to the limit
pub next_has_room : (first : ℕ) (rows : List IssuerRow) → first ≤ 536870911 → AllByRecursion (λ (row : IssuerRow). HasRoom row.id) rows → fold (λ id (row : IssuerRow). row.id + 1) first rows ≤ 536870911
next_has_room first [] low h = low
next_has_room first (row ∷ rows) low h = next_has_room (row.id + 1) rows (let r = h.0 in omega (arith, r)) h.1

-- lists whose issuers' ids ascend, from one id to another
pub few_between : (first end : ℕ) (xs : List UnscopedCrl) → first ≤ end → IsAscending (λ (one other : UnscopedCrl). one.issuer < other.issuer) xs → AllByRecursion (λ (c : UnscopedCrl). first ≤ c.issuer) xs
    → AllByRecursion (λ (c : UnscopedCrl). c.issuer < end) xs → first + length xs ≤ end
few_between first end [] low up from below = omega (arith, low)
few_between first end (x ∷ xs) low up from below =
    let b = below.0 in
    let f = from.0 in
    let rest = few_between (x.issuer + 1) end xs (omega (arith, b)) up.1 (above xs up.0) below.1 in
    omega (arith, rest, f)
  where
    above : (ys : List UnscopedCrl) → AllByRecursion (λ (c : UnscopedCrl). x.issuer < c.issuer) ys → AllByRecursion (λ (c : UnscopedCrl). x.issuer + 1 ≤ c.issuer) ys
    above [] h = tt
    above (y ∷ ys) h = (let l = h.0 in omega (arith, l), above ys h.1)

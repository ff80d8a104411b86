-- The columns of a group of entries, one entry after the other.
use Rattle.std.proofs.Common.{◌≡◌, ◌<◌, ◌+◌, ℕ, suc, pos, List, [], ◌∷◌, ◌++◌, map, length, take, get_or, refl, sym, ap, ap₂, subst, ◌∙◌, arith, append-nil, append_assoc}
use Rattle.std.proofs.Math.Seq.{take-length}
use Rattle.std.proofs.lemmas.List.{map_more, length-take-le}
use Rattle.std.specs.List.{AllByRecursion}
use Rattle.sqlite.specs.Values.{bound}
use Rattle.sqlite_value.specs.declared.value.ValueRef.{ValueRef}
use Rattle.statements_facts.specs.declared.revoked.Listed.{Listed}
use Rattle.statements_facts.specs.Listed.{ListedSerial, seen_listed}
use Rattle.store_sql.specs.declared.entry.EntryCells.{EntryCells}
use Rattle.store_sql.specs.Bindings.{entry_cells_row}
use Rattle.store_rows.specs.declared.entry.ListKey.{ListKey}
use Rattle.store_rows.specs.Bound.{first_place, columns_at, columns_from, columns_in}
use Rattle.store_rows.specs.Contents.{scope_number}
use Rattle.store_rows.specs.Holding.{HasByte}
use Rattle.store_rows.proofs.Refilling.{length_map}

columns_more : (issuer scope place : ℕ) (ps : List ListedSerial) (p : ListedSerial) → columns_from issuer scope place (ps ++ p ∷ []) ≡ columns_from issuer scope place ps ++ columns_at issuer scope (place + length ps) p
columns_more issuer scope place [] p = append-nil (columns_at issuer scope place p) ∙ ap (λ at. columns_at issuer scope at p) (omega arith)
columns_more issuer scope place (q ∷ ps) p =
    ap (λ more. columns_at issuer scope place q ++ more) (columns_more issuer scope (suc place) ps p ∙ ap (λ at. columns_from issuer scope (suc place) ps ++ columns_at issuer scope at p) (omega arith))
    ∙ sym (append_assoc (columns_at issuer scope place q) (columns_from issuer scope (suc place) ps) (columns_at issuer scope (place + length (q ∷ ps)) p))

same_columns : (list : ListKey) (at : ℕ) (cells : EntryCells) (p : ListedSerial) → cells.place ≡ pos (first_place list + at) → cells.issuer ≡ pos list.issuer → cells.scope ≡ pos (scope_number list.scope)
    → cells.serial.now ≡ p.serial → cells.reason ≡ pos p.reason → entry_cells_row cells ≡ columns_at list.issuer (scope_number list.scope) (first_place list + at) p
same_columns list at cells p place issuer scope serial reason = rw (place, issuer, scope, serial, reason) refl

pub one_more_in : (list : ListKey) (index : ℕ) (group : List Listed) (k : ℕ) (d : Listed) (was now : List ValueRef) (cells : EntryCells) → k < length group
    → bound was ≡ columns_in list index (map seen_listed (take k group))
    → cells.place ≡ pos (first_place list + (index + k)) → cells.issuer ≡ pos list.issuer → cells.scope ≡ pos (scope_number list.scope)
    → cells.serial.now ≡ (seen_listed (get_or group k d)).serial → cells.reason ≡ pos (seen_listed (get_or group k d)).reason
    → bound now ≡ bound was ++ entry_cells_row cells → bound now ≡ columns_in list index (map seen_listed (take (k + 1) group))
one_more_in list index group k d was now cells low so place issuer scope serial reason is =
    let size : k ≡ length (map seen_listed (take k group)) = sym (length_map seen_listed (take k group) ∙ length-take-le k group (omega (arith, low))) in
    is
    ∙ ap₂ (λ xs ys. xs ++ ys) so (same_columns list (index + k) cells (seen_listed (get_or group k d)) place issuer scope serial reason
    ∙ ap (λ at. columns_at list.issuer (scope_number list.scope) at (seen_listed (get_or group k d))) (omega (arith, size)))
    ∙ sym (columns_more list.issuer (scope_number list.scope) (first_place list + index) (map seen_listed (take k group)) (seen_listed (get_or group k d)))
    ∙ ap (columns_in list index) (sym (map_more seen_listed group k d low))

pub all_in : (list : ListKey) (index : ℕ) (group : List Listed) (k : ℕ) → k ≡ length group → columns_in list index (map seen_listed (take k group)) ≡ columns_in list index (map seen_listed group)
all_in list index group k at = ap (λ xs. columns_in list index (map seen_listed xs)) (ap (λ n. take n group) at ∙ take-length group)

pub all_bytes : (group : List Listed) (k : ℕ) → k ≡ length group → AllByRecursion HasByte (map seen_listed (take k group)) → AllByRecursion HasByte (map seen_listed group)
all_bytes group k at = subst (λ xs. AllByRecursion HasByte (map seen_listed xs)) (ap (λ n. take n group) at ∙ take-length group)

-- Rows that pass one after the other, and entries that follow.
use Rattle.std.proofs.Common.{◌≡◌, ◌<◌, ◌+◌, ℕ, List, [], ◌∷◌, ◌++◌, map, fold, Some, None, Option, refl, sym, ap, ap₂, subst, ◌∙◌}
use Rattle.std.proofs.lemmas.List.{map-append}
use Rattle.std.specs.List.{AllByRecursion}
use Rattle.sqlite.specs.Order.{Row, column}
use Rattle.store_rows.specs.Contents.{EntryRow}
use Rattle.store_rows.specs.Places.{list_base, IsBelow}
use Rattle.store_adoption.specs.Cells.{Continues, Follows, HasIdsOfPlaces, IsEntryCells, AreChained, last_of, entry_of_row, cell_natural, next_after}
use Rattle.store_adoption.proofs.Chained.{last_pushed, chain_pushed, chain_follows}

pub all_here : {X : Type 0} (P : X → Type 0) (rows : List X) (row : X) (later : List X) → AllByRecursion P (rows ++ row ∷ later) → P row
all_here P [] row later h = h.0
all_here P (x ∷ rows) row later h = all_here P rows row later h.1

pub all_pushed : {X : Type 0} (P : X → Type 0) (rows : List X) (row : X) → AllByRecursion P rows → P row → AllByRecursion P (rows ++ row ∷ [])
all_pushed P [] row h p = (p, tt)
all_pushed P (x ∷ rows) row h p = (h.0, all_pushed P rows row h.1 p)

-- one more that has passed, and what is read of it
pub read_pushed : {X Y : Type 0} (P : Row → Type 0) (read : Row → Y) (seen : X → Y) (xs : List X) (x : X) (rows : List Row) (row : Row) → AllByRecursion P rows × (map seen xs ≡ map read rows) → P row → seen x ≡ read row
    → AllByRecursion P (rows ++ row ∷ []) × (map seen (xs ++ x ∷ []) ≡ map read (rows ++ row ∷ []))
read_pushed P read seen xs x rows row so passes same =
    (all_pushed P rows row so.0 passes, map-append seen xs (x ∷ []) ∙ ap₂ (λ a b. a ++ b ∷ []) so.1 same ∙ sym (map-append read rows (row ∷ [])))

pub next_pushed : (rows : List Row) (row : Row) → next_after (rows ++ row ∷ []) ≡ cell_natural (column row 0) + 1
next_pushed rows row = go 1 rows
  where
    go : (start : ℕ) (rows : List Row) → fold (λ next row. cell_natural (column row 0) + 1) start (rows ++ row ∷ []) ≡ cell_natural (column row 0) + 1
    go start [] = refl
    go start (x ∷ xs) = go (cell_natural (column x 0) + 1) xs

pub continues_is : (last e : EntryRow) → (e.issuer ≡ last.issuer) × (e.scope ≡ last.scope) → e.place ≡ last.place + 1 → e.place < list_base e.issuer e.scope + 4294967296 → IsBelow last.listed e.listed → Continues last e
continues_is last e list place room serial = record { issuer = list.0; scope = list.1; place = place; room = room; serial = serial }

listed : (row : Row) → IsEntryCells row → HasIdsOfPlaces (entry_of_row row)
listed row h = (h.1.1, h.2.1)

pub entry_follows : (rows later : List Row) (row : Row) (last : Option EntryRow) (e : EntryRow) → last ≡ last_of (map entry_of_row rows) → e ≡ entry_of_row row
    → AreChained None (map entry_of_row (rows ++ row ∷ later)) → Follows last e
entry_follows rows later row last e is same chained =
    let cut = chain_follows (map entry_of_row rows) (map entry_of_row later) (entry_of_row row) (subst (AreChained None) (map-append entry_of_row rows (row ∷ later)) chained) in
    subst (λ x. Follows x e) (sym is) (subst (Follows (last_of (map entry_of_row rows))) (sym same) cut)

pub entry_passes : (rows : List Row) (row : Row) (last : Option EntryRow) (e : EntryRow) → AllByRecursion IsEntryCells rows × AreChained None (map entry_of_row rows) × (last ≡ last_of (map entry_of_row rows))
    → IsEntryCells row → e ≡ entry_of_row row → Follows last e
    → AllByRecursion IsEntryCells (rows ++ row ∷ []) × AreChained None (map entry_of_row (rows ++ row ∷ [])) × (◌≡◌ {A = Option EntryRow} (Some e) (last_of (map entry_of_row (rows ++ row ∷ []))))
entry_passes rows row last e so cells same follows =
    let step = subst (Follows (last_of (map entry_of_row rows))) same (subst (λ x. Follows x e) so.2 follows) in
    let cut = map-append entry_of_row rows (row ∷ []) in (
      all_pushed IsEntryCells rows row so.0 cells,
      subst (AreChained None) (sym cut) (chain_pushed (map entry_of_row rows) (entry_of_row row) so.1 (listed row cells) step),
      ap (λ x. Some x) same ∙ sym (last_pushed (map entry_of_row rows) (entry_of_row row)) ∙ ap last_of (sym cut),
    )

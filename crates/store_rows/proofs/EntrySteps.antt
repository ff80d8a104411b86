-- What each statement shows of the entries, and what it makes of them.
use Rattle.std.proofs.Common.{◌≡◌, ◌≢◌, ℕ, pos, ◌+◌, ◌<◌, ◌≤◌, List, [], ◌∷◌, map, filter, Bool, not, Some, None, Option, option_map, Ok, slice_get, refl, sym, ap, ◌∙◌, inl, inr, arith, Greater}
use Rattle.std.proofs.lemmas.Bool.{cases_Bool}
use Rattle.std.proofs.lemmas.Option.{slice_get-map}
use Rattle.std.specs.List.{AllByRecursion}
use Rattle.std.specs.List.Sorted.{IsPermutation}
use Rattle.std.specs.Cmp.{int_cmp_is}
use Rattle.sqlite_value.proofs.OrderLemmas.{value_cmp-Int}
use Rattle.sqlite_schema.specs.declared.schema.Keys.{Keys}
use Rattle.sqlite_rules.specs.Action.{works}
use Rattle.sqlite.specs.declared.types.Value.TheVariants.{Null, Int}
use Rattle.sqlite.specs.Order.{Row, value_cmp}
use Rattle.sqlite.specs.Tree.{put_row}
use Rattle.sqlite.specs.State.{State, Executes, Shown}
use Rattle.store_sql.specs.declared.origin.Origin.{Origin}
use Rattle.store_sql.specs.declared.origin.Origin.TheVariants.{Made, Migrated}
use Rattle.store_sql.specs.Tables.{store_schema, scoped_entries_table, entries_position, entries_tree}
use Rattle.store_sql.specs.Texts.{select_entry, select_entries, delete_entries, insert_entry}
use Rattle.store_sql.proofs.Laws.{deletes_by, inserts_at, finds_by, at_most as one_at_most, less_is, selects_entry, selects_entries, deletes_entries, inserts_entry}
use Rattle.store_rows.specs.Contents.{EntryRow, Contents, entry_row, listed_cells, shown}
use Rattle.store_rows.specs.Holding.{HasContents}
use Rattle.store_rows.specs.Places.{IsInside, ArePlaced, is_under, is_at, at_most, entries_under, list_base, put_entry, without}
use Rattle.store_rows.proofs.Placing.{IsNext, at_place, in_room, is_under_of, not_under, fars, placed_put, placed_without}
use Rattle.store_rows.proofs.Naturals.{low_pos, below_tells, from_tells, under_tells, rise_pos}
use Rattle.store_rows.proofs.Others.{entries_change}
use Rattle.store_rows.proofs.Terms.{passes_at, passes_range, in_range, cast_null, cast_int, as_int}
use Rattle.store_rows.proofs.Steps.{shows_one}

pub entries_stand : (origin : Origin) → slice_get (store_schema origin).tables (entries_position origin) ≡ Some (scoped_entries_table (entries_tree origin))
entries_stand Made = refl
entries_stand Migrated = refl

pub entries_alone : (origin : Origin) (keys : Keys) (gone news : List Row) → works (store_schema origin) keys 0 (entries_tree origin) gone news ≡ []
entries_alone Made keys gone news = refl
entries_alone Migrated keys gone news = refl

same_most : (found : Option EntryRow) → at_most found ≡ one_at_most found
same_most None = refl
same_most (Some row) = refl

shown_of : (found : Option EntryRow) → shown (λ (row : EntryRow). listed_cells row.listed) found ≡ shown listed_cells (option_map (λ (row : EntryRow). row.listed) found)
shown_of None = refl
shown_of (Some row) = refl

-- ---- a row is put

more_is : (a b : ℕ) → b < a → value_cmp (Int (pos a)) (Int (pos b)) ≡ Greater
more_is a b h = value_cmp-Int (pos a) (pos b) ∙ sym (int_cmp_is (pos a) (pos b) Greater (low_pos b a h))

pub put_rows : (new : EntryRow) (es : List EntryRow) → AllByRecursion (λ e. e.place ≢ new.place) es → put_row (entry_row new) (map entry_row es) ≡ map entry_row (put_entry new es)
put_rows new [] far = refl
put_rows new (e ∷ es) far = elim (below_tells e.place new.place) [
  | inl less ↦ rw (less.0, less_is (pos e.place) (pos new.place) (low_pos e.place new.place less.1)) (ap (λ more. entry_row e ∷ more) (put_rows new es far.1))
  | inr more ↦ rw (more.0, more_is e.place new.place (strict new.place e.place more.1 far.0)) refl
]
  where
    strict : (a b : ℕ) → a ≤ b → b ≢ a → a < b
    strict a b h far = grind arith

-- ---- a range of places

-- in the room of a list stand its entries, and nothing else
range_is : (issuer scope : ℕ) (row : EntryRow) → scope < 3 → IsInside row → in_range (list_base issuer scope) (list_base issuer scope + 4294967296) row ≡ is_under issuer scope row
range_is issuer scope row few it = elim (from_tells (list_base issuer scope) row.place) [
  | inl from ↦ elim (under_tells row.place (list_base issuer scope + 4294967296)) [
    | inl under_it ↦ rw (from.1, under_it.1) (sym (is_under_of issuer scope row (in_room issuer scope row few it from.0 under_it.0)))
    | inr past ↦ rw (from.1, past.1) (sym (not_under issuer scope row (λ u. let a = it.high in let p = past.0 in let x = u.issuer in let y = u.scope in omega arith)))
  ]
  | inr before ↦ rw before.1 (sym (not_under issuer scope row (λ u. let a = it.low in let p = before.0 in let x = u.issuer in let y = u.scope in omega arith)))
]

filtered_as : (p q : EntryRow → Bool) (es : List EntryRow) → AllByRecursion (λ e. p e ≡ q e) es → filter (λ e. not (p e)) es ≡ filter (λ e. not (q e)) es
filtered_as p q [] h = refl
filtered_as p q (e ∷ es) h = elim (cases_Bool (q e)) [
  | inl here ↦ rw (h.0, here) (filtered_as p q es h.1)
  | inr gone ↦ rw (h.0, gone) (ap (λ more. e ∷ more) (filtered_as p q es h.1))
]

each_is : (issuer scope : ℕ) (es : List EntryRow) → scope < 3 → AllByRecursion IsInside es → AllByRecursion (λ e. in_range (list_base issuer scope) (list_base issuer scope + 4294967296) e ≡ is_under issuer scope e) es
each_is issuer scope [] few h = tt
each_is issuer scope (e ∷ es) few h = (range_is issuer scope e few h.0, each_is issuer scope es few h.1)

abbrev pub entry_cells : EntryRow → Row
entry_cells e = Int (pos e.place) ∷ Int (pos e.issuer) ∷ Int (pos e.scope) ∷ listed_cells e.listed

module _ (origin : Origin) (old new : State) (it : Contents) (held : HasContents old.now origin it) where
  -- what stands at a place is what its list has there
  pub entry_shown : (issuer scope k : ℕ) (rows : List Row) → ArePlaced it.entries → scope < 3 → k < 4294967296 → Shown select_entry (Int (pos (list_base issuer scope + k)) ∷ []) old new rows
      → rows ≡ shown listed_cells (slice_get (entries_under it.entries issuer scope) k)
  entry_shown issuer scope k rows placed few low h =
      let text = selects_entry origin in
      shows_one (λ (row : EntryRow). listed_cells row.listed) (filter (is_at (list_base issuer scope + k)) it.entries) (slice_get (filter (is_under issuer scope) it.entries) k) rows
      (at_place it.entries issuer scope k placed few low ∙ same_most (slice_get (filter (is_under issuer scope) it.entries) k))
      (finds_by (store_schema origin) (entries_position origin) _ (entries_tree origin) _ _ _ _ _ (entries_stand origin) (entries_alone origin) entry_row (λ e. pos e.place) (λ e. refl)
      select_entry (Int (pos (list_base issuer scope + k)) ∷ []) _ _ _ (is_at (list_base issuer scope + k)) (λ e. listed_cells e.listed) text.0 text.1 text.2 (passes_at (list_base issuer scope + k)) (λ e. refl)
      old new it.entries rows held.schema_is held.entries h)
      ∙ shown_of (slice_get (filter (is_under issuer scope) it.entries) k)
      ∙ ap (shown listed_cells) (sym (slice_get-map (λ (e : EntryRow). e.listed) (filter (is_under issuer scope) it.entries) k))

  -- what stands in a range, in some order
  pub range_shown : (first end : ℕ) (rows : List Row) → Shown select_entries (Int (pos first) ∷ Int (pos end) ∷ []) old new rows
      → IsPermutation (map (λ (e : EntryRow). Int (pos e.place) ∷ listed_cells e.listed) (filter (in_range first end) it.entries)) rows
  range_shown first end rows h =
      let text = selects_entries origin in
      finds_by (store_schema origin) (entries_position origin) _ (entries_tree origin) _ _ _ _ _ (entries_stand origin) (entries_alone origin) entry_row (λ e. pos e.place) (λ e. refl)
      select_entries (Int (pos first) ∷ Int (pos end) ∷ []) _ _ _ (in_range first end) (λ e. Int (pos e.place) ∷ listed_cells e.listed) text.0 text.1 text.2 (passes_range first end) (λ e. refl)
      old new it.entries rows held.schema_is held.entries h

  -- the next entry of a list is put in its place
  pub entry_added : (e : EntryRow) (count : ℕ) → ArePlaced it.entries → IsNext it.entries e → Executes insert_entry (entry_cells e) old new (Ok count)
      → HasContents new.now origin (record it { entries = put_entry e it.entries })
  entry_added e count placed next h =
      let text = inserts_entry origin in
      let left = inserts_at (store_schema origin) (entries_position origin) _ (entries_tree origin) _ _ _ _ _ (entries_stand origin) (entries_alone origin) entry_row (λ e. pos e.place) (λ e. refl)
      insert_entry (entry_cells e) _ 6 (pos e.place) (Null ∷ Int (pos e.issuer) ∷ Int (pos e.scope) ∷ listed_cells e.listed) text.0 text.1
      (rw (as_int (pos e.place), cast_null, cast_int (pos e.issuer), cast_int (pos e.scope), cast_int (pos e.listed.reason)) refl) old new it.entries count held.schema_is held.entries h in
      entries_change origin old new it held (put_entry e it.entries) (placed_put it.entries e placed next).rise
      (record { schema_is = left.schema_is; sound = left.sound; rows_are = left.rows_are ∙ put_rows e it.entries (fars it.entries e placed next); others = left.others })

  -- a list is taken out by the range of its places
  pub range_deleted : (issuer scope count : ℕ) → scope < 3 → ArePlaced it.entries → Executes delete_entries (Int (pos (list_base issuer scope)) ∷ Int (pos (list_base issuer scope + 4294967296)) ∷ []) old new (Ok count)
      → HasContents new.now origin (record it { entries = without issuer scope it.entries })
  range_deleted issuer scope count few placed h =
      let text = deletes_entries origin in
      let left = deletes_by (store_schema origin) (entries_position origin) _ (entries_tree origin) _ _ _ _ _ (entries_stand origin) (entries_alone origin) entry_row (λ e. pos e.place) (λ e. refl)
      delete_entries (Int (pos (list_base issuer scope)) ∷ Int (pos (list_base issuer scope + 4294967296)) ∷ []) _ (in_range (list_base issuer scope) (list_base issuer scope + 4294967296)) text.0 text.1
      (passes_range (list_base issuer scope) (list_base issuer scope + 4294967296)) (λ e. refl) old new it.entries count held.schema_is held.entries (rise_pos (λ (e : EntryRow). e.place) it.entries held.entries_rise) h in
      entries_change origin old new it held (without issuer scope it.entries) (placed_without it.entries issuer scope placed).rise
      (record { schema_is = left.schema_is; sound = left.sound; rows_are = left.rows_are ∙ ap (map entry_row) (filtered_as (in_range (list_base issuer scope) (list_base issuer scope + 4294967296)) (is_under issuer scope) it.entries (each_is issuer scope it.entries few placed.inside)); others = left.others })

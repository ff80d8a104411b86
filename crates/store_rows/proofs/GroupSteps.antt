-- What the statement that inserts a group of entries makes of them.
use Rattle.std.proofs.Common.{◌≡◌, ◌≤◌, ◌+◌, ℕ, suc, pos, List, [], ◌∷◌, map, length, drop, Bool, true, false, ◌/◌, Ok, Err, refl, sym, ap, ap₂, subst, ◌∙◌, inl, inr, arith}
use Rattle.std.specs.List.{AllByRecursion, list_all}
use Rattle.sqlite.specs.Order.{Row}
use Rattle.sqlite.specs.Tree.{rowid}
use Rattle.sqlite.specs.Effect.{value_rows}
use Rattle.sqlite.specs.State.{State, Executes, ExecutesInside}
use Rattle.sqlite.specs.declared.error.Error.{Error}
use Rattle.sqlite_sql.specs.Ops.{fits_i64}
use Rattle.sqlite_rules.specs.Cast.{cast_row}
use Rattle.sqlite_rules.specs.Edit.{IsOversized, are_fresh, id_in, is_taken, put_all}
use Rattle.sqlite_rules.specs.Lists.{Has}
use Rattle.statements_facts.specs.Listed.{ListedSerial}
use Rattle.store_sql.specs.declared.fault.StoreFault.TheVariants.{Store}
use Rattle.store_sql.specs.declared.origin.Origin.{Origin}
use Rattle.store_sql.specs.Cause.{MayRefuse}
use Rattle.store_sql.specs.Fault.{fault_from}
use Rattle.store_sql.specs.Tables.{store_schema, scoped_entries_table, entries_position, entries_tree}
use Rattle.store_sql.specs.Texts.{insert_entries}
use Rattle.store_sql.proofs.Laws.{accepts_terms, inserts_all, all_caused, not_taken, group_terms, inserts_entries, insert_entries_whole, EntryColumns, entries_insertion_typed}
use Rattle.store_rows.specs.Bound.{columns_from}
use Rattle.store_rows.specs.Contents.{EntryRow, Contents, entry_row}
use Rattle.store_rows.specs.Holding.{HasContents}
use Rattle.store_rows.specs.Places.{fill, put_entry}
use Rattle.store_rows.specs.Room.{FitRow}
use Rattle.store_rows.proofs.Placing.{fars}
use Rattle.store_rows.proofs.Refilling.{Follow, row_at, first_next, others_follow, filled}
use Rattle.store_rows.proofs.Others.{entries_change}
use Rattle.store_rows.proofs.EntrySteps.{entries_stand, entries_alone, put_rows}
use Rattle.store_rows.proofs.NewRows.{no_references, entry_small, no_entries_key}
use Rattle.store_rows.proofs.Refused.{all_as, place_fits, other_place, keeps}
use Rattle.store_rows.proofs.Terms.{cast_null, cast_int, as_int}

-- ---- a group has eight

record Eight (ps : List ListedSerial) : Type 0 where
  pub one : ListedSerial
  pub two : ListedSerial
  pub three : ListedSerial
  pub four : ListedSerial
  pub five : ListedSerial
  pub six : ListedSerial
  pub seven : ListedSerial
  pub last : ListedSerial
  pub is : ps ≡ one ∷ two ∷ three ∷ four ∷ five ∷ six ∷ seven ∷ last ∷ []

eight : (ps : List ListedSerial) → length ps ≡ 8 → Eight ps
eight [] at = absurd (omega (arith, at))
eight (a ∷ []) at = absurd (omega (arith, at))
eight (a ∷ b ∷ []) at = absurd (omega (arith, at))
eight (a ∷ b ∷ c ∷ []) at = absurd (omega (arith, at))
eight (a ∷ b ∷ c ∷ d ∷ []) at = absurd (omega (arith, at))
eight (a ∷ b ∷ c ∷ d ∷ e ∷ []) at = absurd (omega (arith, at))
eight (a ∷ b ∷ c ∷ d ∷ e ∷ f ∷ []) at = absurd (omega (arith, at))
eight (a ∷ b ∷ c ∷ d ∷ e ∷ f ∷ g ∷ []) at = absurd (omega (arith, at))
eight (a ∷ b ∷ c ∷ d ∷ e ∷ f ∷ g ∷ h ∷ []) at = record { one = a; two = b; three = c; four = d; five = e; six = f; seven = g; last = h; is = refl }
eight (a ∷ b ∷ c ∷ d ∷ e ∷ f ∷ g ∷ h ∷ i ∷ more) at = absurd (omega (arith, at))

-- ---- its rows

abbrev pub rows_from : ℕ → ℕ → ℕ → List ListedSerial → List EntryRow
rows_from i s n [] = []
rows_from i s n (p ∷ ps) = row_at i s n p ∷ rows_from i s (suc n) ps

sources : (i s n : ℕ) (ps : List ListedSerial) → Eight ps → value_rows (columns_from i s n ps) 6 (length group_terms / 6) group_terms ≡ map entry_row (rows_from i s n ps)
sources i s n ps it = subst (λ ps. value_rows (columns_from i s n ps) 6 (length group_terms / 6) group_terms ≡ map entry_row (rows_from i s n ps)) (sym it.is) refl

count : (i s n : ℕ) (ps : List ListedSerial) → Eight ps → length (columns_from i s n ps) ≡ 40
count i s n ps it = subst (λ ps. length (columns_from i s n ps) ≡ 40) (sym it.is) refl

abbrev columns_of : ℕ → ℕ → ℕ → ListedSerial → EntryColumns
columns_of i s n p = record { place = pos n; issuer = pos i; scope = pos s; serial = p.serial; reason = pos p.reason }

typed : (i s n : ℕ) (ps : List ListedSerial) → Eight ps → accepts_terms group_terms (columns_from i s n ps) ≡ true
typed i s n ps it = subst (λ ps. accepts_terms group_terms (columns_from i s n ps) ≡ true) (sym it.is)
    (entries_insertion_typed (columns_of i s n it.one) (columns_of i s (suc n) it.two) (columns_of i s (suc (suc n)) it.three) (columns_of i s (suc (suc (suc n))) it.four)
    (columns_of i s (suc (suc (suc (suc n)))) it.five) (columns_of i s (suc (suc (suc (suc (suc n))))) it.six) (columns_of i s (suc (suc (suc (suc (suc (suc n)))))) it.seven)
    (columns_of i s (suc (suc (suc (suc (suc (suc (suc n))))))) it.last))

cast_each : (origin : Origin) (es : List EntryRow) → map (λ s. cast_row (scoped_entries_table (entries_tree origin)) (drop 0 s)) (map entry_row es) ≡ map entry_row es
cast_each origin [] = refl
cast_each origin (e ∷ es) = ap₂ (λ row rows. row ∷ rows) (cast_one e) (cast_each origin es)
  where
    cast_one : (e : EntryRow) → cast_row (scoped_entries_table (entries_tree origin)) (drop 0 (entry_row e)) ≡ entry_row e
    cast_one e = rw (as_int (pos e.place), cast_null, cast_int (pos e.issuer), cast_int (pos e.scope), cast_int (pos e.listed.reason)) refl

rows_put : (es : List EntryRow) (i s n : ℕ) (ps : List ListedSerial) → Follow es i s n ps → put_all (map entry_row es) (map entry_row (rows_from i s n ps)) ≡ map entry_row (fill es i s n ps)
rows_put es i s n [] it = refl
rows_put es i s n (p ∷ ps) it =
    ap (λ rows. put_all rows (map entry_row (rows_from i s (suc n) ps))) (put_rows (row_at i s n p) es (fars es (row_at i s n p) it.placed (first_next es i s n p ps it)))
    ∙ rows_put (put_entry (row_at i s n p) es) i s (suc n) ps (others_follow es i s n p ps it)

-- ---- the table may have them

rows_fresh : (es : List EntryRow) (i s n : ℕ) (ps : List ListedSerial) → Follow es i s n ps → are_fresh (map entry_row es) (map entry_row (rows_from i s n ps)) ≡ true
rows_fresh es i s n [] it = refl
rows_fresh es i s n (p ∷ ps) it =
    let far = fars es (row_at i s n p) it.placed (first_next es i s n p ps it) in
    let free : is_taken (map entry_row es) (entry_row (row_at i s n p)) ≡ false =
    not_taken entry_row (λ e. pos e.place) (λ e. refl) (pos n) (drop 1 (entry_row (row_at i s n p))) es (all_as _ _ es (λ e apart. other_place e.place n apart) far) in
    rw (free, put_rows (row_at i s n p) es far) (rows_fresh (put_entry (row_at i s n p) es) i s (suc n) ps (others_follow es i s n p ps it))

each_row : (test : Row → Bool) → ((e : EntryRow) → test (entry_row e) ≡ true) → (es : List EntryRow) → list_all test (map entry_row es) ≡ true
each_row test each [] = refl
each_row test each (e ∷ es) = rw (each e) (each_row test each es)

rows_fit : (i s n : ℕ) (ps : List ListedSerial) → n + length ps ≤ 9223372036854775808 → list_all (λ row. fits_i64 (id_in (rowid row))) (map entry_row (rows_from i s n ps)) ≡ true
rows_fit i s n [] low = refl
rows_fit i s n (p ∷ ps) low = rw (place_fits n (omega (arith, low))) (rows_fit i s (suc n) ps (omega (arith, low)))

rows_small : (origin : Origin) (i s n : ℕ) (ps : List ListedSerial) → AllByRecursion (λ (p : ListedSerial). FitRow (length p.serial)) ps
    → (row : Row) → Has (map entry_row (rows_from i s n ps)) row → ¬ IsOversized (store_schema origin) (scoped_entries_table (entries_tree origin)) row
rows_small origin i s n [] short row none = absurd none
rows_small origin i s n (p ∷ ps) short row (inl same) =
    subst (λ r. ¬ IsOversized (store_schema origin) (scoped_entries_table (entries_tree origin)) r) (sym same) (entry_small origin (row_at i s n p) short.0)
rows_small origin i s n (p ∷ ps) short row (inr more) = rows_small origin i s (suc n) ps short.1 row more

-- ---- the statement

module _ (origin : Origin) (old new : State) (it : Contents) (held : HasContents old.now origin it) (i s n : ℕ) (ps : List ListedSerial) (all : length ps ≡ 8) (follow : Follow it.entries i s n ps) where
  casts : map (λ s. cast_row (scoped_entries_table (entries_tree origin)) (drop 0 s)) (value_rows (columns_from i s n ps) 6 (length group_terms / 6) group_terms) ≡ map entry_row (rows_from i s n ps)
  casts = ap (map (λ s. cast_row (scoped_entries_table (entries_tree origin)) (drop 0 s))) (sources i s n ps (eight ps all)) ∙ cast_each origin (rows_from i s n ps)

  pub entries_added : (count : ℕ) → Executes insert_entries (columns_from i s n ps) old new (Ok count) → HasContents new.now origin (record it { entries = fill it.entries i s n ps })
  entries_added count h =
      let text = inserts_entries origin in
      let left = inserts_all (store_schema origin) (entries_position origin) _ (entries_tree origin) _ _ _ _ _ (entries_stand origin) (entries_alone origin) entry_row (λ e. pos e.place) (λ e. refl)
      insert_entries (columns_from i s n ps) group_terms 6 (rows_from i s n ps) text.0 text.1 casts old new it.entries count held.schema_is held.entries h in
      entries_change origin old new it held (fill it.entries i s n ps) (filled it.entries i s n ps follow).0.rise
      (record { schema_is = left.schema_is; sound = left.sound; rows_are = left.rows_are ∙ rows_put it.entries i s n ps follow; others = left.others })

  pub entries_not_added : n + length ps ≤ 9223372036854775808 → AllByRecursion (λ (p : ListedSerial). FitRow (length p.serial)) ps
      → (error : Error) → ExecutesInside 0 insert_entries (columns_from i s n ps) old new (Err error) → fault_from error ≡ Store → MayRefuse old new
  entries_not_added low short =
      let text = inserts_entries origin in
      all_caused (store_schema origin) (entries_position origin) _ (entries_tree origin) _ _ _ _ _ (entries_stand origin) (entries_alone origin) (no_references origin) entry_row (λ e. pos e.place) (λ e. refl)
      insert_entries (columns_from i s n ps) group_terms 6 text.0 text.1 (rw (count i s n ps (eight ps all)) (insert_entries_whole origin)) (typed i s n ps (eight ps all))
      old new it.entries held.schema_is held.entries (keeps origin old new it held) (rows_from i s n ps)
      (record {
        typed = each_row _ (λ e. refl) (rows_from i s n ps);
        present = each_row _ (λ e. refl) (rows_from i s n ps);
        integer = each_row _ (λ e. refl) (rows_from i s n ps);
        fits = rows_fit i s n ps low;
        free = rows_fresh it.entries i s n ps follow;
        keyless = no_entries_key origin;
        small = rows_small origin i s n ps short;
      })
      casts

-- The entries of a list take the place of those that stood there, one after the other.
use Rattle.std.proofs.Common.{◌≡◌, ◌<◌, ◌≤◌, ◌+◌, ◌-◌, take-add, ℕ, zero, suc, Err, All, pos, List, [], ◌∷◌, ◌++◌, map, filter, length, take, drop, slice_range, get_or, Ok, refl, sym, ap, subst, ◌∙◌, arith}
use Rattle.std.proofs.Math.Seq.{take-length}
use Rattle.std.proofs.lemmas.List.{map_more, take-append-drop, map-append, length-drop, length-take-le}
use Rattle.std.specs.List.{AllByRecursion}
use Rattle.std.specs.Ordering.{nat_cmp}
use Rattle.std.specs.Cmp.Lexicographic.{slice_cmp}
use Rattle.std.proofs.lemmas.Map.Keys.{sorted_tail}
use Rattle.std.proofs.lemmas.Map.Views.{All-after_first}
use Rattle.sqlite.specs.declared.types.Value.TheVariants.{Int}
use Rattle.sqlite.specs.State.{State, KeepsCommit, ExecutesInside, HasCleanDisk, Survives}
use Rattle.sqlite.specs.declared.error.Error.{Error}
use Rattle.sqlite_trees.specs.Tree.{IsAscending}
use Rattle.statements_facts.specs.declared.revoked.Listed.{Listed}
use Rattle.statements_facts.specs.Listed.{ListedSerial, seen_listed, IsAscending as Ascend}
use Rattle.store_sql.specs.declared.fault.StoreFault.TheVariants.{Store}
use Rattle.store_sql.specs.declared.origin.Origin.{Origin}
use Rattle.store_sql.specs.Cause.{MayRefuse}
use Rattle.store_sql.specs.Fault.{fault_from}
use Rattle.store_sql.specs.Texts.{delete_entries, insert_entry, insert_entries}
use Rattle.store_sql.proofs.Laws.{later_refuses}
use Rattle.store_rows.specs.Bound.{columns_from}
use Rattle.store_rows.specs.Contents.{EntryRow, Contents, listed_cells}
use Rattle.store_rows.specs.Places.{IsBelow, list_base, fill, is_under, put_entry, replaced, without}
use Rattle.store_rows.specs.Holding.{HasContents, AreInForm, HasByte, FitInList, with_entries}
use Rattle.store_rows.specs.Room.{FitRow, EntriesFit}
use Rattle.store_rows.specs.Steps.{Moves, IsCausedIfRoom}
use Rattle.store_rows.proofs.Refused.{entry_not_added}
use Rattle.store_rows.proofs.Placing.{IsNext, fars}
use Rattle.store_rows.proofs.Refilling.{Follow, length_map, befores, replaces, all_front, ascends_front, rest_follows}
use Rattle.store_rows.proofs.GroupSteps.{entries_added, entries_not_added}
use Rattle.store_rows.proofs.Finding.{moves}
use Rattle.store_rows.proofs.EntrySteps.{range_deleted, entry_added}

-- ---- lists

each_of : {X : Type 0} (P : X → Type 0) (xs : List X) → All P xs → AllByRecursion P xs
each_of P [] h = tt
each_of P (x ∷ xs) h = (h 0 x (omega arith), each_of P xs (λ k d low. h (suc k) d (omega (arith, low))))

pub ascends : (xs : List ListedSerial) → Ascend xs → IsAscending IsBelow xs
ascends [] h = tt
ascends (x ∷ xs) h = (each_of (IsBelow x) xs (All-after_first (λ (one other : ListedSerial). slice_cmp nat_cmp one.serial other.serial) x xs h), ascends xs (sorted_tail (λ (one other : ListedSerial). slice_cmp nat_cmp one.serial other.serial) x xs h))

fill_more : (es : List EntryRow) (issuer scope n : ℕ) (ps : List ListedSerial) (p : ListedSerial)
    → fill es issuer scope n (ps ++ p ∷ []) ≡ put_entry (record { place = n + length ps; issuer = issuer; scope = scope; listed = p }) (fill es issuer scope n ps)
fill_more es issuer scope n [] p = ap (λ place. put_entry (record { place = place; issuer = issuer; scope = scope; listed = p }) es) (omega arith)
fill_more es issuer scope n (q ∷ ps) p =
    fill_more (put_entry (record { place = n; issuer = issuer; scope = scope; listed = q }) es) issuer scope (suc n) ps p
    ∙ ap (λ place. put_entry (record { place = place; issuer = issuer; scope = scope; listed = p }) (fill (put_entry (record { place = n; issuer = issuer; scope = scope; listed = q }) es) issuer scope (suc n) ps)) (omega arith)

-- ---- the loop

pub emptied_first : (old new : State) (issuer scope count : ℕ) → scope < 3 → ExecutesInside 0 delete_entries (Int (pos (list_base issuer scope)) ∷ Int (pos (list_base issuer scope + 4294967296)) ∷ []) old new (Ok count)
    → Moves old new (with_entries issuer scope [])
emptied_first old new issuer scope count few h =
    moves old new delete_entries (Int (pos (list_base issuer scope)) ∷ Int (pos (list_base issuer scope + 4294967296)) ∷ []) count (with_entries issuer scope []) h
    (λ origin it held form. range_deleted origin old new it held issuer scope count few form.placed h.0)

moves_on : (old mid new : State) (issuer scope k count : ℕ) (ps : List ListedSerial) (p : ListedSerial) → Moves old mid (with_entries issuer scope ps) → issuer < 536870911 → scope < 3 → k ≡ length ps → k < 4294967296
    → IsAscending IsBelow (ps ++ p ∷ [])
    → ExecutesInside 0 insert_entry (Int (pos (list_base issuer scope + k)) ∷ Int (pos issuer) ∷ Int (pos scope) ∷ listed_cells p) mid new (Ok count)
    → Moves old new (with_entries issuer scope (ps ++ p ∷ []))
moves_on old mid new issuer scope k count ps p so few scopes at room up h = record {
  was_open = so.was_open;
  is_open = h.1.is_open;
  committed_is = h.1.committed_is ∙ so.committed_is;
  mode = rw h.1.mode refl;
  rows = λ origin it held form.
      let was = replaces it.entries issuer scope ps form.placed few scopes (omega (arith, at, room)) (ascends_front ps (p ∷ []) up) in
      let e : EntryRow = record { place = list_base issuer scope + k; issuer = issuer; scope = scope; listed = p } in
      let size : k ≡ length (filter (is_under issuer scope) (replaced it.entries issuer scope ps)) =
      at ∙ ap length (sym was.own) ∙ length_map (λ (e : EntryRow). e.listed) (filter (is_under issuer scope) (replaced it.entries issuer scope ps)) in
      let next : IsNext (replaced it.entries issuer scope ps) e = record {
        inside = record { issuer = few; scope = scopes; low = omega arith; high = omega (arith, room) };
        next = ap (λ n. list_base issuer scope + n) size;
        above = subst (AllByRecursion (λ x. IsBelow x p)) (sym was.own) (befores ps p [] up);
      } in
      let added = entry_added origin mid new (with_entries issuer scope ps it) (so.rows origin it held form) e count was.placed next h.0 in
      let same : put_entry e (replaced it.entries issuer scope ps) ≡ replaced it.entries issuer scope (ps ++ p ∷ []) =
      ap (λ n. put_entry (record { place = list_base issuer scope + n; issuer = issuer; scope = scope; listed = p }) (replaced it.entries issuer scope ps)) at
      ∙ sym (fill_more (without issuer scope it.entries) issuer scope (list_base issuer scope) ps p) in
      subst (λ es. HasContents new.now origin (record it { entries = es })) same added;
}

-- the next entry is refused only for cause
not_added_on : (old mid new : State) (issuer scope k : ℕ) (ps : List ListedSerial) (p : ListedSerial) → Moves old mid (with_entries issuer scope ps) → issuer < 536870911 → scope < 3 → k ≡ length ps → k < 4294967296
    → IsAscending IsBelow (ps ++ p ∷ []) → FitRow (length p.serial)
    → (error : Error) → ExecutesInside 0 insert_entry (Int (pos (list_base issuer scope + k)) ∷ Int (pos issuer) ∷ Int (pos scope) ∷ listed_cells p) mid new (Err error) → fault_from error ≡ Store
    → (origin : Origin) (it : Contents) → HasContents old.now origin it → AreInForm it → MayRefuse mid new
not_added_on old mid new issuer scope k ps p so few scopes at room up short error h is origin it held form =
    let was = replaces it.entries issuer scope ps form.placed few scopes (omega (arith, at, room)) (ascends_front ps (p ∷ []) up) in
    let e : EntryRow = record { place = list_base issuer scope + k; issuer = issuer; scope = scope; listed = p } in
    let size : k ≡ length (filter (is_under issuer scope) (replaced it.entries issuer scope ps)) =
    at ∙ ap length (sym was.own) ∙ length_map (λ (e : EntryRow). e.listed) (filter (is_under issuer scope) (replaced it.entries issuer scope ps)) in
    let next : IsNext (replaced it.entries issuer scope ps) e = record {
      inside = record { issuer = few; scope = scopes; low = omega arith; high = omega (arith, room) };
      next = ap (λ n. list_base issuer scope + n) size;
      above = subst (AllByRecursion (λ x. IsBelow x p)) (sym was.own) (befores ps p [] up);
    } in
    entry_not_added origin mid new (with_entries issuer scope ps it) (so.rows origin it held form) e (fars (replaced it.entries issuer scope ps) e was.placed next)
    (omega (arith, few, scopes, room)) short error h is

-- ---- a group

fill_and : (es : List EntryRow) (issuer scope n : ℕ) (ps qs : List ListedSerial) → fill es issuer scope n (ps ++ qs) ≡ fill (fill es issuer scope n ps) issuer scope (n + length ps) qs
fill_and es issuer scope n [] qs = ap (λ place. fill es issuer scope place qs) (omega arith)
fill_and es issuer scope n (p ∷ ps) qs =
    fill_and (put_entry (record { place = n; issuer = issuer; scope = scope; listed = p }) es) issuer scope (suc n) ps qs
    ∙ ap (λ place. fill (fill (put_entry (record { place = n; issuer = issuer; scope = scope; listed = p }) es) issuer scope (suc n) ps) issuer scope place qs) (omega arith)

group_follows : (it : Contents) (issuer scope k : ℕ) (ps qs : List ListedSerial) → AreInForm it → issuer < 536870911 → scope < 3 → k ≡ length ps → length qs ≡ 8 → k + 8 ≤ 4294967296 → IsAscending IsBelow (ps ++ qs)
    → Follow (replaced it.entries issuer scope ps) issuer scope (list_base issuer scope + k) qs
group_follows it issuer scope k ps qs form few scopes at eight room up =
    subst (λ n. Follow (replaced it.entries issuer scope ps) issuer scope (list_base issuer scope + n) qs) (sym at)
    (rest_follows it.entries issuer scope ps qs form.placed few scopes (omega (arith, at, eight, room)) up)

group_moves : (old mid new : State) (issuer scope k count : ℕ) (ps qs : List ListedSerial) → Moves old mid (with_entries issuer scope ps) → issuer < 536870911 → scope < 3 → k ≡ length ps → length qs ≡ 8 → k + 8 ≤ 4294967296
    → IsAscending IsBelow (ps ++ qs) → ExecutesInside 0 insert_entries (columns_from issuer scope (list_base issuer scope + k) qs) mid new (Ok count)
    → Moves old new (with_entries issuer scope (ps ++ qs))
group_moves old mid new issuer scope k count ps qs so few scopes at eight room up h = record {
  was_open = so.was_open;
  is_open = h.1.is_open;
  committed_is = h.1.committed_is ∙ so.committed_is;
  mode = rw h.1.mode refl;
  rows = λ origin it held form.
      let added = entries_added origin mid new (with_entries issuer scope ps it) (so.rows origin it held form) issuer scope (list_base issuer scope + k) qs eight
      (group_follows it issuer scope k ps qs form few scopes at eight room up) count h.0 in
      let same : fill (replaced it.entries issuer scope ps) issuer scope (list_base issuer scope + k) qs ≡ replaced it.entries issuer scope (ps ++ qs) =
      ap (λ n. fill (replaced it.entries issuer scope ps) issuer scope (list_base issuer scope + n) qs) at
      ∙ sym (fill_and (without issuer scope it.entries) issuer scope (list_base issuer scope) ps qs) in
      subst (λ es. HasContents new.now origin (record it { entries = es })) same added;
}

group_not_added : (old mid new : State) (issuer scope k : ℕ) (ps qs : List ListedSerial) → Moves old mid (with_entries issuer scope ps) → issuer < 536870911 → scope < 3 → k ≡ length ps → length qs ≡ 8 → k + 8 ≤ 4294967296
    → IsAscending IsBelow (ps ++ qs) → AllByRecursion (λ (p : ListedSerial). FitRow (length p.serial)) qs
    → (error : Error) → ExecutesInside 0 insert_entries (columns_from issuer scope (list_base issuer scope + k) qs) mid new (Err error) → fault_from error ≡ Store
    → (origin : Origin) (it : Contents) → HasContents old.now origin it → AreInForm it → MayRefuse mid new
group_not_added old mid new issuer scope k ps qs so few scopes at eight room up short error h is origin it held form =
    entries_not_added origin mid new (with_entries issuer scope ps it) (so.rows origin it held form) issuer scope (list_base issuer scope + k) qs eight
    (group_follows it issuer scope k ps qs form few scopes at eight room up) (omega (arith, few, scopes, room, eight)) short error h is

-- ---- the lists of the loops

-- the list so far with the next, and what is left
parts : (all : List Listed) (k : ℕ) (d : Listed) → k < length all → map seen_listed all ≡ (map seen_listed (take k all) ++ seen_listed (get_or all k d) ∷ []) ++ map seen_listed (drop (k + 1) all)
parts all k d low =
    ap (map seen_listed) (sym (take-append-drop (k + 1) all)) ∙ map-append seen_listed (take (k + 1) all) (drop (k + 1) all)
    ∙ ap (λ xs. xs ++ map seen_listed (drop (k + 1) all)) (map_more seen_listed all k d low)

pub one_more : (old mid new : State) (issuer scope k count : ℕ) (all : List Listed) (d : Listed) → k < length all → length all ≤ 4294967296 → Ascend (map seen_listed all)
    → issuer < 536870911 → scope < 3 → Moves old mid (with_entries issuer scope (map seen_listed (take k all)))
    → ExecutesInside 0 insert_entry (Int (pos (list_base issuer scope + k)) ∷ Int (pos issuer) ∷ Int (pos scope) ∷ listed_cells (seen_listed (get_or all k d))) mid new (Ok count)
    → Moves old new (with_entries issuer scope (map seen_listed (take (k + 1) all)))
one_more old mid new issuer scope k count all d low few up issuers scopes so h =
    let size : k ≡ length (map seen_listed (take k all)) = sym (length_map seen_listed (take k all) ∙ length-take-le k all (omega (arith, low))) in
    let whole = subst (IsAscending IsBelow) (parts all k d low) (ascends (map seen_listed all) up) in
    let front = ascends_front (map seen_listed (take k all) ++ seen_listed (get_or all k d) ∷ []) (map seen_listed (drop (k + 1) all)) whole in
    subst (λ ps. Moves old new (with_entries issuer scope ps)) (sym (map_more seen_listed all k d low))
    (moves_on old mid new issuer scope k count (map seen_listed (take k all)) (seen_listed (get_or all k d)) so issuers scopes size (omega (arith, low, few)) front h)

short_at : (all : List Listed) (k : ℕ) (d : Listed) → k < length all → AllByRecursion (λ (entry : ListedSerial). FitRow (length entry.serial)) (map seen_listed all) → FitRow (length (seen_listed (get_or all k d)).serial)
short_at [] k d low h = absurd (omega (arith, low))
short_at (x ∷ all) zero d low h = h.0
short_at (x ∷ all) (suc k) d low h = short_at all k d (omega (arith, low)) h.1

-- and so the fault has a cause
pub not_one_more : (old mid new : State) (issuer scope k : ℕ) (all : List Listed) (d : Listed) → k < length all → length all ≤ 4294967296 → Ascend (map seen_listed all)
    → issuer < 536870911 → scope < 3 → Moves old mid (with_entries issuer scope (map seen_listed (take k all))) → Survives old mid (λ _. ⊥) → Survives mid new (λ _. ⊥) → HasCleanDisk mid
    → (error : Error) → ExecutesInside 0 insert_entry (Int (pos (list_base issuer scope + k)) ∷ Int (pos issuer) ∷ Int (pos scope) ∷ listed_cells (seen_listed (get_or all k d))) mid new (Err error)
    → IsCausedIfRoom (λ _. EntriesFit (map seen_listed all)) old new (fault_from error)
not_one_more old mid new issuer scope k all d low few up issuers scopes so first second clean error h is origin it held form fit =
    let size : k ≡ length (map seen_listed (take k all)) = sym (length_map seen_listed (take k all) ∙ length-take-le k all (omega (arith, low))) in
    let whole = subst (IsAscending IsBelow) (parts all k d low) (ascends (map seen_listed all) up) in
    let front = ascends_front (map seen_listed (take k all) ++ seen_listed (get_or all k d) ∷ []) (map seen_listed (drop (k + 1) all)) whole in
    later_refuses old mid new _ _ first second clean
    (not_added_on old mid new issuer scope k (map seen_listed (take k all)) (seen_listed (get_or all k d)) so issuers scopes size (omega (arith, low, few)) front (short_at all k d low fit.short) error h is origin it held form)

-- a fault on the way
pub moves_keep : (old new : State) (changed : Contents → Contents) → Moves old new changed → KeepsCommit old new
moves_keep old new changed m = record { was_open = λ _. m.was_open; committed = λ _. m.committed_is }

-- ---- a group of the list

group_front : (k : ℕ) (all : List Listed) → take (k + 8) all ≡ take k all ++ slice_range all k (k + 8)
group_front k all = let all_eight : 8 ≡ k + 8 - k = omega arith in take-add k 8 all ∙ ap (λ n. take k all ++ take n (drop k all)) all_eight

seen_front : (k : ℕ) (all : List Listed) → map seen_listed (take (k + 8) all) ≡ map seen_listed (take k all) ++ map seen_listed (slice_range all k (k + 8))
seen_front k all = ap (map seen_listed) (group_front k all) ∙ map-append seen_listed (take k all) (slice_range all k (k + 8))

group_parts : (k : ℕ) (all : List Listed) → map seen_listed all ≡ (map seen_listed (take k all) ++ map seen_listed (slice_range all k (k + 8))) ++ map seen_listed (drop (k + 8) all)
group_parts k all =
    ap (map seen_listed) (sym (take-append-drop (k + 8) all)) ∙ map-append seen_listed (take (k + 8) all) (drop (k + 8) all)
    ∙ ap (λ xs. xs ++ map seen_listed (drop (k + 8) all)) (seen_front k all)

all_back : {X : Type 0} (P : X → Type 0) (xs ys : List X) → AllByRecursion P (xs ++ ys) → AllByRecursion P ys
all_back P [] ys h = h
all_back P (x ∷ xs) ys h = all_back P xs ys h.1

all_joined : {X : Type 0} (P : X → Type 0) (xs ys : List X) → AllByRecursion P xs → AllByRecursion P ys → AllByRecursion P (xs ++ ys)
all_joined P [] ys one two = two
all_joined P (x ∷ xs) ys one two = (one.0, all_joined P xs ys one.1 two)

module _ (old mid new : State) (issuer scope k : ℕ) (all : List Listed) (low : k + 8 ≤ length all) (few : length all ≤ 4294967296) (up : Ascend (map seen_listed all)) (issuers : issuer < 536870911) (scopes : scope < 3)
    (so : Moves old mid (with_entries issuer scope (map seen_listed (take k all)))) where
  size : k ≡ length (map seen_listed (take k all))
  size = sym (length_map seen_listed (take k all) ∙ length-take-le k all (omega (arith, low)))

  have_eight : length (map seen_listed (slice_range all k (k + 8))) ≡ 8
  have_eight = let all_eight : k + 8 - k ≡ 8 = omega arith in length_map seen_listed (slice_range all k (k + 8)) ∙ length-take-le (k + 8 - k) (drop k all) (omega (arith, low, length-drop k all)) ∙ all_eight

  in_order : IsAscending IsBelow (map seen_listed (take k all) ++ map seen_listed (slice_range all k (k + 8)))
  in_order = ascends_front (map seen_listed (take k all) ++ map seen_listed (slice_range all k (k + 8))) (map seen_listed (drop (k + 8) all)) (subst (IsAscending IsBelow) (group_parts k all) (ascends (map seen_listed all) up))

  pub one_more_group : (count : ℕ) → ExecutesInside 0 insert_entries (columns_from issuer scope (list_base issuer scope + k) (map seen_listed (slice_range all k (k + 8)))) mid new (Ok count)
      → Moves old new (with_entries issuer scope (map seen_listed (take (k + 8) all)))
  one_more_group count h =
      subst (λ ps. Moves old new (with_entries issuer scope ps)) (sym (seen_front k all))
      (group_moves old mid new issuer scope k count (map seen_listed (take k all)) (map seen_listed (slice_range all k (k + 8))) so issuers scopes size have_eight (omega (arith, low, few)) in_order h)

  pub not_one_more_group : Survives old mid (λ _. ⊥) → Survives mid new (λ _. ⊥) → HasCleanDisk mid
      → (error : Error) → ExecutesInside 0 insert_entries (columns_from issuer scope (list_base issuer scope + k) (map seen_listed (slice_range all k (k + 8)))) mid new (Err error)
      → IsCausedIfRoom (λ _. EntriesFit (map seen_listed all)) old new (fault_from error)
  not_one_more_group first second clean error h is origin it held form fit =
      later_refuses old mid new _ _ first second clean
      (group_not_added old mid new issuer scope k (map seen_listed (take k all)) (map seen_listed (slice_range all k (k + 8))) so issuers scopes size have_eight (omega (arith, low, few)) in_order
      (all_back _ (map seen_listed (take k all)) (map seen_listed (slice_range all k (k + 8)))
      (all_front _ (map seen_listed (take k all) ++ map seen_listed (slice_range all k (k + 8))) (map seen_listed (drop (k + 8) all)) (subst (AllByRecursion (λ (entry : ListedSerial). FitRow (length entry.serial))) (group_parts k all) fit.short)))
      error h is origin it held form)

pub group_bytes : (all : List Listed) (k : ℕ) → AllByRecursion HasByte (map seen_listed (take k all)) → AllByRecursion HasByte (map seen_listed (slice_range all k (k + 8))) → AllByRecursion HasByte (map seen_listed (take (k + 8) all))
group_bytes all k so more = subst (AllByRecursion HasByte) (sym (seen_front k all)) (all_joined HasByte (map seen_listed (take k all)) (map seen_listed (slice_range all k (k + 8))) so more)

-- ---- the form of what is written

all_and : {X : Type 0} (P : X → Type 0) (xs : List X) (x : X) → AllByRecursion P xs → P x → AllByRecursion P (xs ++ x ∷ [])
all_and P [] x h one = (one, tt)
all_and P (y ∷ xs) x h one = (h.0, all_and P xs x h.1 one)

pub one_more_byte : (all : List Listed) (k : ℕ) (d : Listed) → k < length all → AllByRecursion HasByte (map seen_listed (take k all)) → HasByte (seen_listed (get_or all k d)) → AllByRecursion HasByte (map seen_listed (take (k + 1) all))
one_more_byte all k d low so one = subst (AllByRecursion HasByte) (sym (map_more seen_listed all k d low)) (all_and HasByte (map seen_listed (take k all)) (seen_listed (get_or all k d)) so one)

pub all_written : (all : List Listed) (k : ℕ) → k ≡ length all → length all ≤ 4294967296 → Ascend (map seen_listed all) → AllByRecursion HasByte (map seen_listed (take k all)) → FitInList (map seen_listed all)
all_written all k at few up bytes = record {
  few = omega (arith, few, length_map seen_listed all);
  ascend = up;
  bytes = subst (λ xs. AllByRecursion HasByte (map seen_listed xs)) (ap (λ n. take n all) at ∙ take-length all) bytes;
}

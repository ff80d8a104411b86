-- A list that replaces another keeps every row in its place.
use Rattle.std.proofs.Common.{◌≡◌, ◌≢◌, ◌⊎◌, ℕ, suc, ◌+◌, ◌<◌, ◌≤◌, List, [], ◌∷◌, ◌++◌, filter, map, length, refl, sym, ap, subst, ◌∙◌, arith, append-nil, append_assoc}
use Rattle.std.proofs.lemmas.List.{length-append}
use Rattle.std.specs.List.{AllByRecursion}
use Rattle.sqlite_trees.specs.Tree.{IsAscending}
use Rattle.statements_facts.specs.Listed.{ListedSerial}
use Rattle.store_rows.specs.Contents.{EntryRow}
use Rattle.store_rows.specs.Places.{IsBelow, is_under, entries_under, list_base, ArePlaced, put_entry, without, fill, replaced, Replaces}
use Rattle.store_rows.proofs.Placing.{IsNext, own_put, slot_put, slot_spared, placed_put, placed_without, emptied, spared}

pub length_map : {X Y : Type 0} (f : X → Y) (xs : List X) → length (map f xs) ≡ length xs
length_map f [] = refl
length_map f (x ∷ xs) = ap suc (length_map f xs)

-- all before are below the first of what follows
pub befores : (xs : List ListedSerial) (p : ListedSerial) (ps : List ListedSerial) → IsAscending IsBelow (xs ++ p ∷ ps) → AllByRecursion (λ x. IsBelow x p) xs
befores [] p ps up = tt
befores (x ∷ xs) p ps up = (first xs up.0, befores xs p ps up.1)
  where
    first : (ys : List ListedSerial) → AllByRecursion (IsBelow x) (ys ++ p ∷ ps) → IsBelow x p
    first [] h = h.0
    first (y ∷ ys) h = first ys h.1

abbrev pub row_at : ℕ → ℕ → ℕ → ListedSerial → EntryRow
row_at i s n p = record { place = n; issuer = i; scope = s; listed = p }

-- from this place on these may follow what a list has
pub record Follow (es : List EntryRow) (i s n : ℕ) (ps : List ListedSerial) : Type 0 where
  pub placed : ArePlaced es
  pub issuer : i < 536870911
  pub scope : s < 3
  pub at : n ≡ list_base i s + length (filter (is_under i s) es)
  pub room : n + length ps ≤ list_base i s + 4294967296
  pub up : IsAscending IsBelow (entries_under es i s ++ ps)

pub first_next : (es : List EntryRow) (i s n : ℕ) (p : ListedSerial) (ps : List ListedSerial) → Follow es i s n (p ∷ ps) → IsNext es (row_at i s n p)
first_next es i s n p ps it = record {
  inside = record { issuer = it.issuer; scope = it.scope; low = omega (arith, it.at); high = omega (arith, it.room) };
  next = it.at;
  above = befores (entries_under es i s) p ps it.up;
}

pub others_follow : (es : List EntryRow) (i s n : ℕ) (p : ListedSerial) (ps : List ListedSerial) → Follow es i s n (p ∷ ps) → Follow (put_entry (row_at i s n p) es) i s (suc n) ps
others_follow es i s n p ps it =
    let new = row_at i s n p in
    let is : IsNext es new = first_next es i s n p ps it in
    let own : entries_under (put_entry new es) i s ≡ entries_under es i s ++ p ∷ [] = slot_put es new it.placed is in
    let joined : entries_under (put_entry new es) i s ++ ps ≡ entries_under es i s ++ p ∷ ps = ap (λ xs. xs ++ ps) own ∙ append_assoc (entries_under es i s) (p ∷ []) ps in
    let count : length (filter (is_under i s) (put_entry new es)) ≡ length (filter (is_under i s) es) + 1 = ap length (own_put es new it.placed is) ∙ length-append (filter (is_under i s) es) (new ∷ []) in
    record {
      placed = placed_put es new it.placed is;
      issuer = it.issuer;
      scope = it.scope;
      at = omega (arith, it.at, count);
      room = omega (arith, it.room);
      up = subst (IsAscending IsBelow) (sym joined) it.up;
    }

pub filled : (es : List EntryRow) (i s n : ℕ) (ps : List ListedSerial) → Follow es i s n ps
    → (ArePlaced (fill es i s n ps)) × ((entries_under (fill es i s n ps) i s ≡ entries_under es i s ++ ps) × ((j t : ℕ) → (j ≢ i) ⊎ (t ≢ s) → entries_under (fill es i s n ps) j t ≡ entries_under es j t))
filled es i s n [] it = (it.placed, (sym (append-nil (entries_under es i s)), λ j t far. refl))
filled es i s n (p ∷ ps) it =
    let new = row_at i s n p in
    let is : IsNext es new = first_next es i s n p ps it in
    let own : entries_under (put_entry new es) i s ≡ entries_under es i s ++ p ∷ [] = slot_put es new it.placed is in
    let joined : entries_under (put_entry new es) i s ++ ps ≡ entries_under es i s ++ p ∷ ps = ap (λ xs. xs ++ ps) own ∙ append_assoc (entries_under es i s) (p ∷ []) ps in
    let more = filled (put_entry new es) i s (suc n) ps (others_follow es i s n p ps it) in
    (more.0, (more.1.0 ∙ joined, λ j t far. more.1.1 j t far ∙ slot_spared es new j t far))

-- the list takes the place of what its entries_under held, and nothing else moves
pub replaces : (es : List EntryRow) (i s : ℕ) (ps : List ListedSerial) → ArePlaced es → i < 536870911 → s < 3 → length ps ≤ 4294967296 → IsAscending IsBelow ps → Replaces es (replaced es i s ps) i s ps
replaces es i s ps placed few scopes room up =
    let gone : filter (is_under i s) (without i s es) ≡ [] = emptied es i s i s refl refl in
    let none : entries_under (without i s es) i s ≡ [] = ap (map (λ e. e.listed)) gone in
    let count : length (filter (is_under i s) (without i s es)) ≡ 0 = ap length gone in
    let joined : entries_under (without i s es) i s ++ ps ≡ ps = ap (λ xs. xs ++ ps) none in
    let done = filled (without i s es) i s (list_base i s) ps (record {
      placed = placed_without es i s placed;
      issuer = few;
      scope = scopes;
      at = omega (arith, count);
      room = omega (arith, room);
      up = subst (IsAscending IsBelow) (sym joined) up;
    }) in
    record {
      placed = done.0;
      own = done.1.0 ∙ joined;
      others = λ j t far. done.1.1 j t far ∙ ap (map (λ e. e.listed)) (spared es i s j t far);
    }

pub all_front : {X : Type 0} (P : X → Type 0) (xs ys : List X) → AllByRecursion P (xs ++ ys) → AllByRecursion P xs
all_front P [] ys h = tt
all_front P (x ∷ xs) ys h = (h.0, all_front P xs ys h.1)

pub ascends_front : (xs ys : List ListedSerial) → IsAscending IsBelow (xs ++ ys) → IsAscending IsBelow xs
ascends_front [] ys h = tt
ascends_front (x ∷ xs) ys h = (all_front (IsBelow x) xs ys h.0, ascends_front xs ys h.1)

-- after the first part of a list the others may follow
pub rest_follows : (es : List EntryRow) (i s : ℕ) (ps qs : List ListedSerial) → ArePlaced es → i < 536870911 → s < 3 → length ps + length qs ≤ 4294967296 → IsAscending IsBelow (ps ++ qs)
    → Follow (replaced es i s ps) i s (list_base i s + length ps) qs
rest_follows es i s ps qs placed few scopes room up =
    let was = replaces es i s ps placed few scopes (omega (arith, room)) (ascends_front ps qs up) in
    let size : length ps ≡ length (filter (is_under i s) (replaced es i s ps)) =
    ap length (sym was.own) ∙ length_map (λ (e : EntryRow). e.listed) (filter (is_under i s) (replaced es i s ps)) in
    record {
      placed = was.placed;
      issuer = few;
      scope = scopes;
      at = ap (λ n. list_base i s + n) size;
      room = omega (arith, room);
      up = subst (λ xs. IsAscending IsBelow (xs ++ qs)) (sym was.own) up;
    }

-- Entries stand in their places exactly where each follows the last.
use Rattle.std.proofs.Common.{◌≡◌, ℕ, suc, ◌+◌, ◌<◌, ◌⊎◌, false, List, [], ◌∷◌, ◌++◌, map, filter, fold, Some, None, refl, sym, subst, ◌∙◌, inl, inr, arith, true≢false}
use Rattle.std.proofs.lemmas.Bool.{cases_Bool}
use Rattle.std.specs.List.{AllByRecursion}
use Rattle.std.specs.Cmp.Lexicographic.{nat_list_cmp_total}
use Rattle.sqlite_trees.specs.Tree.{IsAscending}
use Rattle.statements_facts.specs.Listed.{ListedSerial}
use Rattle.store_rows.specs.Contents.{EntryRow}
use Rattle.store_rows.specs.Places.{IsBelow, is_under, list_base, StandFrom, IsInside, ArePlaced}
use Rattle.store_rows.proofs.Laws.{Under, under, is_under_of, not_under, in_room}
use Rattle.store_adoption.specs.Cells.{Begins, Continues, Follows, HasIdsOfPlaces, AreChained, last_of}

abbrev serials : List EntryRow → List ListedSerial
serials es = map (λ e. e.listed) es

abbrev of_list : ℕ → ℕ → List EntryRow → List EntryRow
of_list i s es = filter (is_under i s) es

kept : (i s : ℕ) (e : EntryRow) (es : List EntryRow) → Under i s e → of_list i s (e ∷ es) ≡ e ∷ of_list i s es
kept i s e es u = rw (is_under_of i s e u) refl

dropped : (i s : ℕ) (e : EntryRow) (es : List EntryRow) → ¬ Under i s e → of_list i s (e ∷ es) ≡ of_list i s es
dropped i s e es far = rw (not_under i s e far) refl

either : (i s : ℕ) (e : EntryRow) → Under i s e ⊎ (¬ Under i s e)
either i s e = elim (cases_Bool (is_under i s e)) [
  | inl here ↦ inl (under i s e here)
  | inr out ↦ inr (λ u. true≢false (sym (is_under_of i s e u) ∙ out))
]

all_of : {X : Type 0} (P Q : X → Type 0) → ((x : X) → P x → Q x) → (xs : List X) → AllByRecursion P xs → AllByRecursion Q xs
all_of P Q f [] h = tt
all_of P Q f (x ∷ xs) h = (f x h.0, all_of P Q f xs h.1)

none_of : (i s : ℕ) (es : List EntryRow) → AllByRecursion (λ x. is_under i s x ≡ false) es → of_list i s es ≡ []
none_of i s [] h = refl
none_of i s (e ∷ es) h = rw h.0 (none_of i s es h.1)

-- what stands behind an entry: the rest of its own list, and all other lists from their bases on
record Behind (a : EntryRow) (es : List EntryRow) : Type 0 where
  low : AllByRecursion (λ x. a.place < x.place) es
  rise : IsAscending (λ x y. x.place < y.place) es
  inside : AllByRecursion IsInside es
  own : (i s : ℕ) → Under i s a → StandFrom (a.place + 1) (of_list i s es) × IsAscending IsBelow (a.listed ∷ serials (of_list i s es))
  other : (i s : ℕ) → (¬ Under i s a) → StandFrom (list_base i s) (of_list i s es) × IsAscending IsBelow (serials (of_list i s es))

same_base : (i s j t : ℕ) → i ≡ j → s ≡ t → list_base i s ≡ list_base j t
same_base i s j t a b = omega (arith, a, b)

inside_of : (a e : EntryRow) → IsInside a → HasIdsOfPlaces e → Follows (Some a) e → IsInside e
inside_of a e ia l (inl k) =
    let same = same_base e.issuer e.scope a.issuer a.scope k.issuer k.scope in
    record { issuer = l.0; scope = l.1; low = omega (arith, same, ia.low, k.place); high = k.room }
inside_of a e ia l (inr b) = let at = b.0 in record { issuer = l.0; scope = l.1; low = omega (arith, at); high = omega (arith, at) }

step_up : (a e : EntryRow) → Follows (Some a) e → a.place < e.place
step_up a e (inl k) = let at = k.place in omega arith
step_up a e (inr b) = b.1

-- of one list, the second continues
continued : (i s : ℕ) (a e : EntryRow) → IsInside a → Under i s a → Under i s e → Follows (Some a) e → Continues a e
continued i s a e ia ua ue (inl k) = k
continued i s a e ia ua ue (inr b) =
    let same = same_base e.issuer e.scope a.issuer a.scope (ue.issuer ∙ sym ua.issuer) (ue.scope ∙ sym ua.scope) in
    let at = b.0 in let up = b.1 in let low = ia.low in absurd (omega arith)

-- of another list, the second is its first
first : (i s : ℕ) (a e : EntryRow) → (¬ Under i s a) → Under i s e → Follows (Some a) e → e.place ≡ list_base i s
first i s a e far ue (inl k) = absurd (far (record { issuer = sym k.issuer ∙ ue.issuer; scope = sym k.scope ∙ ue.scope }))
first i s a e far ue (inr b) = b.0 ∙ same_base e.issuer e.scope i s ue.issuer ue.scope

few : (i s : ℕ) (a : EntryRow) → IsInside a → Under i s a → s < 3
few i s a ia u = let is = u.scope in let low = ia.scope in omega arith

-- behind an entry of another list, nothing of this one is left
none_left : (i s : ℕ) (a e : EntryRow) (es : List EntryRow) → IsInside a → IsInside e → Under i s a → (¬ Under i s e) → a.place < e.place
    → AllByRecursion (λ x. e.place < x.place) es → AllByRecursion IsInside es → of_list i s es ≡ []
none_left i s a e es ia ie ua far up low inside = none_of i s es (each es low inside)
  where
    base : list_base a.issuer a.scope ≡ list_base i s
    base = same_base a.issuer a.scope i s ua.issuer ua.scope

    no_more : (x : EntryRow) → e.place < x.place → IsInside x → ¬ Under i s x
    no_more x later ix ux =
        let over = same_base x.issuer x.scope i s ux.issuer ux.scope in
        let low = ia.low in let high = ix.high in
        far (in_room i s e (few i s a ia ua) ie (omega (arith, base)) (omega (arith, over)))

    each : (xs : List EntryRow) → AllByRecursion (λ x. e.place < x.place) xs → AllByRecursion IsInside xs → AllByRecursion (λ x. is_under i s x ≡ false) xs
    each [] low inside = tt
    each (x ∷ xs) low inside = (not_under i s x (no_more x low.0 inside.0), each xs low.1 inside.1)

next_place : (a e : EntryRow) (xs : List EntryRow) → e.place ≡ a.place + 1 → StandFrom (e.place + 1) xs → StandFrom (suc (a.place + 1)) xs
next_place a e xs at h = subst (λ n. StandFrom n xs) (let is : e.place + 1 ≡ suc (a.place + 1) = omega arith in is) h

below_then : (a e x : ListedSerial) → IsBelow a e → IsBelow e x → IsBelow a x
below_then a e x low high = nat_list_cmp_total.trans a.serial e.serial x.serial low high

below_all : (a e : ListedSerial) (xs : List ListedSerial) → IsBelow a e → AllByRecursion (IsBelow e) xs → AllByRecursion (IsBelow a) xs
below_all a e xs low h = all_of (IsBelow e) (IsBelow a) (λ x. below_then a e x low) xs h

from_chain : (a : EntryRow) (es : List EntryRow) → IsInside a → AreChained (Some a) es → Behind a es
from_chain a [] ia c = record { low = tt; rise = tt; inside = tt; own = λ i s u. (tt, (tt, tt)); other = λ i s far. (tt, tt) }
from_chain a (e ∷ es) ia c =
    let ie = inside_of a e ia c.0 c.1 in
    let rest = from_chain e es ie c.2 in
    let up = step_up a e c.1 in
    record {
      low = (up, all_of (λ x. e.place < x.place) (λ x. a.place < x.place) (λ x later. omega (arith, up, later)) es rest.low);
      rise = (rest.low, rest.rise);
      inside = (ie, rest.inside);
      own = λ i s ua. elim (either i s e) [
        | inl ue ↦
            let k = continued i s a e ia ua ue c.1 in
            let more = rest.own i s ue in
            subst (λ xs. StandFrom (a.place + 1) xs × IsAscending IsBelow (a.listed ∷ serials xs)) (sym (kept i s e es ue))
            ((k.place, next_place a e (of_list i s es) k.place more.0), ((k.serial, below_all a.listed e.listed (serials (of_list i s es)) k.serial more.1.0), more.1))
        | inr far ↦
            subst (λ xs. StandFrom (a.place + 1) xs × IsAscending IsBelow (a.listed ∷ serials xs)) (sym (dropped i s e es far ∙ none_left i s a e es ia ie ua far up rest.low rest.inside)) (tt, (tt, tt))
      ];
      other = λ i s far. elim (either i s e) [
        | inl ue ↦
            let at = first i s a e far ue c.1 in
            let more = rest.own i s ue in
            subst (λ xs. StandFrom (list_base i s) xs × IsAscending IsBelow (serials xs)) (sym (kept i s e es ue))
            ((at, subst (λ n. StandFrom n (of_list i s es)) (let is : e.place + 1 ≡ suc (list_base i s) = omega (arith, at) in is) more.0), more.1)
        | inr out ↦ subst (λ xs. StandFrom (list_base i s) xs × IsAscending IsBelow (serials xs)) (sym (dropped i s e es out)) (rest.other i s out)
      ];
    }

itself : (e : EntryRow) → Under e.issuer e.scope e
itself e = record { issuer = refl; scope = refl }

to_chain : (a : EntryRow) (es : List EntryRow) → IsInside a → Behind a es → AreChained (Some a) es
to_chain a [] ia b = tt
to_chain a (e ∷ es) ia b =
    let ie = b.inside.0 in (
      (ie.issuer, ie.scope),
      follow,
      to_chain e es ie (record {
        low = b.rise.0;
        rise = b.rise.1;
        inside = b.inside.1;
        own = λ i s ue. elim (either i s a) [
          | inl ua ↦
              let more = subst (λ xs. StandFrom (a.place + 1) xs × IsAscending IsBelow (a.listed ∷ serials xs)) (kept i s e es ue) (b.own i s ua) in
              let at : e.place ≡ a.place + 1 = more.0.0 in
              (subst (λ n. StandFrom n (of_list i s es)) (let is : suc (a.place + 1) ≡ e.place + 1 = omega (arith, at) in is) more.0.1, more.1.1)
          | inr far ↦
              let more = subst (λ xs. StandFrom (list_base i s) xs × IsAscending IsBelow (serials xs)) (kept i s e es ue) (b.other i s far) in
              let at : e.place ≡ list_base i s = more.0.0 in
              (subst (λ n. StandFrom n (of_list i s es)) (let is : suc (list_base i s) ≡ e.place + 1 = omega (arith, at) in is) more.0.1, more.1)
        ];
        other = λ i s out. elim (either i s a) [
          | inl ua ↦ subst (λ xs. StandFrom (list_base i s) xs × IsAscending IsBelow (serials xs)) (sym (none_left i s a e es ia ie ua out b.low.0 b.rise.0 b.inside.1)) (tt, tt)
          | inr far ↦ subst (λ xs. StandFrom (list_base i s) xs × IsAscending IsBelow (serials xs)) (dropped i s e es out) (b.other i s far)
        ];
      }),
    )
  where
    follow : Follows (Some a) e
    follow = elim (either e.issuer e.scope a) [
      | inl ua ↦
          let more = subst (λ xs. StandFrom (a.place + 1) xs × IsAscending IsBelow (a.listed ∷ serials xs)) (kept e.issuer e.scope e es (itself e)) (b.own e.issuer e.scope ua) in
          inl (record { issuer = sym ua.issuer; scope = sym ua.scope; place = more.0.0; room = b.inside.0.high; serial = more.1.0.0 })
      | inr far ↦
          let more = subst (λ xs. StandFrom (list_base e.issuer e.scope) xs × IsAscending IsBelow (serials xs)) (kept e.issuer e.scope e es (itself e)) (b.other e.issuer e.scope far) in
          inr (more.0.0, b.low.0)
    ]

inside_first : (e : EntryRow) → HasIdsOfPlaces e → Begins e → IsInside e
inside_first e l at = record { issuer = l.0; scope = l.1; low = omega (arith, at); high = omega (arith, at) }

pub placed_of_chain : (es : List EntryRow) → AreChained None es → ArePlaced es
placed_of_chain [] c = record { rise = tt; inside = tt; stand = λ i s. tt; serials = λ i s. tt }
placed_of_chain (e ∷ es) c =
    let ie = inside_first e c.0 c.1 in
    let rest = from_chain e es ie c.2 in
    record { rise = (rest.low, rest.rise); inside = (ie, rest.inside); stand = λ i s. (each rest i s).0; serials = λ i s. (each rest i s).1 }
  where
    each : Behind e es → (i s : ℕ) → StandFrom (list_base i s) (of_list i s (e ∷ es)) × IsAscending IsBelow (serials (of_list i s (e ∷ es)))
    each rest i s = elim (either i s e) [
      | inl ue ↦
          let more = rest.own i s ue in
          let at : e.place ≡ list_base i s = c.1 ∙ same_base e.issuer e.scope i s ue.issuer ue.scope in
          subst (λ xs. StandFrom (list_base i s) xs × IsAscending IsBelow (serials xs)) (sym (kept i s e es ue))
          ((at, subst (λ n. StandFrom n (of_list i s es)) (let is : e.place + 1 ≡ suc (list_base i s) = omega (arith, at) in is) more.0), more.1)
      | inr out ↦ subst (λ xs. StandFrom (list_base i s) xs × IsAscending IsBelow (serials xs)) (sym (dropped i s e es out)) (rest.other i s out)
    ]

pub chain_of_placed : (es : List EntryRow) → ArePlaced es → AreChained None es
chain_of_placed [] p = tt
chain_of_placed (e ∷ es) p = (
  (p.inside.0.issuer, p.inside.0.scope),
  (subst (StandFrom (list_base e.issuer e.scope)) (kept e.issuer e.scope e es (itself e)) (p.stand e.issuer e.scope)).0,
  to_chain e es p.inside.0 (record {
    low = p.rise.0;
    rise = p.rise.1;
    inside = p.inside.1;
    own = λ i s ue.
        let more = subst (StandFrom (list_base i s)) (kept i s e es ue) (p.stand i s) in
        let at : e.place ≡ list_base i s = more.0 in (
          subst (λ n. StandFrom n (of_list i s es)) (let is : suc (list_base i s) ≡ e.place + 1 = omega (arith, at) in is) more.1,
          subst (λ xs. IsAscending IsBelow (serials xs)) (kept i s e es ue) (p.serials i s),
        );
    other = λ i s out. (subst (StandFrom (list_base i s)) (dropped i s e es out) (p.stand i s), subst (λ xs. IsAscending IsBelow (serials xs)) (dropped i s e es out) (p.serials i s));
  }),
)

-- ---- one more, at the end

pub last_pushed : (es : List EntryRow) (e : EntryRow) → last_of (es ++ e ∷ []) ≡ Some e
last_pushed es e = go None es
  where
    go : (start : _) (es : List EntryRow) → fold (λ last e. Some e) start (es ++ e ∷ []) ≡ Some e
    go start [] = refl
    go start (x ∷ xs) = go (Some x) xs

pub chain_pushed : (es : List EntryRow) (e : EntryRow) → AreChained None es → HasIdsOfPlaces e → Follows (last_of es) e → AreChained None (es ++ e ∷ [])
chain_pushed es e c l f = go None es c f
  where
    go : (start : _) (es : List EntryRow) → AreChained start es → Follows (fold (λ last e. Some e) start es) e → AreChained start (es ++ e ∷ [])
    go start [] c f = (l, f, tt)
    go start (x ∷ xs) c f = (c.0, c.1, go (Some x) xs c.2 f)

pub chain_follows : (es later : List EntryRow) (e : EntryRow) → AreChained None (es ++ e ∷ later) → Follows (last_of es) e
chain_follows es later e c = go None es c
  where
    go : (start : _) (es : List EntryRow) → AreChained start (es ++ e ∷ later) → Follows (fold (λ last e. Some e) start es) e
    go start [] c = c.1
    go start (x ∷ xs) c = go (Some x) xs c.2

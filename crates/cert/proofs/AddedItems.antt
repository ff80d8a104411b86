-- Walks over values that add an item for each of them.
use Rattle.std.proofs.Common.{◌≡◌, ◌+◌, ◌<◌, ◌≤◌, ℕ, List, [], ◌∷◌, ◌++◌, length, Result, Ok, append-nil, append_assoc, arith, refl, sym, ap, ◌∙◌, subst, inl, inr}
use Rattle.std.specs.List.{AllZip}
use Rattle.std.proofs.lemmas.Bool.{cases_lt}
use Rattle.std.proofs.lemmas.List.{length_push}
use Rattle.std.proofs.lemmas.Slice.Zip.{AllZip-long}
use Rattle.asn.specs.Place.{Place}
use Rattle.asn.specs.Members.{Members}
use Rattle.asn.specs.Walk.{◌>>=◌, some, each, Leads}
use Rattle.asn.proofs.Laws.{bind_ok, some_ok, some_again, each_ok, each_again}

-- a step adds the item that the value is, where there is room behind those so far
pub record Adds {X : Type 0} (Item : Place → X → Type 0) (Room : ℕ → Type 0) (from : List X) (value : Place) (to : List X) : Type 0 where
  pub item : X
  pub is_item : Item value item
  pub room : Room (length from)
  pub added : to ≡ from ++ item ∷ []

pub record Added {X : Type 0} (Item : Place → X → Type 0) (Room : ℕ → Type 0) (from : List X) (values : List Place) (to : List X) : Type 0 where
  pub items : List X
  pub joined : to ≡ from ++ items
  pub are_items : AllZip Item values items
  pub room : (k : ℕ) → length from ≤ k → k < length to → Room k

added_all : {X : Type 0} (Item : Place → X → Type 0) (Room : ℕ → Type 0) (from : List X) (values : List Place) (to : List X) → Leads (Adds Item Room) from values to → Added Item Room from values to
added_all Item Room from [] to same =
    let long = ap length same in
    record { items = []; joined = sym same ∙ sym (append-nil from); are_items = tt; room = λ k low high. absurd (omega arith) }
added_all Item Room from (value ∷ values) to (next, one, others) =
    let rest = added_all Item Room next values to others in
    let long : length next ≡ length from + 1 = ap length one.added ∙ length_push from one.item in
    record {
      items = one.item ∷ rest.items;
      joined = rest.joined ∙ ap (λ xs. xs ++ rest.items) one.added ∙ append_assoc from (one.item ∷ []) rest.items;
      are_items = (one.is_item, rest.are_items);
      room = λ k low high. elim (cases_lt (length from) k) [
        | inl later ↦ rest.room k (omega arith) high
        | inr here ↦ let same : length from ≡ k = omega arith in subst Room same one.room
      ];
    }

adds_all : {X : Type 0} (Item : Place → X → Type 0) (Room : ℕ → Type 0) (from : List X) (values : List Place) (items : List X) → AllZip Item values items → ((k : ℕ) → length from ≤ k → k < length from + length items → Room k) → Leads (Adds Item Room) from values (from ++ items)
adds_all Item Room from [] [] are room = sym (append-nil from)
adds_all Item Room from [] (item ∷ items) are room = absurd are
adds_all Item Room from (value ∷ values) [] are room = absurd are
adds_all Item Room from (value ∷ values) (item ∷ items) are room =
    let long = length_push from item in (
      from ++ item ∷ [],
      record { item = item; is_item = are.0; room = room (length from) (omega arith) (omega arith); added = refl },
      subst (Leads (Adds Item Room) (from ++ item ∷ []) values) (append_assoc from (item ∷ []) items)
          (adds_all Item Room (from ++ item ∷ []) values items are.1 (λ k low high. room k (omega arith) (omega arith))),
    )

-- SEQUENCE SIZE (1..MAX) OF
pub record SomeItems {X : Type 0} (Item : Place → X → Type 0) (Room : ℕ → Type 0) (values : List Place) (items : List X) : Type 0 where
  pub one : 0 < length items
  pub are_items : AllZip Item values items
  pub room : (k : ℕ) → k < length items → Room k

pub some_items_ok : {X F : Type 0} (step : List X → Place → Result (List X) (F × ℕ)) (Item : Place → X → Type 0) (Room : ℕ → Type 0)
    → ((from : List X) (value : Place) (to : List X) → step from value ≡ Ok to → Adds Item Room from value to)
    → (fault : F) (left : Members) (items : List X) → (some fault left >>= λ one. each step [] left.values) ≡ Ok items → SomeItems Item Room left.values items
some_items_ok step Item Room adds fault left items e =
    let one = bind_ok (some fault left) (λ one. each step [] left.values) items e in
    let first = some_ok fault left one.0 one.1 in
    let all = added_all Item Room [] left.values items (each_ok step (Adds Item Room) adds [] left.values items one.2) in
    let are : AllZip Item left.values items = subst (AllZip Item left.values) (sym all.joined) all.are_items in
    let long = AllZip-long Item left.values items are in
    let count = ap length first.2 in
    record { one = omega arith; are_items = are; room = λ k high. all.room k (omega arith) high }

not_empty : (values : List Place) → 0 < length values → (value : Place) × (others : List Place) × (values ≡ value ∷ others)
not_empty [] some = absurd (omega arith)
not_empty (value ∷ others) some = (value, others, refl)

pub some_items_again : {X F : Type 0} (step : List X → Place → Result (List X) (F × ℕ)) (Item : Place → X → Type 0) (Room : ℕ → Type 0)
    → ((from : List X) (value : Place) (to : List X) → Adds Item Room from value to → step from value ≡ Ok to)
    → (fault : F) (left : Members) (items : List X) → SomeItems Item Room left.values items → (some fault left >>= λ one. each step [] left.values) ≡ Ok items
some_items_again step Item Room again fault left items is =
    let long = AllZip-long Item left.values items is.are_items in
    let one = is.one in
    let first = not_empty left.values (omega arith) in
    rw (some_again fault left first.0 first.1 first.2) (each_again step (Adds Item Room) again [] left.values items (adds_all Item Room [] left.values items is.are_items (λ k low high. is.room k (omega arith))))

-- any count, or one below the most
abbrev pub AnyRoom : ℕ → Type 0
AnyRoom k = Unit {0}

abbrev pub RoomBelow : ℕ → ℕ → Type 0
RoomBelow most k = k < most

pub at_most : (count most : ℕ) → ((k : ℕ) → k < count → k < most) → count ≤ most
at_most count most room = elim (cases_lt most count) [ inl more ↦ absurd (let never = room most more in omega arith) | inr less ↦ less ]

-- lists of places where the last is empty
pub none_behind : (xs ys : List Place) → ys ≡ [] → xs ++ ys ≡ xs
none_behind xs ys e = rw e (append-nil xs)

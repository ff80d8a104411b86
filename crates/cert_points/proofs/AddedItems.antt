-- Walks over values that add an item for each of them.
use Rattle.std.proofs.Common.{◌≡◌, ◌<◌, ℕ, List, [], ◌∷◌, ◌++◌, length, Result, Ok, append-nil, append_assoc, arith, refl, sym, ap, ◌∙◌, subst}
use Rattle.std.specs.List.{AllZip}
use Rattle.std.proofs.lemmas.Slice.Zip.{AllZip-long}
use Rattle.asn.specs.Place.{Place}
use Rattle.asn.specs.Members.{Members}
use Rattle.asn.specs.Walk.{◌>>=◌, some, each, Leads}
use Rattle.asn.proofs.Laws.{bind_ok, some_ok, some_again, each_ok, each_again}

-- a step adds the item that the value is
pub record Adds {X : Type 0} (Item : Place → X → Type 0) (from : List X) (value : Place) (to : List X) : Type 0 where
  pub item : X
  pub is_item : Item value item
  pub added : to ≡ from ++ item ∷ []

pub record Added {X : Type 0} (Item : Place → X → Type 0) (from : List X) (values : List Place) (to : List X) : Type 0 where
  pub items : List X
  pub joined : to ≡ from ++ items
  pub are_items : AllZip Item values items

added_all : {X : Type 0} (Item : Place → X → Type 0) (from : List X) (values : List Place) (to : List X) → Leads (Adds Item) from values to → Added Item from values to
added_all Item from [] to same = record { items = []; joined = sym same ∙ sym (append-nil from); are_items = tt }
added_all Item from (value ∷ values) to (next, one, others) =
    let rest = added_all Item next values to others in
    record {
      items = one.item ∷ rest.items;
      joined = rest.joined ∙ ap (λ xs. xs ++ rest.items) one.added ∙ append_assoc from (one.item ∷ []) rest.items;
      are_items = (one.is_item, rest.are_items);
    }

adds_all : {X : Type 0} (Item : Place → X → Type 0) (from : List X) (values : List Place) (items : List X) → AllZip Item values items → Leads (Adds Item) from values (from ++ items)
adds_all Item from [] [] are = sym (append-nil from)
adds_all Item from [] (item ∷ items) are = absurd are
adds_all Item from (value ∷ values) [] are = absurd are
adds_all Item from (value ∷ values) (item ∷ items) are = (
  from ++ item ∷ [],
  record { item = item; is_item = are.0; added = refl },
  subst (Leads (Adds Item) (from ++ item ∷ []) values) (append_assoc from (item ∷ []) items) (adds_all Item (from ++ item ∷ []) values items are.1),
)

-- as many items as values
pub some_of : {X : Type 0} (Item : Place → X → Type 0) (values : List Place) (items : List X) (value : Place) (others : List Place) → values ≡ value ∷ others → AllZip Item values items → 0 < length items
some_of Item values items value others first are =
    let long = AllZip-long Item values items are in
    let count = ap length first in
    omega arith

pub is_some_of : {X : Type 0} (Item : Place → X → Type 0) (values : List Place) (items : List X) → AllZip Item values items → 0 < length items → (value : Place) × (others : List Place) × (values ≡ value ∷ others)
is_some_of Item (value ∷ others) items are some = (value, others, refl)
is_some_of Item [] [] are some = absurd (omega arith)
is_some_of Item [] (item ∷ items) are some = absurd are

-- SEQUENCE SIZE (1..MAX) OF
pub record SomeItems {X : Type 0} (Item : Place → X → Type 0) (values : List Place) (items : List X) : Type 0 where
  pub one : 0 < length items
  pub are_items : AllZip Item values items

pub some_items_ok : {X F : Type 0} (step : List X → Place → Result (List X) (F × ℕ)) (Item : Place → X → Type 0)
    → ((from : List X) (value : Place) (to : List X) → step from value ≡ Ok to → Adds Item from value to)
    → (fault : F) (left : Members) (items : List X) → (some fault left >>= λ one. each step [] left.values) ≡ Ok items → SomeItems Item left.values items
some_items_ok step Item adds fault left items e =
    let one = bind_ok (some fault left) (λ one. each step [] left.values) items e in
    let first = some_ok fault left one.0 one.1 in
    let all = added_all Item [] left.values items (each_ok step (Adds Item) adds [] left.values items one.2) in
    let are : AllZip Item left.values items = subst (AllZip Item left.values) (sym all.joined) all.are_items in
    record { one = some_of Item left.values items first.0 first.1 first.2 are; are_items = are }

pub some_items_again : {X F : Type 0} (step : List X → Place → Result (List X) (F × ℕ)) (Item : Place → X → Type 0)
    → ((from : List X) (value : Place) (to : List X) → Adds Item from value to → step from value ≡ Ok to)
    → (fault : F) (left : Members) (items : List X) → SomeItems Item left.values items → (some fault left >>= λ one. each step [] left.values) ≡ Ok items
some_items_again step Item again fault left items is =
    let first = is_some_of Item left.values items is.are_items is.one in
    rw (some_again fault left first.0 first.1 first.2) (each_again step (Adds Item) again [] left.values items (adds_all Item [] left.values items is.are_items))

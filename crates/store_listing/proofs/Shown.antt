-- The listing of a store shows what it holds.
use Rattle.std.proofs.Common.{◌≡◌, ℕ, ◌==◌, Bool, true, List, [], ◌∷◌, map, length, find, Option, Some, None, option_map, option_and_then, refl, sym, ap, subst, ◌∙◌, inl, inr}
use Rattle.std.proofs.lemmas.Bool.{cases_Bool}
use Rattle.statements_facts.specs.declared.scope.Scope.{Scope}
use Rattle.statements_facts.specs.Listed.{first_reason}
use Rattle.store_rows.specs.Contents.{CrlRow, Contents, is_crl_of, is_single_of, id_of, said_of, scope_number}
use Rattle.store_rows.specs.Places.{entries_under}
use Rattle.store_rows.specs.Holding.{AreInForm}
use Rattle.store_maps.specs.Held.{held_in, crl_under}
use Rattle.store_maps.proofs.HeldLaws.{eq_of, and_parts}
use Rattle.store_listing.specs.Listing.{ListedSingle, listed_crl, listed_single, overview_of}
use Rattle.store_listing.specs.Laws.{is_list_of, is_about, AreListedAs, ShowsHeld, ListingShowsHeld}

pub find_mapped : {X Y : Type 0} (f : X → Y) (p : X → Bool) (q : Y → Bool) → ((x : X) → q (f x) ≡ p x) → (xs : List X) → find q (map f xs) ≡ option_map f (find p xs)
find_mapped f p q same [] = refl
find_mapped f p q same (x ∷ xs) = elim (cases_Bool (p x)) [
  | inl here ↦ rw (same x, here) refl
  | inr other ↦ rw (same x, other) (find_mapped f p q same xs)
]

found_passes : {X : Type 0} (p : X → Bool) (xs : List X) (x : X) → find p xs ≡ Some x → p x ≡ true
found_passes p [] x e = absurd cc
found_passes p (y ∷ xs) x e = elim (cases_Bool (p y)) [
  | inl here ↦ (let same : Some y ≡ Some x = rw here at e in let is : y ≡ x = cc in subst (λ z. p z ≡ true) is here)
  | inr other ↦ found_passes p xs x (rw other at e)
]

-- ---- lists

list_as : (it : Contents) (scope : Scope) (id : ℕ) → AreInForm it → (found : Option CrlRow) → ((row : CrlRow) → found ≡ Some row → is_crl_of id scope row ≡ true)
    → AreListedAs (option_map (λ (row : CrlRow). record { number = row.number; window = row.window; reasons = first_reason (entries_under it.entries id (scope_number scope)) }) found) (option_map (listed_crl it.entries) found)
list_as it scope id form None passes = tt
list_as it scope id form (Some row) passes =
    let parts = and_parts (row.issuer == id) (scope_number row.scope == scope_number scope) (passes row refl) in
    let issuer = eq_of row.issuer id parts.0 in
    let own = eq_of (scope_number row.scope) (scope_number scope) parts.1 in
    record {
      number = refl;
      window = refl;
      revoked = entries_under it.entries id (scope_number scope);
      reasons = refl;
      ascend = form.placed.serials id (scope_number scope);
      count = λ i. length (entries_under it.entries (sym issuer i) (sym own i));
    }

lists_as : (it : Contents) (scope : Scope) (id : Option ℕ) → AreInForm it → AreListedAs (option_and_then (crl_under it scope) id) (option_and_then (λ id. find (is_list_of id scope) (map (listed_crl it.entries) it.crls)) id)
lists_as it scope None form = tt
lists_as it scope (Some id) form =
    subst (AreListedAs (crl_under it scope id)) (sym (find_mapped (listed_crl it.entries) (is_crl_of id scope) (is_list_of id scope) (λ x. refl) it.crls))
    (list_as it scope id form (find (is_crl_of id scope) it.crls) (λ row e. found_passes (is_crl_of id scope) it.crls row e))

-- ---- responses

map_twice : {X Y Z : Type 0} (f : Y → Z) (g : X → Y) (o : Option X) → option_map f (option_map g o) ≡ option_map (λ x. f (g x)) o
map_twice f g None = refl
map_twice f g (Some x) = refl

singles_as : (it : Contents) (name_hash serial : List ℕ) (id : Option ℕ)
    → option_and_then (λ id. option_map said_of (find (is_single_of id name_hash serial) it.singles)) id
    ≡ option_map (λ (listed : ListedSingle). listed.single.fact) (option_and_then (λ id. find (is_about id name_hash serial) (map listed_single it.singles)) id)
singles_as it name_hash serial None = refl
singles_as it name_hash serial (Some id) =
    sym (ap (option_map (λ (listed : ListedSingle). listed.single.fact)) (find_mapped listed_single (is_single_of id name_hash serial) (is_about id name_hash serial) (λ x. refl) it.singles)
    ∙ map_twice (λ (listed : ListedSingle). listed.single.fact) listed_single (find (is_single_of id name_hash serial) it.singles))

pub shows_held : (it : Contents) → AreInForm it → ShowsHeld (held_in it) (overview_of it)
shows_held it form = record {
  crl = λ slot. lists_as it slot.scope (id_of it.issuers slot.issuer) form;
  ocsp = λ slot. singles_as it slot.name_hash slot.serial (id_of it.issuers slot.issuer);
}

pub listing_shows_held : ListingShowsHeld
listing_shows_held db held s = (
  s.contents,
  record { origin = s.origin; rows = s.rows; form = s.form; owned = s.owned },
  subst (λ all. ShowsHeld all (overview_of s.contents)) s.held_is (shows_held s.contents s.form),
)

-- A list that takes the place of another is held in its slot, and each other slot holds what it held.
use Rattle.std.proofs.Common.{◌≡◌, ◌≢◌, ◌⊎◌, ◌<◌, ◌≤◌, ℕ, List, [], ◌∷◌, ◌++◌, find, filter, map, not, length, Bool, true, false, ◌&&◌, ◌==◌, Some, None, Option, option_map, option_and_then, refl, sym, ap, ap₂, subst, ◌∙◌, inl, inr, arith, true≢false}
use Rattle.std.proofs.Math.Path.{fun_ext}
use Rattle.std.proofs.lemmas.Bool.{cases_Bool}
use Rattle.std.proofs.lemmas.Bool.Decides.{nat_tests}
use Rattle.std.proofs.lemmas.Slice.Eq.{bytes_eq-Decides}
use Rattle.std.specs.List.{AllByRecursion}
use Rattle.std.specs.Str.{bytes_eq}
use Rattle.sqlite.specs.Edit.{next_rowid}
use Rattle.sqlite_trees.specs.Tree.{IsAscending}
use Rattle.statements_facts.specs.declared.scope.Scope.{Scope}
use Rattle.statements_facts.specs.declared.scope.Scope.TheVariants.{All, User, Ca}
use Rattle.statements_facts.specs.Listed.{ListedSerial, first_reason, IsAscending as Ascend}
use Rattle.statements_facts.specs.Statement.{IssuerIdentity, CrlSlot, same_issuer, same_scope, same_crl_slot}
use Rattle.store_rows.specs.Contents.{IssuerRow, CrlRow, CrlHead, Contents, id_of, is_issuer, is_crl_of, crl_row, scope_number}
use Rattle.store_rows.specs.Places.{Replaces, replaced}
use Rattle.store_rows.specs.Holding.{AreInForm, with_crl, with_entries}
use Rattle.store_rows.proofs.Laws.{replaces, ascends}
use Rattle.store_maps.specs.Held.{crl_under, held_in}
use Rattle.statements_facts.specs.Coming.{with_crl_fact}
use Rattle.store_maps.specs.Laws.{fact_of_rows}

module _ {X : Type 0} (p q : X → Bool) where
  -- what is put behind the others is found where they are gone
  pub find_new : (xs : List X) (new : X) → p new ≡ true → find p (filter (λ x. not (p x)) xs ++ new ∷ []) ≡ Some new
  find_new [] new is = rw is refl
  find_new (x ∷ xs) new is = elim (cases_Bool (p x)) [
    | inl here ↦ rw here (find_new xs new is)
    | inr gone ↦ rw (gone, gone) (find_new xs new is)
  ]

  -- and another test finds what it found
  pub find_other : (xs : List X) (new : X) → q new ≡ false → ((x : X) → q x ≡ true → p x ≡ false) → find q (filter (λ x. not (p x)) xs ++ new ∷ []) ≡ find q xs
  find_other [] new far apart = rw far refl
  find_other (x ∷ xs) new far apart = elim (cases_Bool (q x)) [
    | inl found ↦ rw (apart x found, found) refl
    | inr lost ↦ elim (cases_Bool (p x)) [
      | inl here ↦ rw (here, lost) (find_other xs new far apart)
      | inr gone ↦ rw (gone, lost) (find_other xs new far apart)
    ]
  ]

-- ---- one id, one issuer

pub eq_of : (a b : ℕ) → (a == b) ≡ true → a ≡ b
eq_of a b e = grind (arith, nat_tests)

pub is_eq_of : (a b : ℕ) → a ≡ b → (a == b) ≡ true
is_eq_of a b e = grind (arith, nat_tests)

pub and_parts : (a b : Bool) → (a && b) ≡ true → (a ≡ true) × (b ≡ true)
and_parts true b e = (refl, e)
and_parts false b e = absurd (true≢false (sym e))

-- the row that a look-up finds passes its test, and its id is told
record FoundRow (rows : List IssuerRow) (identity : IssuerIdentity) (id : ℕ) : Type 1 where
  row : IssuerRow
  is : is_issuer identity row ≡ true
  id_is : row.id ≡ id
  there : (P : IssuerRow → Type 0) → AllByRecursion P rows → P row

found_row : (rows : List IssuerRow) (identity : IssuerIdentity) (id : ℕ) → id_of rows identity ≡ Some id → FoundRow rows identity id
found_row [] identity id e = absurd (let no : None ≡ Some id = e in cc)
found_row (row ∷ rows) identity id e = elim (cases_Bool (is_issuer identity row)) [
  | inl here ↦ record { row = row; is = here; id_is = (let same : Some row.id ≡ Some id = rw here at e in cc); there = λ P all. all.0 }
  | inr gone ↦ let more = found_row rows identity id (rw gone at e) in record { row = more.row; is = more.is; id_is = more.id_is; there = λ P all. more.there P all.1 }
]

-- two look-ups that answer one id are of one issuer
pub one_issuer : (rows : List IssuerRow) (one other : IssuerIdentity) (id : ℕ) → IsAscending (λ (a b : IssuerRow). a.id < b.id) rows → id_of rows one ≡ Some id → id_of rows other ≡ Some id → same_issuer one other ≡ true
one_issuer [] one other id up x y = absurd (let no : None ≡ Some id = x in cc)
one_issuer (row ∷ rows) one other id up x y = elim (cases_Bool (is_issuer one row)) [
  | inl here ↦ elim (cases_Bool (is_issuer other row)) [
    | inl also ↦ tied row.identity one other here also
    | inr gone ↦ absurd (let more = found_row rows other id (rw gone at y) in let low = more.there (λ b. row.id < b.id) up.0 in let same : Some row.id ≡ Some id = rw here at x in let is : row.id ≡ id = cc in omega (arith, low, is, more.id_is))
  ]
  | inr gone ↦ elim (cases_Bool (is_issuer other row)) [
    | inl here ↦ absurd (let more = found_row rows one id (rw gone at x) in let low = more.there (λ b. row.id < b.id) up.0 in let same : Some row.id ≡ Some id = rw here at y in let is : row.id ≡ id = cc in omega (arith, low, is, more.id_is))
    | inr also ↦ one_issuer rows one other id up.1 (rw gone at x) (rw also at y)
  ]
]
  where
    octets_of : (a b : List ℕ) → bytes_eq a b ≡ true → a ≡ b
    octets_of a b = (bytes_eq-Decides a b).0

    octets_same : (a b : List ℕ) → a ≡ b → bytes_eq a b ≡ true
    octets_same a b = (bytes_eq-Decides a b).1

    tied : (row one other : IssuerIdentity) → same_issuer row one ≡ true → same_issuer row other ≡ true → same_issuer one other ≡ true
    tied row one other a b =
        let x = and_parts _ _ a in let y = and_parts _ _ b in
        ap₂ (λ p q. p && q) (octets_same one.name other.name (sym (octets_of row.name one.name x.0) ∙ octets_of row.name other.name y.0)) (octets_same one.key_info other.key_info (sym (octets_of row.key_info one.key_info x.1) ∙ octets_of row.key_info other.key_info y.1))

-- ---- scopes and slots

scope_low : (scope : Scope) → scope_number scope < 3
scope_low All = omega arith
scope_low User = omega arith
scope_low Ca = omega arith

one_scope : (one other : Scope) → scope_number one ≡ scope_number other → same_scope one other ≡ true
one_scope All All e = refl
one_scope All User e = cc
one_scope All Ca e = cc
one_scope User All e = cc
one_scope User User e = refl
one_scope User Ca e = cc
one_scope Ca All e = cc
one_scope Ca User e = cc
one_scope Ca Ca e = refl

scopes_are : (one other : Scope) → same_scope one other ≡ true → one ≡ other
scopes_are All All e = refl
scopes_are All User e = absurd (true≢false (sym e))
scopes_are All Ca e = absurd (true≢false (sym e))
scopes_are User All e = absurd (true≢false (sym e))
scopes_are User User e = refl
scopes_are User Ca e = absurd (true≢false (sym e))
scopes_are Ca All e = absurd (true≢false (sym e))
scopes_are Ca User e = absurd (true≢false (sym e))
scopes_are Ca Ca e = refl

slots_are : (one other : CrlSlot) → same_crl_slot one other ≡ true → one ≡ other
slots_are one other e =
    let x = and_parts _ _ e in
    let y = and_parts _ _ x.0 in
    let names = (bytes_eq-Decides one.issuer.name other.issuer.name).0 y.0 in
    let keys = (bytes_eq-Decides one.issuer.key_info other.issuer.key_info).0 y.1 in
    let scopes = scopes_are one.scope other.scope x.1 in
    λ i. record { issuer = record { name = names i; key_info = keys i }; scope = scopes i }

-- ---- the law

module _ (it : Contents) (slot : CrlSlot) (id : ℕ) (head : CrlHead) (listed : List ListedSerial) (form : AreInForm it) (rise : IsAscending (λ (a b : IssuerRow). a.id < b.id) it.issuers) (room : id < 536870911)
    (few : length listed ≤ 4294967296) (up : Ascend listed) (known : id_of it.issuers slot.issuer ≡ Some id) where
  abbrev after : Contents
  after = with_entries id (scope_number slot.scope) listed (with_crl id slot.scope head it)

  abbrev new : CrlRow
  new = record { id = next_rowid (map crl_row (filter (λ row. not (is_crl_of id slot.scope row)) it.crls)); issuer = id; scope = slot.scope; number = head.number; window = head.window }

  places : Replaces it.entries (replaced it.entries id (scope_number slot.scope) listed) id (scope_number slot.scope) listed
  places = replaces it.entries id (scope_number slot.scope) listed form.placed room (scope_low slot.scope) few (ascends listed up)

  own : crl_under after slot.scope id ≡ Some (fact_of_rows head listed)
  own =
      ap (option_map _) (find_new (is_crl_of id slot.scope) (is_crl_of id slot.scope) it.crls _ (ap₂ (λ a b. a && b) (is_eq_of id id refl) (is_eq_of (scope_number slot.scope) (scope_number slot.scope) refl)))
      ∙ ap (λ all. Some (record { number = head.number; window = head.window; reasons = first_reason all })) places.own

  apart_tests : (j : ℕ) (scope : Scope) → (j ≢ id) ⊎ (scope_number scope ≢ scope_number slot.scope) → (row : CrlRow) → is_crl_of j scope row ≡ true → is_crl_of id slot.scope row ≡ false
  apart_tests j scope far row is = elim (cases_Bool (is_crl_of id slot.scope row)) [
    | inl also ↦ absurd (let a = and_parts _ _ is in let b = and_parts _ _ also in clash far (sym (eq_of _ _ a.0) ∙ eq_of _ _ b.0) (sym (eq_of _ _ a.1) ∙ eq_of _ _ b.1))
    | inr gone ↦ gone
  ]
    where
      clash : (j ≢ id) ⊎ (scope_number scope ≢ scope_number slot.scope) → j ≡ id → scope_number scope ≡ scope_number slot.scope → ⊥
      clash (inl a) x y = a x
      clash (inr b) x y = b y

  new_fails : (j : ℕ) (scope : Scope) (row : CrlRow) → row.issuer ≡ id → row.scope ≡ slot.scope → (j ≢ id) ⊎ (scope_number scope ≢ scope_number slot.scope) → is_crl_of j scope row ≡ false
  new_fails j scope row a b far = elim (cases_Bool (is_crl_of j scope row)) [
    | inl is ↦ absurd (true≢false (sym (ap₂ (λ x y. x && y) (is_eq_of row.issuer id a) (is_eq_of (scope_number row.scope) (scope_number slot.scope) (ap scope_number b))) ∙ apart_tests j scope far row is))
    | inr gone ↦ gone
  ]

  others : (j : ℕ) (scope : Scope) → (j ≢ id) ⊎ (scope_number scope ≢ scope_number slot.scope) → crl_under after scope j ≡ crl_under it scope j
  others j scope far =
      ap (option_map _) (find_other (is_crl_of id slot.scope) (is_crl_of j scope) it.crls new (new_fails j scope new refl refl far) (apart_tests j scope far))
      ∙ ap (λ all. option_map (λ (row : CrlRow). record { number = row.number; window = row.window; reasons = first_reason all }) (find (is_crl_of j scope) it.crls)) (places.others j (scope_number scope) far)

  held_elsewhere : (other : CrlSlot) → same_crl_slot slot other ≡ false → (found : Option ℕ) → id_of it.issuers other.issuer ≡ found → option_and_then (crl_under after other.scope) found ≡ option_and_then (crl_under it other.scope) found
  held_elsewhere other far None is = refl
  held_elsewhere other far (Some j) is = others j other.scope (elim (cases_Bool (j == id)) [
    | inl same ↦ elim (cases_Bool (scope_number other.scope == scope_number slot.scope)) [
      | inl also ↦ absurd (true≢false (sym (ap₂ (λ x y. x && y)
          (one_issuer it.issuers slot.issuer other.issuer id rise known (is ∙ ap (λ n. Some n) (eq_of j id same)))
          (one_scope slot.scope other.scope (sym (eq_of _ _ also)))) ∙ far))
      | inr apart ↦ inr (λ e. true≢false (sym (is_eq_of _ _ e) ∙ apart))
    ]
    | inr apart ↦ inl (λ e. true≢false (sym (is_eq_of j id e) ∙ apart))
  ])

  at_slot : (other : CrlSlot) → (held_in after).crl other ≡ (with_crl_fact (held_in it) slot (fact_of_rows head listed)).crl other
  at_slot other = elim (cases_Bool (same_crl_slot slot other)) [
    | inl same ↦ rw same (subst (λ o. (held_in after).crl o ≡ Some (fact_of_rows head listed)) (slots_are slot other same) (ap (option_and_then (crl_under after slot.scope)) known ∙ own))
    | inr far ↦ rw far (held_elsewhere other far (id_of it.issuers other.issuer) refl)
  ]

  pub list_held : held_in after ≡ with_crl_fact (held_in it) slot (fact_of_rows head listed)
  list_held = let crls = fun_ext at_slot in λ i. record { profile = it.profile; crl = crls i; ocsp = (held_in it).ocsp }

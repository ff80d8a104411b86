-- One list after another, put in its place.
use Rattle.std.proofs.Common.{◌≡◌, ◌≢◌, ◌⊎◌, ◌<◌, ◌+◌, ℕ, List, [], ◌∷◌, ◌++◌, map, filter, find, not, take, drop, length, get_or, Bool, true, false, ◌&&◌, ◌==◌, Option, Some, None, option_map, option_and_then, IsTrue, refl, sym, ap, ap₂, subst, ◌∙◌, inl, inr, arith, true≢false}
use Rattle.std.proofs.Math.Path.{fun_ext}
use Rattle.std.proofs.Math.Seq.{take-length}
use Rattle.std.proofs.lemmas.Bool.{cases_Bool}
use Rattle.std.proofs.lemmas.List.{map_more, take-append-drop, map-append, length-append}
use Rattle.std.specs.List.{AllByRecursion}
use Rattle.sqlite.specs.Effect.{Database}
use Rattle.sqlite.specs.Edit.{next_rowid}
use Rattle.sqlite.specs.State.{State}
use Rattle.sqlite_trees.specs.Tree.{IsAscending}
use Rattle.statements_facts.specs.declared.profile.Profile.TheVariants.{Stated}
use Rattle.statements_facts.specs.declared.scope.Scope.{Scope}
use Rattle.statements_facts.specs.declared.scope.Scope.TheVariants.{All, User, Ca}
use Rattle.statements_facts.specs.Listed.{ListedSerial, first_reason}
use Rattle.statements_facts.specs.Statement.{CrlSlot, Holdings}
use Rattle.store_sql.specs.declared.fault.StoreFault.{StoreFault}
use Rattle.store_sql.specs.declared.origin.Origin.TheVariants.{Migrated}
use Rattle.store_rows.specs.Contents.{CrlRow, CrlHead, Contents, crl_row, id_of, is_crl_of, scope_number}
use Rattle.store_rows.specs.Places.{Replaces, replaced}
use Rattle.store_rows.specs.Holding.{AreInForm, FitInList, HasRoom, IsNumbered, crls_and, next_id, with_crl}
use Rattle.store_rows.specs.Steps.{Moves, Fails}
use Rattle.store_rows.proofs.Laws.{replaces, ascends}
use Rattle.store_maps.specs.Held.{crl_under, held_in, IsStoreOf}
use Rattle.store_maps.proofs.HeldLaws.{eq_of, is_eq_of, and_parts}
use Rattle.store_adoption.specs.declared.unscoped.UnscopedList.{UnscopedList}
use Rattle.store_adoption.specs.Seen.{seen_unscoped_list}
use Rattle.store_adoption.specs.Version1.{UnscopedCrl, UnscopedEntry, UnscopedContents, unscoped_entries, held_in_version_1, listed_under, unscoped_crl_under, for_all_certificates}
use Rattle.store_taking.specs.Lists.{with_list}
use Rattle.store_taking.specs.Passing.{HasStepped, StepFails}
use Rattle.store_taking.proofs.Laws.{all_and, all_as, all_filtered, crl_in_form, entries_in_form, list_owned}
use Rattle.store_migration.specs.Moved.{HasMoved, IsAmongFirst, IsNext}
use Rattle.store_migration.proofs.Counting.{among_more, next_is_among}

module _ {X : Type 0} (p q : X → Bool) where
  -- what is put behind the others is found where they are gone
  find_new : (xs : List X) (new : X) → p new ≡ true → find p (filter (λ x. not (p x)) xs ++ new ∷ []) ≡ Some new
  find_new [] new is = rw is refl
  find_new (x ∷ xs) new is = elim (cases_Bool (p x)) [
    | inl here ↦ rw here (find_new xs new is)
    | inr gone ↦ rw (gone, gone) (find_new xs new is)
  ]

  -- and another test finds what it found
  find_other : (xs : List X) (new : X) → q new ≡ false → ((x : X) → q x ≡ true → p x ≡ false) → find q (filter (λ x. not (p x)) xs ++ new ∷ []) ≡ find q xs
  find_other [] new far apart = rw far refl
  find_other (x ∷ xs) new far apart = elim (cases_Bool (q x)) [
    | inl found ↦ rw (apart x found, found) refl
    | inr lost ↦ elim (cases_Bool (p x)) [
      | inl here ↦ rw (here, lost) (find_other xs new far apart)
      | inr gone ↦ rw (gone, lost) (find_other xs new far apart)
    ]
  ]

-- ---- what stands under each id, once a list took its place

module _ (it : Contents) (id : ℕ) (head : CrlHead) (listed : List ListedSerial) (form : AreInForm it) (room : HasRoom id) (formed : FitInList listed) where
  abbrev after : Contents
  after = with_list id All head listed it

  abbrev new : CrlRow
  new = record { id = next_rowid (map crl_row (filter (λ row. not (is_crl_of id All row)) it.crls)); issuer = id; scope = All; number = head.number; window = head.window }

  places : Replaces it.entries (replaced it.entries id 0 listed) id 0 listed
  places = replaces it.entries id 0 listed form.placed room (omega arith) formed.few (ascends listed formed.ascend)

  own : crl_under after All id ≡ Some (record { number = head.number; window = head.window; reasons = first_reason listed })
  own =
      ap (option_map _) (find_new (is_crl_of id All) (is_crl_of id All) it.crls _ (ap₂ (λ a b. a && b) (is_eq_of id id refl) (is_eq_of 0 0 refl)))
      ∙ ap (λ all. Some (record { number = head.number; window = head.window; reasons = first_reason all })) places.own

  apart_tests : (j : ℕ) (scope : Scope) → (j ≢ id) ⊎ (scope_number scope ≢ 0) → (row : CrlRow) → is_crl_of j scope row ≡ true → is_crl_of id All row ≡ false
  apart_tests j scope far row is = elim (cases_Bool (is_crl_of id All row)) [
    | inl also ↦ absurd (let a = and_parts _ _ is in let b = and_parts _ _ also in clash far (sym (eq_of _ _ a.0) ∙ eq_of _ _ b.0) (sym (eq_of _ _ a.1) ∙ eq_of _ _ b.1))
    | inr gone ↦ gone
  ]
    where
      clash : (j ≢ id) ⊎ (scope_number scope ≢ 0) → j ≡ id → scope_number scope ≡ 0 → ⊥
      clash (inl a) x y = a x
      clash (inr b) x y = b y

  new_fails : (j : ℕ) (scope : Scope) → (j ≢ id) ⊎ (scope_number scope ≢ 0) → is_crl_of j scope new ≡ false
  new_fails j scope far = elim (cases_Bool (is_crl_of j scope new)) [
    | inl is ↦ absurd (true≢false (sym (ap₂ (λ x y. x && y) (is_eq_of id id refl) (is_eq_of 0 0 refl)) ∙ apart_tests j scope far new is))
    | inr gone ↦ gone
  ]

  others : (j : ℕ) (scope : Scope) → (j ≢ id) ⊎ (scope_number scope ≢ 0) → crl_under after scope j ≡ crl_under it scope j
  others j scope far =
      ap (option_map _) (find_other (is_crl_of id All) (is_crl_of j scope) it.crls new (new_fails j scope far) (apart_tests j scope far))
      ∙ ap (λ all. option_map (λ (row : CrlRow). record { number = row.number; window = row.window; reasons = first_reason all }) (find (is_crl_of j scope) it.crls)) (places.others j (scope_number scope) far)

-- ---- lists so far, and one more

abbrev pub Before : UnscopedCrl → UnscopedCrl → Type 0
Before one other = one.issuer < other.issuer

-- a list is behind those of lesser ids
pub lost : (moved : List UnscopedCrl) (crl : UnscopedCrl) (rest : List UnscopedCrl) → IsAscending Before ((moved ++ crl ∷ []) ++ rest) → AllByRecursion (λ (c : UnscopedCrl). c.issuer < crl.issuer) moved
lost [] crl rest up = tt
lost (c ∷ moved) crl rest up = (here moved up.0, lost moved crl rest up.1)
  where
    here : (moved : List UnscopedCrl) → AllByRecursion (Before c) ((moved ++ crl ∷ []) ++ rest) → c.issuer < crl.issuer
    here [] h = h.0
    here (d ∷ moved) h = here moved h.1

pub member : (P : UnscopedCrl → Type 0) (moved : List UnscopedCrl) (crl : UnscopedCrl) (rest : List UnscopedCrl) → AllByRecursion P ((moved ++ crl ∷ []) ++ rest) → P crl
member P [] crl rest h = h.0
member P (c ∷ moved) crl rest h = member P moved crl rest h.1

found_last : (moved : List UnscopedCrl) (crl : UnscopedCrl) (id : ℕ) → id ≡ crl.issuer → AllByRecursion (λ (c : UnscopedCrl). c.issuer < crl.issuer) moved → find (λ (c : UnscopedCrl). c.issuer == id) (moved ++ crl ∷ []) ≡ Some crl
found_last [] crl id e h = rw (is_eq_of crl.issuer id (sym e)) refl
found_last (c ∷ moved) crl id e h = elim (cases_Bool (c.issuer == id)) [
  | inl is ↦ absurd (let same = eq_of c.issuer id is in let low = h.0 in omega (arith, e, same, low))
  | inr gone ↦ rw gone (found_last moved crl id e h.1)
]

found_before : (moved : List UnscopedCrl) (crl : UnscopedCrl) (id : ℕ) → id ≢ crl.issuer → find (λ (c : UnscopedCrl). c.issuer == id) (moved ++ crl ∷ []) ≡ find (λ (c : UnscopedCrl). c.issuer == id) moved
found_before [] crl id far = elim (cases_Bool (crl.issuer == id)) [
  | inl is ↦ absurd (far (sym (eq_of crl.issuer id is)))
  | inr gone ↦ rw gone refl
]
found_before (c ∷ moved) crl id far = elim (cases_Bool (c.issuer == id)) [
  | inl is ↦ rw is refl
  | inr gone ↦ rw gone (found_before moved crl id far)
]

module _ (entries : List UnscopedEntry) (moved : List UnscopedCrl) (crl : UnscopedCrl) (listed : List ListedSerial) (formed : FitInList listed) (room : HasRoom crl.issuer)
    (reasons : (serial : List ℕ) → first_reason listed serial ≡ first_reason (listed_under entries crl.issuer) serial) (low : AllByRecursion (λ (c : UnscopedCrl). c.issuer < crl.issuer) moved) where
  stands : (it : Contents) → AreInForm it → ((id : ℕ) (scope : Scope) → crl_under it scope id ≡ for_all_certificates scope (unscoped_crl_under moved entries id))
      → (id : ℕ) (scope : Scope) → crl_under (with_list crl.issuer All crl.head listed it) scope id ≡ for_all_certificates scope (unscoped_crl_under (moved ++ crl ∷ []) entries id)
  stands it form lists id User = others it crl.issuer crl.head listed form room formed id User (inr (λ e. omega (arith, e))) ∙ lists id User
  stands it form lists id Ca = others it crl.issuer crl.head listed form room formed id Ca (inr (λ e. omega (arith, e))) ∙ lists id Ca
  stands it form lists id All = elim (cases_Bool (id == crl.issuer)) [
    | inl is ↦
        let e = eq_of id crl.issuer is in
        ap (crl_under (with_list crl.issuer All crl.head listed it) All) e ∙ own it crl.issuer crl.head listed form room formed
        ∙ ap (λ r. Some (record { number = crl.head.number; window = crl.head.window; reasons = r })) (fun_ext reasons ∙ ap (λ n. first_reason (listed_under entries n)) (sym e))
        ∙ ap (option_map (λ (c : UnscopedCrl). record { number = c.head.number; window = c.head.window; reasons = first_reason (listed_under entries id) })) (sym (found_last moved crl id e low))
    | inr far ↦
        let other = λ (e : id ≡ crl.issuer). true≢false (sym (is_eq_of id crl.issuer e) ∙ far) in
        others it crl.issuer crl.head listed form room formed id All (inl other) ∙ lists id All
        ∙ ap (option_map (λ (c : UnscopedCrl). record { number = c.head.number; window = c.head.window; reasons = first_reason (listed_under entries id) })) (sym (found_before moved crl id other))
  ]

-- ---- a list in its place

-- the id of its row is the next one
one_more_id : (moved : List UnscopedCrl) (crl : UnscopedCrl) (rows : List CrlRow) → AllByRecursion (λ (row : CrlRow). IsAmongFirst (length moved) row.id) rows
    → AllByRecursion (λ (row : CrlRow). IsAmongFirst (length (moved ++ crl ∷ [])) row.id) (crls_and crl.issuer All crl.head.number crl.head.window (filter (λ row. not (is_crl_of crl.issuer All row)) rows))
one_more_id moved crl rows ids =
    let others = filter (λ row. not (is_crl_of crl.issuer All row)) rows in
    let left = all_filtered (λ (row : CrlRow). IsAmongFirst (length moved) row.id) (λ row. not (is_crl_of crl.issuer All row)) rows ids in
    subst (λ n. AllByRecursion (λ (row : CrlRow). IsAmongFirst n row.id) (crls_and crl.issuer All crl.head.number crl.head.window others)) (sym (length-append moved (crl ∷ [])))
    (all_and (λ (row : CrlRow). IsAmongFirst (length moved + 1) row.id) others _ (all_as (λ (row : CrlRow). IsAmongFirst (length moved) row.id) (λ (row : CrlRow). IsAmongFirst (length moved + 1) row.id) others (λ row h. among_more (length moved) row.id h) left) (next_is_among (length moved) others left))

pub list_moves : (old new : State) (crls : List UnscopedCrl) (entries : List UnscopedEntry) (moved : List UnscopedCrl) (crl : UnscopedCrl) (listed : List ListedSerial) → Moves old new (with_list crl.issuer All crl.head listed) → FitInList listed → HasRoom crl.issuer
    → ((serial : List ℕ) → first_reason listed serial ≡ first_reason (listed_under entries crl.issuer) serial) → IsNext crls moved crl → HasStepped old new (HasMoved crls entries moved) (HasMoved crls entries (moved ++ crl ∷ []))
list_moves old new crls entries moved crl listed moves formed room reasons next = record {
  keeps = record { was_open = λ _. moves.was_open; committed = λ _. moves.committed_is };
  mode = moves.mode;
  held = λ held m.
      let before = m.it in
      let it = m.contents in
      let all : before.crls ≡ (moved ++ crl ∷ []) ++ next.0 = m.was.lists.0 ∙ next.1 in
      let fits = member (λ c. (c.issuer < next_id before.issuers) × IsNumbered c.head) moved crl next.0 (subst (AllByRecursion (λ (c : UnscopedCrl). (c.issuer < next_id before.issuers) × IsNumbered c.head)) all m.was.form.crls) in
      let low = lost moved crl next.0 (subst (IsAscending Before) all m.was.crls_rise) in
      record {
        it = before;
        was = m.was;
        contents = with_list crl.issuer All crl.head listed it;
        rows = moves.rows Migrated it m.rows m.form;
        form = entries_in_form (with_crl crl.issuer All crl.head it) crl.issuer 0 listed (crl_in_form it crl.issuer All crl.head m.form fits.1) room (omega arith) formed.few formed.ascend formed.bytes;
        owned = list_owned it crl.issuer All crl.head listed m.owned (subst (λ rows. crl.issuer < next_id rows) (sym m.issuers_are) fits.0);
        profile_is = m.profile_is;
        issuers_are = m.issuers_are;
        singles_are = m.singles_are;
        lists = stands entries moved crl listed formed room reasons low it m.form m.lists;
        ids = one_more_id moved crl it.crls m.ids;
      };
}

pub list_stops : (old new : State) (crls : List UnscopedCrl) (entries : List UnscopedEntry) (moved : List UnscopedCrl) (fault : StoreFault) → Fails old new fault → StepFails old new (HasMoved crls entries moved) fault
list_stops _ _ crls entries moved fault f = record { keeps = f.keeps; formed = λ e held was. f.formed e Migrated was.contents was.rows was.form }

pub stops_here : (s : State) (P : Database → Holdings → Type 0) (fault : StoreFault) → fault ≢ StoreFault.Schema → StepFails s s P fault
stops_here s P fault other = record { keeps = record { was_open = λ h. h; committed = λ _. refl }; formed = λ e held was. other e }

-- ---- the loop

pub nothing_passes : (s : State) (P : Database → Holdings → Type 0) → IsTrue s.in_transaction → HasStepped s s P P
nothing_passes s P inside = record { keeps = record { was_open = λ h. h; committed = λ _. refl }; mode = inside; held = λ held was. was }

-- the lists so far with the next, and what is left
pub next_of : (all : List UnscopedList) (k : ℕ) (d : UnscopedList) → k < length all → IsNext (map seen_unscoped_list all) (map seen_unscoped_list (take k all)) (seen_unscoped_list (get_or all k d))
next_of all k d low = (
  map seen_unscoped_list (drop (k + 1) all),
  ap (map seen_unscoped_list) (sym (take-append-drop (k + 1) all)) ∙ map-append seen_unscoped_list (take (k + 1) all) (drop (k + 1) all) ∙ ap (λ xs. xs ++ map seen_unscoped_list (drop (k + 1) all)) (map_more seen_unscoped_list all k d low),
)

pub more_moved : (all : List UnscopedList) (k : ℕ) (d : UnscopedList) → k < length all → map seen_unscoped_list (take (k + 1) all) ≡ map seen_unscoped_list (take k all) ++ seen_unscoped_list (get_or all k d) ∷ []
more_moved all k d low = map_more seen_unscoped_list all k d low

pub all_moved : (all : List UnscopedList) (k : ℕ) → k ≡ length all → map seen_unscoped_list (take k all) ≡ map seen_unscoped_list all
all_moved all k at = ap (λ n. map seen_unscoped_list (take n all)) at ∙ ap (map seen_unscoped_list) (take-length all)

-- ---- the end

slots : (it : UnscopedContents) (contents : Contents) (entries : List UnscopedEntry) → unscoped_entries it ≡ entries → contents.issuers ≡ it.issuers → ((id : ℕ) (scope : Scope) → crl_under contents scope id ≡ for_all_certificates scope (unscoped_crl_under it.crls entries id))
    → (slot : CrlSlot) → (held_in contents).crl slot ≡ (held_in_version_1 it).crl slot
slots it contents entries entries_are issuers lists slot =
    ap (λ rows. option_and_then (crl_under contents slot.scope) (id_of rows slot.issuer)) issuers
    ∙ each (id_of it.issuers slot.issuer)
    ∙ ap (λ es. for_all_certificates slot.scope (option_and_then (unscoped_crl_under it.crls es) (id_of it.issuers slot.issuer))) (sym entries_are)
  where
    nothing : (scope : Scope) → None ≡ for_all_certificates scope None
    nothing All = refl
    nothing User = refl
    nothing Ca = refl

    each : (found : Option ℕ) → option_and_then (crl_under contents slot.scope) found ≡ for_all_certificates slot.scope (option_and_then (unscoped_crl_under it.crls entries) found)
    each None = nothing slot.scope
    each (Some id) = lists id slot.scope

store_of_moved : (db : Database) (crls : List UnscopedCrl) (entries : List UnscopedEntry) (held : Holdings) → HasMoved crls entries crls db held → IsStoreOf db held
store_of_moved db crls entries held m =
    let lists = subst (λ all. (id : ℕ) (scope : Scope) → crl_under m.contents scope id ≡ for_all_certificates scope (unscoped_crl_under all entries id)) (sym m.was.lists.0) m.lists in
    let by_slot = fun_ext (slots m.it m.contents entries m.was.lists.1 m.issuers_are lists) in
    let ocsp : (held_in m.contents).ocsp ≡ (held_in_version_1 m.it).ocsp = ap₂ (λ issuers singles. (held_in (record { profile = Stated; issuers = issuers; crls = []; entries = []; singles = singles })).ocsp) m.issuers_are m.singles_are in
    record {
      origin = Migrated;
      contents = m.contents;
      rows = m.rows;
      form = m.form;
      owned = m.owned;
      held_is = (λ i. record { profile = m.profile_is i; crl = by_slot i; ocsp = ocsp i }) ∙ m.was.held_is;
    }

pub stores_pass : (old new : State) (P : Database → Holdings → Type 0) (crls : List UnscopedCrl) (entries : List UnscopedEntry) → HasStepped old new P (HasMoved crls entries crls) → HasStepped old new P IsStoreOf
stores_pass old new P crls entries passes = record { keeps = passes.keeps; mode = passes.mode; held = λ held was. store_of_moved new.now crls entries held (passes.held held was) }

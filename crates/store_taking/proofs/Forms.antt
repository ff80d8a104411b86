-- Rows stay in form, and owned, when issuers are added and lists and single responses take the place of others.
use Rattle.std.proofs.Common.{◌≡◌, ◌<◌, ◌≤◌, ◌+◌, ℕ, suc, List, [], ◌∷◌, ◌++◌, filter, find, fold, length, not, Bool, true, Option, Some, None, option_map, refl, sym, ap, subst, ◌∙◌, inl, inr, arith}
use Rattle.std.proofs.lemmas.Bool.{cases_Bool}
use Rattle.std.specs.List.{AllByRecursion}
use Rattle.std.specs.Cmp.Lexicographic.{bytes_decides}
use Rattle.std.specs.Prelude.{nat_lt}
use Rattle.sqlite_trees.specs.Tree.{IsAscending}
use Rattle.statements_facts.specs.declared.scope.Scope.{Scope}
use Rattle.statements_facts.specs.declared.scope.Scope.TheVariants.{All, User, Ca}
use Rattle.statements_facts.specs.Listed.{ListedSerial, IsAscending as Ascend}
use Rattle.statements_facts.specs.Statement.{IssuerIdentity, OcspFact, same_issuer}
use Rattle.store_rows.specs.Contents.{IssuerRow, CrlRow, EntryRow, SingleRow, CrlHead, Contents, head_of, is_issuer, is_crl_of, is_single_of, id_of, scope_number}
use Rattle.store_rows.specs.Places.{put_entry, without, fill, replaced}
use Rattle.store_rows.specs.Holding.{AreInForm, HasRoom, IsNumbered, HasByte, IsSaid, next_id, with_issuer, with_crl, with_entries, with_single}
use Rattle.store_rows.proofs.Laws.{replaces, ascends}
use Rattle.store_maps.specs.Held.{IsOwned}
use Rattle.store_maps.proofs.HeldLaws.{find_past}
use Rattle.store_taking.specs.Lists.{with_list}

-- ---- lists

pub all_filtered : {X : Type 0} (P : X → Type 0) (p : X → Bool) (xs : List X) → AllByRecursion P xs → AllByRecursion P (filter p xs)
all_filtered P p [] h = tt
all_filtered P p (x ∷ xs) h = elim (cases_Bool (p x)) [ inl here ↦ rw here (h.0, all_filtered P p xs h.1) | inr gone ↦ rw gone (all_filtered P p xs h.1) ]

pub all_and : {X : Type 0} (P : X → Type 0) (xs : List X) (x : X) → AllByRecursion P xs → P x → AllByRecursion P (xs ++ x ∷ [])
all_and P [] x h one = (one, tt)
all_and P (y ∷ xs) x h one = (h.0, all_and P xs x h.1 one)

pub all_as : {X : Type 0} (P Q : X → Type 0) (xs : List X) → ((x : X) → P x → Q x) → AllByRecursion P xs → AllByRecursion Q xs
all_as P Q [] leads h = tt
all_as P Q (x ∷ xs) leads h = (leads x h.0, all_as P Q xs leads h.1)

all_put : (P : EntryRow → Type 0) (e : EntryRow) (es : List EntryRow) → AllByRecursion P es → P e → AllByRecursion P (put_entry e es)
all_put P e [] h one = (one, tt)
all_put P e (x ∷ es) h one = elim (cases_Bool (nat_lt x.place e.place)) [ inl low ↦ rw low (h.0, all_put P e es h.1 one) | inr high ↦ rw high (one, h) ]

all_filled : (es : List EntryRow) (i s n : ℕ) (ps : List ListedSerial) → AllByRecursion (λ (e : EntryRow). HasByte e.listed) es → AllByRecursion HasByte ps → AllByRecursion (λ (e : EntryRow). HasByte e.listed) (fill es i s n ps)
all_filled es i s n [] h all = h
all_filled es i s n (p ∷ ps) h all =
    all_filled (put_entry (record { place = n; issuer = i; scope = s; listed = p }) es) i s (suc n) ps (all_put (λ (e : EntryRow). HasByte e.listed) (record { place = n; issuer = i; scope = s; listed = p }) es h all.0) all.1

-- ---- ids

abbrev after_id : ℕ → IssuerRow → ℕ
after_id id row = row.id + 1

below_last : (n first : ℕ) (rows : List IssuerRow) → n < first → AllByRecursion (λ (row : IssuerRow). n < row.id) rows → n < fold after_id first rows
below_last n first [] low h = low
below_last n first (row ∷ rows) low h = below_last n (row.id + 1) rows (omega (arith, h.0)) h.1

all_below : (first : ℕ) (rows : List IssuerRow) → IsAscending (λ (one other : IssuerRow). one.id < other.id) rows → AllByRecursion (λ (row : IssuerRow). row.id < fold after_id first rows) rows
all_below first [] rise = tt
all_below first (row ∷ rows) rise = (below_last row.id (row.id + 1) rows (omega arith) rise.0, all_below (row.id + 1) rows rise.1)

found_has : {X : Type 0} (P : X → Type 0) (p : X → Bool) (xs : List X) (x : X) → AllByRecursion P xs → find p xs ≡ Some x → P x
found_has P p [] x h e = let no : None ≡ Some x = e in cc
found_has P p (y ∷ xs) x h e = elim (cases_Bool (p y)) [
  | inl here ↦ (let some : Some y ≡ Some x = rw here at e in let same : y ≡ x = cc in subst P same h.0)
  | inr gone ↦ found_has P p xs x h.1 (rw gone at e)
]

-- the id of an issuer is below the next one's
pub id_below : (issuers : List IssuerRow) (identity : IssuerIdentity) (id : ℕ) → IsAscending (λ (one other : IssuerRow). one.id < other.id) issuers → id_of issuers identity ≡ Some id → id < next_id issuers
id_below issuers identity id rise known = from (find (is_issuer identity) issuers) refl
  where
    from : (found : Option IssuerRow) → find (is_issuer identity) issuers ≡ found → id < next_id issuers
    from None e = let no : None ≡ Some id = sym (ap (option_map (λ (row : IssuerRow). row.id)) e) ∙ known in cc
    from (Some row) e =
        let some : Some row.id ≡ Some id = sym (ap (option_map (λ (row : IssuerRow). row.id)) e) ∙ known in
        let same : row.id ≡ id = cc in
        subst (λ n. n < next_id issuers) same (found_has (λ (row : IssuerRow). row.id < next_id issuers) (is_issuer identity) issuers row (all_below 1 issuers rise) e)

pub last_is : (first : ℕ) (rows : List IssuerRow) (row : IssuerRow) → fold after_id first (rows ++ row ∷ []) ≡ row.id + 1
last_is first [] row = refl
last_is first (other ∷ rows) row = last_is (other.id + 1) rows row

-- ---- one more issuer

itself : (identity : IssuerIdentity) → same_issuer identity identity ≡ true
itself identity = rw ((bytes_decides identity.name identity.name).1 refl, (bytes_decides identity.key_info identity.key_info).1 refl) refl

pub new_id : (it : Contents) (identity : IssuerIdentity) → id_of it.issuers identity ≡ None → id_of (with_issuer identity it).issuers identity ≡ Some (next_id it.issuers)
new_id it identity unknown =
    let new : IssuerRow = record { id = next_id it.issuers; identity = identity } in
    let alone : find (is_issuer identity) (new ∷ []) ≡ Some new = rw (itself identity) refl in
    ap (option_map (λ (row : IssuerRow). row.id)) (find_past (is_issuer identity) it.issuers (new ∷ []) (gone (find (is_issuer identity) it.issuers) unknown) ∙ alone)
  where
    gone : (found : Option IssuerRow) → option_map (λ (row : IssuerRow). row.id) found ≡ None → found ≡ None
    gone None e = refl
    gone (Some row) e = let no : Some row.id ≡ None = e in cc

pub issuer_in_form : (it : Contents) (identity : IssuerIdentity) → AreInForm it → HasRoom (next_id it.issuers) → AreInForm (with_issuer identity it)
issuer_in_form it identity form room = record {
  ids = all_and (λ (row : IssuerRow). HasRoom row.id) it.issuers (record { id = next_id it.issuers; identity = identity }) form.ids room;
  numbers = form.numbers;
  reasons = form.reasons;
  statuses = form.statuses;
  placed = form.placed;
}

pub issuer_owned : (it : Contents) (identity : IssuerIdentity) → IsOwned it → IsOwned (with_issuer identity it)
issuer_owned it identity owned =
    let new : IssuerRow = record { id = next_id it.issuers; identity = identity } in
    let more : (n : ℕ) → n < next_id it.issuers → n < next_id (it.issuers ++ new ∷ []) = λ n low. rw (last_is 1 it.issuers new) (omega (arith, low)) in
    record {
      crls = all_as (λ (row : CrlRow). row.issuer < next_id it.issuers) (λ (row : CrlRow). row.issuer < next_id (it.issuers ++ new ∷ [])) it.crls (λ row low. more row.issuer low) owned.crls;
      singles = all_as (λ (row : SingleRow). row.issuer < next_id it.issuers) (λ (row : SingleRow). row.issuer < next_id (it.issuers ++ new ∷ [])) it.singles (λ row low. more row.issuer low) owned.singles;
    }

-- ---- a list in the place of another

pub scope_low : (scope : Scope) → scope_number scope < 3
scope_low All = omega arith
scope_low User = omega arith
scope_low Ca = omega arith

pub crl_in_form : (it : Contents) (id : ℕ) (scope : Scope) (head : CrlHead) → AreInForm it → IsNumbered head → AreInForm (with_crl id scope head it)
crl_in_form it id scope head form numbered = record {
  ids = form.ids;
  numbers = all_and (λ (row : CrlRow). IsNumbered (head_of row)) (filter (λ row. not (is_crl_of id scope row)) it.crls) _ (all_filtered (λ (row : CrlRow). IsNumbered (head_of row)) (λ row. not (is_crl_of id scope row)) it.crls form.numbers) numbered;
  reasons = form.reasons;
  statuses = form.statuses;
  placed = form.placed;
}

pub entries_in_form : (it : Contents) (id scope : ℕ) (listed : List ListedSerial) → AreInForm it → HasRoom id → scope < 3 → length listed ≤ 4294967296 → Ascend listed → AllByRecursion HasByte listed → AreInForm (with_entries id scope listed it)
entries_in_form it id scope listed form room low few up bytes = record {
  ids = form.ids;
  numbers = form.numbers;
  reasons = all_filled (without id scope it.entries) id scope (Rattle.store_rows.specs.Places.list_base id scope) listed (all_filtered (λ (e : EntryRow). HasByte e.listed) (λ e. not (Rattle.store_rows.specs.Places.is_under id scope e)) it.entries form.reasons) bytes;
  statuses = form.statuses;
  placed = (replaces it.entries id scope listed form.placed room low few (ascends listed up)).placed;
}

pub list_owned : (it : Contents) (id : ℕ) (scope : Scope) (head : CrlHead) (listed : List ListedSerial) → IsOwned it → id < next_id it.issuers → IsOwned (with_list id scope head listed it)
list_owned it id scope head listed owned low = record {
  crls = all_and (λ (row : CrlRow). row.issuer < next_id it.issuers) (filter (λ row. not (is_crl_of id scope row)) it.crls) _ (all_filtered (λ (row : CrlRow). row.issuer < next_id it.issuers) (λ row. not (is_crl_of id scope row)) it.crls owned.crls) low;
  singles = owned.singles;
}

-- ---- a single response in the place of another

pub single_in_form : (it : Contents) (id : ℕ) (name_hash serial : List ℕ) (fact : OcspFact) → AreInForm it → IsSaid fact → AreInForm (with_single id (record { name_hash = name_hash; serial = serial; fact = fact }) it)
single_in_form it id name_hash serial fact form said = record {
  ids = form.ids;
  numbers = form.numbers;
  reasons = form.reasons;
  statuses = all_and (λ (row : SingleRow). IsSaid row.fact) (filter (λ row. not (is_single_of id name_hash serial row)) it.singles) _ (all_filtered (λ (row : SingleRow). IsSaid row.fact) (λ row. not (is_single_of id name_hash serial row)) it.singles form.statuses) said;
  placed = form.placed;
}

pub single_owned : (it : Contents) (id : ℕ) (name_hash serial : List ℕ) (fact : OcspFact) → IsOwned it → id < next_id it.issuers → IsOwned (with_single id (record { name_hash = name_hash; serial = serial; fact = fact }) it)
single_owned it id name_hash serial fact owned low = record {
  crls = owned.crls;
  singles = all_and (λ (row : SingleRow). row.issuer < next_id it.issuers) (filter (λ row. not (is_single_of id name_hash serial row)) it.singles) _ (all_filtered (λ (row : SingleRow). row.issuer < next_id it.issuers) (λ row. not (is_single_of id name_hash serial row)) it.singles owned.singles) low;
}

-- What is read of a store's rows is what they say, and each of them is in form.
use Rattle.std.proofs.Common.{◌≡◌, ℕ, ◌+◌, ◌<◌, ◌≤◌, ◌^◌, List, [], ◌∷◌, map, fold, refl, sym, ap, ap₂, subst, ◌∙◌, arith}
use Rattle.std.specs.List.{AllByRecursion}
use Rattle.sqlite.specs.Order.{Row, column}
use Rattle.sqlite.specs.Effect.{Database}
use Rattle.statements_facts.specs.declared.scope.Scope.{Scope}
use Rattle.statements_facts.specs.declared.scope.Scope.TheVariants.{All, User, Ca}
use Rattle.statements_facts.specs.declared.single.Status.{Status}
use Rattle.statements_facts.specs.declared.single.Status.TheVariants.{Good, Revoked, Unknown}
use Rattle.store_sql.specs.declared.origin.Origin.{Origin}
use Rattle.store_sql.specs.Tables.{store_schema, crls_tree, entries_tree}
use Rattle.store_rows.specs.Contents.{IssuerRow, CrlRow, EntryRow, SingleRow, Contents, issuer_row, crl_row, entry_row, single_row, head_of, scope_number, status_number, reason_number}
use Rattle.store_rows.specs.Holding.{HasRoom, IsNumbered, IsSaid, next_id}
use Rattle.store_rows.specs.Places.{IsInside}
use Rattle.store_rows.proofs.Laws.{value_back}
use Rattle.store_maps.specs.Held.{held_in}
use Rattle.store_adoption.specs.Inspects.{TablesAreInOrder}
use Rattle.store_adoption.proofs.Laws.{order_of_store, one_origin, few_scopes, few_statuses, few_reasons, numbered, both_all, all_shown}
use Rattle.store_listing.specs.Counts.{list_number, how_many, HaveRoom}
use Rattle.store_listing.specs.Cells.{held_scope_in, status_in, IsIssuerRow, held_issuer_in, IsKeyRow, list_of, IsListRow, list_in, IsSingleRow, single_in}
use Rattle.store_listing.specs.Listing.{StoredHead, ListedSingle, stored_head, listed_crl, listed_single, with_count}
use Rattle.store_listing.specs.Reads.{IsStoreWith, number_of_entry}
use Rattle.store_listing.proofs.Counting.{have_room, counted_under}

-- ---- the store

pub in_order_as : (db : Database) (it : Contents) → IsStoreWith db it → TablesAreInOrder db
in_order_as db it s = order_of_store db (held_in it, record { origin = s.origin; contents = it; rows = s.rows; form = s.form; owned = s.owned; held_is = refl })

same_origin : (origin : Origin) (db : Database) (it : Contents) (s : IsStoreWith db it) → db.schema ≡ store_schema origin → s.origin ≡ origin
same_origin origin db it s has = one_origin s.origin origin (sym s.rows.schema_is ∙ has)

-- ids are below the limit
abbrev limit : ℕ
limit = 536870911

next_low : (xs : List IssuerRow) → AllByRecursion (λ x. HasRoom x.id) xs → next_id xs ≤ limit
next_low xs low = go 1 xs (omega arith) low
  where
    go : (start : ℕ) (xs : List IssuerRow) → start ≤ limit → AllByRecursion (λ x. HasRoom x.id) xs → fold (λ id row. row.id + 1) start xs ≤ limit
    go start [] begins low = begins
    go start (x ∷ xs) begins low = go (x.id + 1) xs (let here = low.0 in omega (arith, here)) low.1

-- ---- issuers

abbrev pub issuer_cells : Row → Row
issuer_cells row = column row 0 ∷ column row 2 ∷ column row 3 ∷ []

issuers_back : (xs : List IssuerRow) → map held_issuer_in (map issuer_cells (map issuer_row xs)) ≡ xs
issuers_back [] = refl
issuers_back (x ∷ xs) = ap (λ more. x ∷ more) (issuers_back xs)

pub issuers_told : (db : Database) (it : Contents) (seen : List IssuerRow) → IsStoreWith db it → seen ≡ map held_issuer_in (map issuer_cells (db.trees 1)) → seen ≡ it.issuers
issuers_told db it seen s is = is ∙ ap (λ rows. map held_issuer_in (map issuer_cells rows)) s.rows.issuers ∙ issuers_back it.issuers

pub issuers_formed : (db : Database) (it : Contents) → IsStoreWith db it → AllByRecursion IsIssuerRow (map issuer_cells (db.trees 1))
issuers_formed db it s = subst (λ rows. AllByRecursion IsIssuerRow (map issuer_cells rows)) (sym s.rows.issuers)
    (all_shown (λ (x : IssuerRow). HasRoom x.id) IsIssuerRow issuer_row issuer_cells (λ x room. ((refl, room), refl, refl)) it.issuers s.form.ids)

-- ---- lists

abbrev pub list_cells : Row → Row
list_cells row = column row 1 ∷ column row 2 ∷ column row 3 ∷ column row 4 ∷ column row 5 ∷ []

scope_back : (scope : Scope) → held_scope_in (scope_number scope) ≡ scope
scope_back All = refl
scope_back User = refl
scope_back Ca = refl

list_back : (x : CrlRow) → x.number < 2 ^ 160 → list_in (list_cells (crl_row x)) ≡ stored_head x
list_back x low =
    let scope = scope_back x.scope in
    let number = value_back 20 x.number low in
    λ i. record { issuer = x.issuer; scope = scope i; head = record { number = number i; window = x.window } }

lists_back : (xs : List CrlRow) → AllByRecursion (λ x. IsNumbered (head_of x)) xs → map list_in (map list_cells (map crl_row xs)) ≡ map stored_head xs
lists_back [] low = refl
lists_back (x ∷ xs) low = ap₂ (λ a b. a ∷ b) (list_back x low.0) (lists_back xs low.1)

crls_are : (origin : Origin) (db : Database) (it : Contents) → db.schema ≡ store_schema origin → IsStoreWith db it → db.trees (crls_tree origin) ≡ map crl_row it.crls
crls_are origin db it has s = ap (λ o. db.trees (crls_tree o)) (sym (same_origin origin db it s has)) ∙ s.rows.crls

pub lists_told : (origin : Origin) (db : Database) (it : Contents) (seen : List StoredHead) → db.schema ≡ store_schema origin → IsStoreWith db it
    → seen ≡ map list_in (map list_cells (db.trees (crls_tree origin))) → seen ≡ map stored_head it.crls
lists_told origin db it seen has s is = is ∙ ap (λ rows. map list_in (map list_cells rows)) (crls_are origin db it has s) ∙ lists_back it.crls s.form.numbers

pub lists_formed : (origin : Origin) (db : Database) (it : Contents) → db.schema ≡ store_schema origin → IsStoreWith db it → AllByRecursion IsListRow (map list_cells (db.trees (crls_tree origin)))
lists_formed origin db it has s =
    let most = next_low it.issuers s.form.ids in
    subst (λ rows. AllByRecursion IsListRow (map list_cells rows)) (sym (crls_are origin db it has s))
    (all_shown (λ (x : CrlRow). IsNumbered (head_of x) × (x.issuer < next_id it.issuers)) IsListRow crl_row list_cells
    (λ x h. ((refl, let own = h.1 in omega (arith, own, most)), (refl, few_scopes x.scope), (numbered x.number h.0, refl, refl))) it.crls (both_all _ _ it.crls s.form.numbers s.owned.crls))

-- ---- entries

abbrev pub key_cells : Row → Row
key_cells row = column row 2 ∷ column row 3 ∷ []

keys_back : (xs : List EntryRow) → map list_of (map key_cells (map entry_row xs)) ≡ map number_of_entry xs
keys_back [] = refl
keys_back (x ∷ xs) = ap (λ more. number_of_entry x ∷ more) (keys_back xs)

keys_are : (origin : Origin) (db : Database) (it : Contents) → db.schema ≡ store_schema origin → IsStoreWith db it → map list_of (map key_cells (db.trees (entries_tree origin))) ≡ map number_of_entry it.entries
keys_are origin db it has s = ap (λ rows. map list_of (map key_cells rows)) (ap (λ o. db.trees (entries_tree o)) (sym (same_origin origin db it s has)) ∙ s.rows.entries) ∙ keys_back it.entries

pub keys_told : (origin : Origin) (db : Database) (it : Contents) (P : List ℕ → Type 0) → db.schema ≡ store_schema origin → IsStoreWith db it → P (map list_of (map key_cells (db.trees (entries_tree origin)))) → P (map number_of_entry it.entries)
keys_told origin db it P has s = subst P (keys_are origin db it has s)

pub keys_formed : (origin : Origin) (db : Database) (it : Contents) → db.schema ≡ store_schema origin → IsStoreWith db it
    → AllByRecursion IsKeyRow (map key_cells (db.trees (entries_tree origin))) × HaveRoom (map list_of (map key_cells (db.trees (entries_tree origin))))
keys_formed origin db it has s = (
  subst (λ rows. AllByRecursion IsKeyRow (map key_cells rows)) (sym (ap (λ o. db.trees (entries_tree o)) (sym (same_origin origin db it s has)) ∙ s.rows.entries))
      (all_shown IsInside IsKeyRow entry_row key_cells (λ x i. ((refl, i.issuer), (refl, i.scope))) it.entries s.form.placed.inside),
  subst HaveRoom (sym (keys_are origin db it has s)) (have_room it.entries s.form.placed),
)

-- the lists with the counts of all entries
pub counts_told : (it : Contents) (count : ℕ → ℕ) (crls : List CrlRow) → AllByRecursion IsInside it.entries → ((number : ℕ) → count number ≡ how_many number (map number_of_entry it.entries)) → map (with_count count) (map stored_head crls) ≡ map (listed_crl it.entries) crls
counts_told it count [] inside so = refl
counts_told it count (x ∷ xs) inside so =
    let same = so (list_number x.issuer (scope_number x.scope)) ∙ counted_under x.issuer (scope_number x.scope) it.entries (few_scopes x.scope) inside in
    ap₂ (λ a b. a ∷ b) (λ i. record { issuer = x.issuer; scope = x.scope; head = head_of x; entries = same i }) (counts_told it count xs inside so)

-- ---- responses

abbrev pub single_cells : Row → Row
single_cells row = column row 1 ∷ column row 2 ∷ column row 3 ∷ column row 4 ∷ column row 5 ∷ column row 6 ∷ column row 7 ∷ column row 8 ∷ column row 9 ∷ []

status_back : (status : Status) → status_in (status_number status) (reason_number status) ≡ status
status_back Good = refl
status_back (Revoked reason) = refl
status_back Unknown = refl

single_back : (x : SingleRow) → single_in (single_cells (single_row x)) ≡ listed_single x
single_back x =
    let status = status_back x.fact.status in
    λ i. record { issuer = x.issuer; single = record { name_hash = x.name_hash; serial = x.serial; fact = record { times = x.fact.times; window = x.fact.window; status = status i } } }

singles_back : (xs : List SingleRow) → map single_in (map single_cells (map single_row xs)) ≡ map listed_single xs
singles_back [] = refl
singles_back (x ∷ xs) = ap₂ (λ a b. a ∷ b) (single_back x) (singles_back xs)

pub singles_told : (db : Database) (it : Contents) (seen : List ListedSingle) → IsStoreWith db it → seen ≡ map single_in (map single_cells (db.trees 3)) → seen ≡ map listed_single it.singles
singles_told db it seen s is = is ∙ ap (λ rows. map single_in (map single_cells rows)) s.rows.singles ∙ singles_back it.singles

pub singles_formed : (db : Database) (it : Contents) → IsStoreWith db it → AllByRecursion IsSingleRow (map single_cells (db.trees 3))
singles_formed db it s =
    let most = next_low it.issuers s.form.ids in
    subst (λ rows. AllByRecursion IsSingleRow (map single_cells rows)) (sym s.rows.singles)
    (all_shown (λ (x : SingleRow). IsSaid x.fact × (x.issuer < next_id it.issuers)) IsSingleRow single_row single_cells
    (λ x h. ((refl, let own = h.1 in omega (arith, own, most)), refl, refl, ((refl, refl, refl, refl), ((refl, few_statuses x.fact.status), (refl, few_reasons x.fact.status h.0))))) it.singles (both_all _ _ it.singles s.form.statuses s.owned.singles))

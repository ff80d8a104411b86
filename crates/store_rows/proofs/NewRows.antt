-- A row whose key no other row has, and which is not too long, breaks no rule of its table.
use Rattle.std.proofs.Common.{◌≡◌, ◌+◌, ℕ, ℤ, pos, List, [], ◌∷◌, map, find, filter, length, Bool, true, false, not, ◌&&◌, ◌==◌, Option, Some, None, option_map, refl, sym, ap, subst, ◌∙◌, inl, inr, arith, true≢false}
use Rattle.std.proofs.lemmas.Bool.{cases_Bool, false_from_ne_true}
use Rattle.std.specs.List.{AllByRecursion}
use Rattle.std.specs.Str.{bytes_eq}
use Rattle.sqlite_schema.specs.declared.schema.Index.{Index}
use Rattle.sqlite_schema.specs.Rules.{agree, index_reals, table_reals}
use Rattle.sqlite_rules.specs.Edit.{IsOversized}
use Rattle.sqlite_rules.specs.Lists.{Has}
use Rattle.sqlite_sql.specs.Catalog.{entry_of}
use Rattle.sqlite_trees.specs.View.{IsStorable}
use Rattle.sqlite.specs.Order.{Row}
use Rattle.sqlite.specs.Table.{Table}
use Rattle.sqlite.specs.declared.types.Value.TheVariants.{Null, Int, Blob}
use Rattle.statements_facts.specs.Statement.{IssuerIdentity}
use Rattle.store_sql.specs.declared.origin.Origin.{Origin}
use Rattle.store_sql.specs.declared.origin.Origin.TheVariants.{Made, Migrated}
use Rattle.store_sql.specs.Tables.{store_schema, issuers_table, ocsp_table, scoped_crls_table, scoped_entries_table, issuers_key, ocsp_key, scoped_crls_key, crls_tree, entries_tree}
use Rattle.store_sql.proofs.Laws.{IsNewKey, int_is_number, zero_is_number, storable}
use Rattle.store_rows.specs.Contents.{IssuerRow, CrlRow, EntryRow, SingleRow, issuer_row, crl_row, entry_row, single_row, is_issuer, is_crl_of, is_single_of, id_of, scope_number, status_number, reason_number}
use Rattle.store_rows.specs.Room.{FitRow}
use Rattle.store_rows.proofs.Naturals.{eq_of, is_eq_of}
use Rattle.store_rows.proofs.Numbers.{length_octets}
use Rattle.store_rows.proofs.Steps.{issuers_agree, crls_agree, singles_agree, and_parts, octets_of, octets_same}

-- ---- which index is that of a table

pub issuers_key_only : (origin : Origin) (i : Index) → Has (store_schema origin).indexes i → i.table ≡ 1 → i ≡ issuers_key
issuers_key_only Made i (inl is) at = is
issuers_key_only Made i (inr (inl is)) at = absurd (let t = ap (λ (k : Index). k.table) is in omega (arith, t, at))
issuers_key_only Made i (inr (inr (inl is))) at = absurd (let t = ap (λ (k : Index). k.table) is in omega (arith, t, at))
issuers_key_only Made i (inr (inr (inr none))) at = absurd none
issuers_key_only Migrated i (inl is) at = is
issuers_key_only Migrated i (inr (inl is)) at = absurd (let t = ap (λ (k : Index). k.table) is in omega (arith, t, at))
issuers_key_only Migrated i (inr (inr (inl is))) at = absurd (let t = ap (λ (k : Index). k.table) is in omega (arith, t, at))
issuers_key_only Migrated i (inr (inr (inr (inl is)))) at = absurd (let t = ap (λ (k : Index). k.table) is in omega (arith, t, at))
issuers_key_only Migrated i (inr (inr (inr (inr none)))) at = absurd none

pub ocsp_key_only : (origin : Origin) (i : Index) → Has (store_schema origin).indexes i → i.table ≡ 3 → i ≡ ocsp_key
ocsp_key_only Made i (inl is) at = absurd (let t = ap (λ (k : Index). k.table) is in omega (arith, t, at))
ocsp_key_only Made i (inr (inl is)) at = is
ocsp_key_only Made i (inr (inr (inl is))) at = absurd (let t = ap (λ (k : Index). k.table) is in omega (arith, t, at))
ocsp_key_only Made i (inr (inr (inr none))) at = absurd none
ocsp_key_only Migrated i (inl is) at = absurd (let t = ap (λ (k : Index). k.table) is in omega (arith, t, at))
ocsp_key_only Migrated i (inr (inl is)) at = is
ocsp_key_only Migrated i (inr (inr (inl is))) at = absurd (let t = ap (λ (k : Index). k.table) is in omega (arith, t, at))
ocsp_key_only Migrated i (inr (inr (inr (inl is)))) at = absurd (let t = ap (λ (k : Index). k.table) is in omega (arith, t, at))
ocsp_key_only Migrated i (inr (inr (inr (inr none)))) at = absurd none

pub crls_key_only : (origin : Origin) (i : Index) → Has (store_schema origin).indexes i → i.table ≡ crls_tree origin → i ≡ scoped_crls_key (crls_tree origin)
crls_key_only Made i (inl is) at = absurd (let t = ap (λ (k : Index). k.table) is in omega (arith, t, at))
crls_key_only Made i (inr (inl is)) at = absurd (let t = ap (λ (k : Index). k.table) is in omega (arith, t, at))
crls_key_only Made i (inr (inr (inl is))) at = is
crls_key_only Made i (inr (inr (inr none))) at = absurd none
crls_key_only Migrated i (inl is) at = absurd (let t = ap (λ (k : Index). k.table) is in omega (arith, t, at))
crls_key_only Migrated i (inr (inl is)) at = absurd (let t = ap (λ (k : Index). k.table) is in omega (arith, t, at))
crls_key_only Migrated i (inr (inr (inl is))) at = absurd (let t = ap (λ (k : Index). k.table) is in omega (arith, t, at))
crls_key_only Migrated i (inr (inr (inr (inl is)))) at = is
crls_key_only Migrated i (inr (inr (inr (inr none)))) at = absurd none

pub no_entries_key : (origin : Origin) (i : Index) → Has (store_schema origin).indexes i → ¬ (i.table ≡ entries_tree origin)
no_entries_key Made i (inl is) at = absurd (let t = ap (λ (k : Index). k.table) is in omega (arith, t, at))
no_entries_key Made i (inr (inl is)) at = absurd (let t = ap (λ (k : Index). k.table) is in omega (arith, t, at))
no_entries_key Made i (inr (inr (inl is))) at = absurd (let t = ap (λ (k : Index). k.table) is in omega (arith, t, at))
no_entries_key Made i (inr (inr (inr none))) at = absurd none
no_entries_key Migrated i (inl is) at = absurd (let t = ap (λ (k : Index). k.table) is in omega (arith, t, at))
no_entries_key Migrated i (inr (inl is)) at = absurd (let t = ap (λ (k : Index). k.table) is in omega (arith, t, at))
no_entries_key Migrated i (inr (inr (inl is))) at = absurd (let t = ap (λ (k : Index). k.table) is in omega (arith, t, at))
no_entries_key Migrated i (inr (inr (inr (inl is)))) at = absurd (let t = ap (λ (k : Index). k.table) is in omega (arith, t, at))
no_entries_key Migrated i (inr (inr (inr (inr none)))) at = absurd none

pub no_references : (origin : Origin) → AllByRecursion (λ (t : Table). t.references ≡ []) (store_schema origin).tables
no_references Made = (refl, (refl, (refl, (refl, (refl, tt)))))
no_references Migrated = (refl, (refl, (refl, (refl, (refl, (refl, (refl, tt)))))))

-- ---- how long rows are

pub issuer_small : (origin : Origin) (n : ℤ) (name key_info : List ℕ) → FitRow (length name + length key_info) → ¬ IsOversized (store_schema origin) (issuers_table 1) (Int n ∷ Null ∷ Blob name ∷ Blob key_info ∷ [])
issuer_small origin n name key_info short (inl big) =
    big (storable (Int n ∷ Null ∷ Blob name ∷ Blob key_info ∷ []) (int_is_number n, (zero_is_number, (zero_is_number, (zero_is_number, tt)))) (omega arith) (omega arith) (omega (arith, short)), omega arith)
issuer_small origin n name key_info short (inr keyed) =
    keyed.3 (subst (λ (i : Index). IsStorable (index_reals (table_reals (issuers_table 1)) i.columns) (entry_of i.columns (Int n ∷ Null ∷ Blob name ∷ Blob key_info ∷ []))) (sym (issuers_key_only origin keyed.0 keyed.1 keyed.2))
    (storable (Blob name ∷ Blob key_info ∷ Int n ∷ []) (zero_is_number, (zero_is_number, (int_is_number n, tt))) (omega arith) (omega arith) (omega (arith, short))))

pub crl_small : (origin : Origin) (row : CrlRow) → ¬ IsOversized (store_schema origin) (scoped_crls_table (crls_tree origin)) (crl_row row)
crl_small origin row (inl big) =
    big (
      storable (crl_row row) (int_is_number row.id, (int_is_number (pos row.issuer), (int_is_number (pos (scope_number row.scope)), (zero_is_number, (int_is_number row.window.from, (int_is_number row.window.until, tt))))))
          (omega arith) (omega arith) (omega (arith, length_octets 20 row.number)),
      omega arith,
    )
crl_small origin row (inr keyed) =
    keyed.3 (subst (λ (i : Index). IsStorable (index_reals (table_reals (scoped_crls_table (crls_tree origin))) i.columns) (entry_of i.columns (crl_row row))) (sym (crls_key_only origin keyed.0 keyed.1 keyed.2))
    (storable (Int (pos row.issuer) ∷ Int (pos (scope_number row.scope)) ∷ Int row.id ∷ []) (int_is_number (pos row.issuer), (int_is_number (pos (scope_number row.scope)), (int_is_number row.id, tt))) (omega arith) (omega arith) (omega arith)))

pub entry_small : (origin : Origin) (row : EntryRow) → FitRow (length row.listed.serial) → ¬ IsOversized (store_schema origin) (scoped_entries_table (entries_tree origin)) (entry_row row)
entry_small origin row short (inl big) =
    big (
      storable (entry_row row) (int_is_number (pos row.place), (zero_is_number, (int_is_number (pos row.issuer), (int_is_number (pos row.scope), (zero_is_number, (int_is_number (pos row.listed.reason), tt))))))
          (omega arith) (omega arith) (omega (arith, short)),
      omega arith,
    )
entry_small origin row short (inr keyed) = absurd (no_entries_key origin keyed.0 keyed.1 keyed.2)

pub single_small : (origin : Origin) (row : SingleRow) → FitRow (length row.name_hash + length row.serial) → ¬ IsOversized (store_schema origin) (ocsp_table 3) (single_row row)
single_small origin row short (inl big) =
    big (
      storable (single_row row) (int_is_number row.id, (int_is_number (pos row.issuer), (zero_is_number, (zero_is_number, (int_is_number row.fact.times.this_update, (int_is_number row.fact.times.produced_at, (int_is_number row.fact.window.from, (int_is_number row.fact.window.until, (int_is_number (pos (status_number row.fact.status)), (int_is_number (pos (reason_number row.fact.status)), tt))))))))))
          (omega arith) (omega arith) (omega (arith, short)),
      omega arith,
    )
single_small origin row short (inr keyed) =
    keyed.3 (subst (λ (i : Index). IsStorable (index_reals (table_reals (ocsp_table 3)) i.columns) (entry_of i.columns (single_row row))) (sym (ocsp_key_only origin keyed.0 keyed.1 keyed.2))
    (storable (Int (pos row.issuer) ∷ Blob row.name_hash ∷ Blob row.serial ∷ Int row.id ∷ []) (int_is_number (pos row.issuer), (zero_is_number, (zero_is_number, (int_is_number row.id, tt)))) (omega arith) (omega arith) (omega (arith, short))))

-- ---- new keys

has_map : {X Y : Type 0} (f : X → Y) (xs : List X) (y : Y) → Has (map f xs) y → (x : X) × Has xs x × (y ≡ f x)
has_map f [] y h = absurd h
has_map f (x ∷ xs) y (inl same) = (x, inl refl, same)
has_map f (x ∷ xs) y (inr later) = let found = has_map f xs y later in (found.0, inr found.1, found.2)

module _ {X : Type 0} (o : _) (places : List ℕ) (row : X → Row) (xs : List X) (new : X) (p : X → Bool) (none : (x : X) → Has xs x → p x ≡ false)
    (one : (x : X) → agree o places (row x) places (row new) ≡ true → p x ≡ true) (other : (x : X) → agree o places (row new) places (row x) ≡ true → p x ≡ true) where
  new_key : IsNewKey o places (map row xs) (row new)
  new_key = record {
    one = λ r there. let x = has_map row xs r there in ap (λ y. agree o places y places (row new)) x.2 ∙ false_from_ne_true _ (λ same. true≢false (sym (one x.0 same) ∙ none x.0 x.1));
    other = λ r there. let x = has_map row xs r there in ap (λ y. agree o places (row new) places y) x.2 ∙ false_from_ne_true _ (λ same. true≢false (sym (other x.0 same) ∙ none x.0 x.1));
  }

both_true : (a b : Bool) → a ≡ true → b ≡ true → (a && b) ≡ true
both_true true b e f = f
both_true false b e f = e

swapped : (a b : ℕ) → (a == b) ≡ true → (b == a) ≡ true
swapped a b e = is_eq_of b a (sym (eq_of a b e))

swapped_octets : (a b : List ℕ) → bytes_eq a b ≡ true → bytes_eq b a ≡ true
swapped_octets a b e = octets_same b a (sym (octets_of a b e))

two_of : (a b : Bool) → (a && (b && true)) ≡ true → (a && b) ≡ true
two_of true true e = refl
two_of true false e = e
two_of false b e = e

three_of : (a b c : Bool) → (a && (b && (c && true))) ≡ true → (a && (b && c)) ≡ true
three_of true true true e = refl
three_of true true false e = e
three_of true false c e = e
three_of false b c e = e

turned : (a b c d : Bool) → (a ≡ true → c ≡ true) → (b ≡ true → d ≡ true) → (a && b) ≡ true → (c && d) ≡ true
turned a b c d one other e = let parts = and_parts a b e in both_true c d (one parts.0) (other parts.1)

pub new_issuer_key : (origin : Origin) (xs : List IssuerRow) (new : IssuerRow) → ((x : IssuerRow) → Has xs x → is_issuer new.identity x ≡ false)
    → (i : Index) → Has (store_schema origin).indexes i → i.table ≡ 1 → IsNewKey i.order i.columns (map issuer_row xs) (issuer_row new)
new_issuer_key origin xs new none i listed at =
    subst (λ (i : Index). IsNewKey i.order i.columns (map issuer_row xs) (issuer_row new)) (sym (issuers_key_only origin i listed at))
    (new_key issuers_key.order issuers_key.columns issuer_row xs new (is_issuer new.identity) none
    (λ x same. two_of (bytes_eq x.identity.name new.identity.name) (bytes_eq x.identity.key_info new.identity.key_info) (sym (issuers_agree x new) ∙ same))
    (λ x same. turned (bytes_eq new.identity.name x.identity.name) (bytes_eq new.identity.key_info x.identity.key_info) (bytes_eq x.identity.name new.identity.name) (bytes_eq x.identity.key_info new.identity.key_info)
    (swapped_octets new.identity.name x.identity.name) (swapped_octets new.identity.key_info x.identity.key_info)
    (two_of (bytes_eq new.identity.name x.identity.name) (bytes_eq new.identity.key_info x.identity.key_info) (sym (issuers_agree new x) ∙ same))))

pub new_crl_key : (origin : Origin) (xs : List CrlRow) (new : CrlRow) → ((x : CrlRow) → Has xs x → is_crl_of new.issuer new.scope x ≡ false)
    → (i : Index) → Has (store_schema origin).indexes i → i.table ≡ crls_tree origin → IsNewKey i.order i.columns (map crl_row xs) (crl_row new)
new_crl_key origin xs new none i listed at =
    subst (λ (i : Index). IsNewKey i.order i.columns (map crl_row xs) (crl_row new)) (sym (crls_key_only origin i listed at))
    (new_key (scoped_crls_key (crls_tree origin)).order (scoped_crls_key (crls_tree origin)).columns crl_row xs new (is_crl_of new.issuer new.scope) none
    (λ x same. two_of (x.issuer == new.issuer) (scope_number x.scope == scope_number new.scope) (sym (crls_agree x new) ∙ same))
    (λ x same. turned (new.issuer == x.issuer) (scope_number new.scope == scope_number x.scope) (x.issuer == new.issuer) (scope_number x.scope == scope_number new.scope)
    (swapped new.issuer x.issuer) (swapped (scope_number new.scope) (scope_number x.scope))
    (two_of (new.issuer == x.issuer) (scope_number new.scope == scope_number x.scope) (sym (crls_agree new x) ∙ same))))

pub new_single_key : (origin : Origin) (xs : List SingleRow) (new : SingleRow) → ((x : SingleRow) → Has xs x → is_single_of new.issuer new.name_hash new.serial x ≡ false)
    → (i : Index) → Has (store_schema origin).indexes i → i.table ≡ 3 → IsNewKey i.order i.columns (map single_row xs) (single_row new)
new_single_key origin xs new none i listed at =
    subst (λ (i : Index). IsNewKey i.order i.columns (map single_row xs) (single_row new)) (sym (ocsp_key_only origin i listed at))
    (new_key ocsp_key.order ocsp_key.columns single_row xs new (is_single_of new.issuer new.name_hash new.serial) none
    (λ x same. three_of (x.issuer == new.issuer) (bytes_eq x.name_hash new.name_hash) (bytes_eq x.serial new.serial) (sym (singles_agree x new) ∙ same))
    (λ x same. turned (new.issuer == x.issuer) (bytes_eq new.name_hash x.name_hash && bytes_eq new.serial x.serial) (x.issuer == new.issuer) (bytes_eq x.name_hash new.name_hash && bytes_eq x.serial new.serial)
    (swapped new.issuer x.issuer)
    (turned (bytes_eq new.name_hash x.name_hash) (bytes_eq new.serial x.serial) (bytes_eq x.name_hash new.name_hash) (bytes_eq x.serial new.serial) (swapped_octets new.name_hash x.name_hash) (swapped_octets new.serial x.serial))
    (three_of (new.issuer == x.issuer) (bytes_eq new.name_hash x.name_hash) (bytes_eq new.serial x.serial) (sym (singles_agree new x) ∙ same))))

-- ---- rows that are not there

pub not_kept : {X : Type 0} (p : X → Bool) (xs : List X) (x : X) → Has (filter (λ y. not (p y)) xs) x → p x ≡ false
not_kept p [] x h = absurd h
not_kept p (y ∷ xs) x h = elim (cases_Bool (p y)) [
  | inl gone ↦ not_kept p xs x (rw gone at h)
  | inr stays ↦ elim (rw stays at h) [ inl same ↦ ap p same ∙ stays | inr later ↦ not_kept p xs x later ]
]

find_none : {X : Type 0} (p : X → Bool) (xs : List X) → find p xs ≡ None → (x : X) → Has xs x → p x ≡ false
find_none p [] e x h = absurd h
find_none p (y ∷ xs) e x h = elim (cases_Bool (p y)) [
  | inl here ↦ absurd (let no = rw here at e in cc)
  | inr gone ↦ elim h [ inl same ↦ ap p same ∙ gone | inr later ↦ find_none p xs (rw gone at e) x later ]
]

pub no_issuer : (rows : List IssuerRow) (identity : IssuerIdentity) → id_of rows identity ≡ None → (x : IssuerRow) → Has rows x → is_issuer identity x ≡ false
no_issuer rows identity none = find_none (is_issuer identity) rows (unfound (find (is_issuer identity) rows) none)
  where
    unfound : (o : Option IssuerRow) → option_map (λ (row : IssuerRow). row.id) o ≡ None → o ≡ None
    unfound None e = refl
    unfound (Some row) e = cc

-- What each statement shows of the rows, and what it makes of them.
use Rattle.std.proofs.Common.{◌≡◌, ◌⊎◌, ℕ, ℤ, pos, ◌+ℤ◌, ◌+◌, ◌<◌, ◌<ℤ◌, List, [], ◌∷◌, ◌++◌, map, filter, find, fold, Bool, true, false, not, ◌&&◌, ◌==◌, Some, None, Option, option_map, Ok, slice_get, refl, sym, ap, ap₂, subst, ◌∙◌, inl, inr, arith}
use Rattle.std.proofs.lemmas.List.{map-append}
use Rattle.std.proofs.lemmas.List.Sorted.{length_permutation}
use Rattle.std.proofs.lemmas.Slice.Eq.{bytes_eq-Decides}
use Rattle.std.specs.List.{AllByRecursion}
use Rattle.std.specs.List.Sorted.{IsPermutation}
use Rattle.std.specs.Str.{bytes_eq}
use Rattle.sqlite_value.specs.Keys.{plain, first_key}
use Rattle.sqlite_schema.specs.Rules.{agree}
use Rattle.sqlite_schema.specs.declared.schema.Keys.{Keys}
use Rattle.sqlite_rules.specs.Action.{works}
use Rattle.sqlite.specs.declared.types.Value.TheVariants.{Null, Int, Blob}
use Rattle.sqlite.specs.Order.{Row}
use Rattle.sqlite.specs.Edit.{next_rowid, id_in}
use Rattle.sqlite.specs.Effect.{Database, IsDatabase}
use Rattle.sqlite.specs.State.{State, Executes, Shown}
use Rattle.sqlite.proofs.Callers.{one_permutation}
use Rattle.sqlite_trees.specs.Tree.{rowid}
use Rattle.statements_facts.specs.declared.scope.Scope.{Scope}
use Rattle.statements_facts.specs.Statement.{IssuerIdentity, Window, OcspFact}
use Rattle.store_sql.specs.declared.origin.Origin.{Origin}
use Rattle.store_sql.specs.declared.origin.Origin.TheVariants.{Made, Migrated}
use Rattle.store_sql.specs.Tables.{store_schema, issuers_table, ocsp_table, scoped_crls_table, crls_position, crls_tree, issuers_key, ocsp_key, scoped_crls_key}
use Rattle.store_sql.specs.Texts.{select_issuer, insert_issuer, select_crl, delete_crl, insert_crl, select_single, delete_single, insert_single}
use Rattle.store_sql.specs.Queries.{is_param}
use Rattle.store_sql.proofs.Laws.{deletes_by, inserts_one, finds_by, at_most, one_row, one_passes, equal_blobs, equal_ints, below_next, rises_kept, rises_pushed, selects_issuer, inserts_issuer, selects_crl, deletes_crl, inserts_crl, selects_single, deletes_single, inserts_single}
use Rattle.store_rows.specs.Contents.{IssuerRow, CrlRow, SingleRow, Contents, issuer_row, crl_row, single_row, crl_cells, said_cells, status_number, reason_number, scope_number, is_issuer, is_crl_of, is_single_of, shown}
use Rattle.store_rows.specs.Holding.{HasContents, next_id, with_issuer, crls_and, singles_and}
use Rattle.store_rows.proofs.Naturals.{same_pos, is_eq_of, eq_of, rise_pos, rise_nat}
use Rattle.store_rows.proofs.Others.{issuers_change, crls_change, singles_change}
use Rattle.store_rows.proofs.Terms.{passes_issuer, passes_crl, passes_single, cast_null, cast_int}

-- ---- where the tables stand

pub issuers_stand : (origin : Origin) → slice_get (store_schema origin).tables 1 ≡ Some (issuers_table 1)
issuers_stand Made = refl
issuers_stand Migrated = refl

pub singles_stand : (origin : Origin) → slice_get (store_schema origin).tables 2 ≡ Some (ocsp_table 3)
singles_stand Made = refl
singles_stand Migrated = refl

pub crls_stand : (origin : Origin) → slice_get (store_schema origin).tables (crls_position origin) ≡ Some (scoped_crls_table (crls_tree origin))
crls_stand Made = refl
crls_stand Migrated = refl

pub issuers_alone : (origin : Origin) (keys : Keys) (gone news : List Row) → works (store_schema origin) keys 0 1 gone news ≡ []
issuers_alone Made keys gone news = refl
issuers_alone Migrated keys gone news = refl

pub singles_alone : (origin : Origin) (keys : Keys) (gone news : List Row) → works (store_schema origin) keys 0 3 gone news ≡ []
singles_alone Made keys gone news = refl
singles_alone Migrated keys gone news = refl

pub crls_alone : (origin : Origin) (keys : Keys) (gone news : List Row) → works (store_schema origin) keys 0 (crls_tree origin) gone news ≡ []
crls_alone Made keys gone news = refl
crls_alone Migrated keys gone news = refl

-- ---- where their keys stand

issuers_key_stands : (origin : Origin) → slice_get (store_schema origin).indexes 0 ≡ Some issuers_key
issuers_key_stands Made = refl
issuers_key_stands Migrated = refl

ocsp_key_stands : (origin : Origin) → slice_get (store_schema origin).indexes 1 ≡ Some ocsp_key
ocsp_key_stands Made = refl
ocsp_key_stands Migrated = refl

abbrev crls_key_at : Origin → ℕ
crls_key_at Made = 2
crls_key_at Migrated = 3

crls_key_stands : (origin : Origin) → slice_get (store_schema origin).indexes (crls_key_at origin) ≡ Some (scoped_crls_key (crls_tree origin))
crls_key_stands Made = refl
crls_key_stands Migrated = refl

-- ---- no key comes twice

both : (a b : Bool) → (a && b) ≡ true → (a && (b && true)) ≡ true
both true true e = refl
both true false e = e
both false b e = e

three : (a b c : Bool) → (a && (b && c)) ≡ true → (a && (b && (c && true))) ≡ true
three true true true e = refl
three true true false e = e
three true false c e = e
three false b c e = e

pub issuers_agree : (one other : IssuerRow) → agree plain (2 ∷ 3 ∷ []) (issuer_row one) (2 ∷ 3 ∷ []) (issuer_row other) ≡ (bytes_eq one.identity.name other.identity.name && (bytes_eq one.identity.key_info other.identity.key_info && true))
unfolding first_key
issuers_agree one other = rw (equal_blobs one.identity.name other.identity.name, equal_blobs one.identity.key_info other.identity.key_info) refl

pub crls_agree : (one other : CrlRow) → agree plain (1 ∷ 2 ∷ []) (crl_row one) (1 ∷ 2 ∷ []) (crl_row other) ≡ ((one.issuer == other.issuer) && ((scope_number one.scope == scope_number other.scope) && true))
unfolding first_key
crls_agree one other = rw (equal_ints (pos one.issuer) (pos other.issuer), equal_ints (pos (scope_number one.scope)) (pos (scope_number other.scope)), same_pos one.issuer other.issuer, same_pos (scope_number one.scope) (scope_number other.scope)) refl

pub singles_agree : (one other : SingleRow) → agree plain (1 ∷ 2 ∷ 3 ∷ []) (single_row one) (1 ∷ 2 ∷ 3 ∷ []) (single_row other)
    ≡ ((one.issuer == other.issuer) && (bytes_eq one.name_hash other.name_hash && (bytes_eq one.serial other.serial && true)))
unfolding first_key
singles_agree one other = rw (equal_ints (pos one.issuer) (pos other.issuer), equal_blobs one.name_hash other.name_hash, equal_blobs one.serial other.serial, same_pos one.issuer other.issuer) refl

pub and_parts : (a b : Bool) → (a && b) ≡ true → (a ≡ true) × (b ≡ true)
and_parts true b e = (refl, e)
and_parts false b e = absurd (Rattle.std.proofs.Common.true≢false (sym e))

pub octets_of : (a b : List ℕ) → bytes_eq a b ≡ true → a ≡ b
octets_of a b = (bytes_eq-Decides a b).0

pub octets_same : (a b : List ℕ) → a ≡ b → bytes_eq a b ≡ true
octets_same a b = (bytes_eq-Decides a b).1

-- two texts that equal a third
tied : (a b c : List ℕ) → bytes_eq a c ≡ true → bytes_eq b c ≡ true → bytes_eq a b ≡ true
tied a b c x y = octets_same a b (octets_of a c x ∙ sym (octets_of b c y))

tied_numbers : (a b c : ℕ) → (a == c) ≡ true → (b == c) ≡ true → (a == b) ≡ true
tied_numbers a b c x y = is_eq_of a b (eq_of a c x ∙ sym (eq_of b c y))

module _ (origin : Origin) (db : Database) (it : Contents) (held : HasContents db origin it) where
  sound : IsDatabase (record { schema = store_schema origin; trees = db.trees })
  sound = subst (λ s. IsDatabase (record { schema = s; trees = db.trees })) held.schema_is held.sound

  pub one_issuer : (identity : IssuerIdentity) → filter (is_issuer identity) it.issuers ≡ at_most (find (is_issuer identity) it.issuers)
  one_issuer identity = one_passes issuer_row (λ x. pos x.id) (λ x. refl) (is_issuer identity) it.issuers (rise_pos (λ (x : IssuerRow). x.id) it.issuers held.issuers_rise) (λ x y hx hy px py.
      let a = and_parts _ _ px in let b = and_parts _ _ py in
      one_row issuer_row (λ x. pos x.id) (λ x. refl) (store_schema origin) 1 (issuers_table 1) (issuers_stand origin) 0 issuers_key (issuers_key_stands origin) refl db.trees it.issuers sound held.issuers x y hx hy
      (issuers_agree x y ∙ both _ _ (ap₂ (λ p q. p && q) (tied _ _ identity.name a.0 b.0) (tied _ _ identity.key_info a.1 b.1))))

  pub one_crl : (issuer : ℕ) (scope : Scope) → filter (is_crl_of issuer scope) it.crls ≡ at_most (find (is_crl_of issuer scope) it.crls)
  one_crl issuer scope = one_passes crl_row (λ x. x.id) (λ x. refl) (is_crl_of issuer scope) it.crls held.crls_rise (λ x y hx hy px py.
      let a = and_parts _ _ px in let b = and_parts _ _ py in
      one_row crl_row (λ x. x.id) (λ x. refl) (store_schema origin) (crls_position origin) (scoped_crls_table (crls_tree origin)) (crls_stand origin) (crls_key_at origin) (scoped_crls_key (crls_tree origin)) (crls_key_stands origin) (is_eq_of (crls_tree origin) (crls_tree origin) refl)
      db.trees it.crls sound held.crls x y hx hy
      (crls_agree x y ∙ both _ _ (ap₂ (λ p q. p && q) (tied_numbers x.issuer y.issuer issuer a.0 b.0) (tied_numbers _ _ (scope_number scope) a.1 b.1))))

  pub one_single : (issuer : ℕ) (name_hash serial : List ℕ) → filter (is_single_of issuer name_hash serial) it.singles ≡ at_most (find (is_single_of issuer name_hash serial) it.singles)
  one_single issuer name_hash serial = one_passes single_row (λ x. x.id) (λ x. refl) (is_single_of issuer name_hash serial) it.singles held.singles_rise (λ x y hx hy px py.
      let a = and_parts _ _ px in let b = and_parts _ _ py in
      let a2 = and_parts _ _ a.1 in let b2 = and_parts _ _ b.1 in
      one_row single_row (λ x. x.id) (λ x. refl) (store_schema origin) 2 (ocsp_table 3) (singles_stand origin) 1 ocsp_key (ocsp_key_stands origin) refl db.trees it.singles sound held.singles x y hx hy
      (singles_agree x y ∙ three (x.issuer == y.issuer) (bytes_eq x.name_hash y.name_hash) (bytes_eq x.serial y.serial) (ap₂ (λ p q. p && q) (tied_numbers x.issuer y.issuer issuer a.0 b.0) (ap₂ (λ p q. p && q) (tied _ _ name_hash a2.0 b2.0) (tied _ _ serial a2.1 b2.1)))))

-- ---- what is shown

no_more : (rows : List Row) → IsPermutation [] rows → rows ≡ []
no_more [] h = refl
no_more (row ∷ rows) h = absurd (let e = length_permutation [] (row ∷ rows) h in omega (arith, e))

shows_most : {X : Type 0} (show : X → Row) (found : Option X) (rows : List Row) → IsPermutation (map show (at_most found)) rows → rows ≡ shown show found
shows_most show None rows h = no_more rows h
shows_most show (Some x) rows h = one_permutation (show x) rows h

pub shows_one : {X : Type 0} (show : X → Row) (all : List X) (found : Option X) (rows : List Row) → all ≡ at_most found → IsPermutation (map show all) rows → rows ≡ shown show found
shows_one show all found rows is h = shows_most show found rows (subst (λ xs. IsPermutation (map show xs) rows) is h)

module _ (origin : Origin) (old new : State) (it : Contents) (held : HasContents old.now origin it) where
  pub issuer_shown : (identity : IssuerIdentity) (rows : List Row) → Shown select_issuer (Blob identity.name ∷ Blob identity.key_info ∷ []) old new rows
      → rows ≡ shown (λ (row : IssuerRow). Int (pos row.id) ∷ []) (find (is_issuer identity) it.issuers)
  issuer_shown identity rows h =
      let text = selects_issuer origin in
      shows_one (λ (row : IssuerRow). Int (pos row.id) ∷ []) (filter (is_issuer identity) it.issuers) (find (is_issuer identity) it.issuers) rows (one_issuer origin old.now it held identity)
      (finds_by (store_schema origin) 1 _ 1 _ _ _ _ _ (issuers_stand origin) (issuers_alone origin) issuer_row (λ x. pos x.id) (λ x. refl)
      select_issuer (Blob identity.name ∷ Blob identity.key_info ∷ []) _ _ _ (is_issuer identity) (λ x. Int (pos x.id) ∷ []) text.0 text.1 text.2 (passes_issuer identity) (λ x. refl)
      old new it.issuers rows held.schema_is held.issuers h)

  pub crl_shown : (issuer : ℕ) (scope : Scope) (rows : List Row) → Shown select_crl (Int (pos issuer) ∷ Int (pos (scope_number scope)) ∷ []) old new rows
      → rows ≡ shown (λ (row : CrlRow). crl_cells row.number row.window) (find (is_crl_of issuer scope) it.crls)
  crl_shown issuer scope rows h =
      let text = selects_crl origin in
      shows_one (λ (row : CrlRow). crl_cells row.number row.window) (filter (is_crl_of issuer scope) it.crls) (find (is_crl_of issuer scope) it.crls) rows (one_crl origin old.now it held issuer scope)
      (finds_by (store_schema origin) (crls_position origin) _ (crls_tree origin) _ _ _ _ _ (crls_stand origin) (crls_alone origin) crl_row (λ x. x.id) (λ x. refl)
      select_crl (Int (pos issuer) ∷ Int (pos (scope_number scope)) ∷ []) _ _ _ (is_crl_of issuer scope) (λ x. crl_cells x.number x.window) text.0 text.1 text.2 (passes_crl issuer scope) (λ x. refl)
      old new it.crls rows held.schema_is held.crls h)

  pub single_shown : (issuer : ℕ) (name_hash serial : List ℕ) (rows : List Row) → Shown select_single (Int (pos issuer) ∷ Blob name_hash ∷ Blob serial ∷ []) old new rows
      → rows ≡ shown (λ (row : SingleRow). said_cells row.fact) (find (is_single_of issuer name_hash serial) it.singles)
  single_shown issuer name_hash serial rows h =
      let text = selects_single origin in
      shows_one (λ (row : SingleRow). said_cells row.fact) (filter (is_single_of issuer name_hash serial) it.singles) (find (is_single_of issuer name_hash serial) it.singles) rows (one_single origin old.now it held issuer name_hash serial)
      (finds_by (store_schema origin) 2 _ 3 _ _ _ _ _ (singles_stand origin) (singles_alone origin) single_row (λ x. x.id) (λ x. refl)
      select_single (Int (pos issuer) ∷ Blob name_hash ∷ Blob serial ∷ []) _ _ _ (is_single_of issuer name_hash serial) (λ x. said_cells x.fact) text.0 text.1 text.2 (passes_single issuer name_hash serial) (λ x. refl)
      old new it.singles rows held.schema_is held.singles h)

  -- ---- what is changed

  pub next_is : (n : ℕ) (rows : List IssuerRow) → fold (λ _ (r : Row). id_in (rowid r) +ℤ pos 1) (pos n) (map issuer_row rows) ≡ pos (fold (λ _ (row : IssuerRow). row.id + 1) n rows)
  next_is n [] = refl
  next_is n (row ∷ rows) = next_is (row.id + 1) rows

  pub issuer_added : (identity : IssuerIdentity) (count : ℕ) → Executes insert_issuer (Blob identity.name ∷ Blob identity.key_info ∷ []) old new (Ok count) → HasContents new.now origin (with_issuer identity it)
  issuer_added identity count h =
      let added : IssuerRow = record { id = next_id it.issuers; identity = identity } in
      let text = inserts_issuer origin in
      let rise = rise_pos (λ (x : IssuerRow). x.id) it.issuers held.issuers_rise in
      let next : next_rowid (map issuer_row it.issuers) ≡ pos (next_id it.issuers) = next_is 1 it.issuers in
      let left = inserts_one (store_schema origin) 1 _ 1 _ _ _ _ _ (issuers_stand origin) (issuers_alone origin) issuer_row (λ x. pos x.id) (λ x. refl)
      insert_issuer (Blob identity.name ∷ Blob identity.key_info ∷ []) _ 4 (Null ∷ Blob identity.name ∷ Blob identity.key_info ∷ []) text.0 text.1
      (rw cast_null refl) old new it.issuers count held.schema_is held.issuers rise h in
      let below = subst (λ n. AllByRecursion (λ (x : IssuerRow). pos x.id <ℤ n) it.issuers) next (below_next issuer_row (λ x. pos x.id) (λ x. refl) it.issuers rise) in
      issuers_change origin old new it held (it.issuers ++ added ∷ [])
      (rise_nat (λ (x : IssuerRow). x.id) (it.issuers ++ added ∷ []) (rises_pushed issuer_row (λ x. pos x.id) (λ x. refl) it.issuers added rise below))
      (record { schema_is = left.schema_is; sound = left.sound; rows_are = left.rows_are ∙ ap (λ n. map issuer_row it.issuers ++ (Int n ∷ Null ∷ Blob identity.name ∷ Blob identity.key_info ∷ []) ∷ []) next ∙ sym (map-append issuer_row it.issuers (added ∷ [])); others = left.others })

  pub crl_deleted : (issuer : ℕ) (scope : Scope) (count : ℕ) → Executes delete_crl (Int (pos issuer) ∷ Int (pos (scope_number scope)) ∷ []) old new (Ok count)
      → HasContents new.now origin (record it { crls = filter (λ row. not (is_crl_of issuer scope row)) it.crls })
  crl_deleted issuer scope count h =
      let text = deletes_crl origin in
      let left = deletes_by (store_schema origin) (crls_position origin) _ (crls_tree origin) _ _ _ _ _ (crls_stand origin) (crls_alone origin) crl_row (λ x. x.id) (λ x. refl)
      delete_crl (Int (pos issuer) ∷ Int (pos (scope_number scope)) ∷ []) (is_param 1 0 ∷ is_param 2 1 ∷ []) (is_crl_of issuer scope) text.0 text.1 (passes_crl issuer scope) (λ x. refl)
      old new it.crls count held.schema_is held.crls held.crls_rise h in
      crls_change origin old new it held (filter (λ row. not (is_crl_of issuer scope row)) it.crls) (rises_kept crl_row (λ x. x.id) (λ x. refl) (λ row. not (is_crl_of issuer scope row)) it.crls held.crls_rise) left

  pub crl_added : (issuer : ℕ) (scope : Scope) (number : ℕ) (window : Window) (count : ℕ) → Executes insert_crl (Int (pos issuer) ∷ Int (pos (scope_number scope)) ∷ crl_cells number window) old new (Ok count)
      → HasContents new.now origin (record it { crls = crls_and issuer scope number window it.crls })
  crl_added issuer scope number window count h =
      let added : CrlRow = record { id = next_rowid (map crl_row it.crls); issuer = issuer; scope = scope; number = number; window = window } in
      let text = inserts_crl origin in
      let left = inserts_one (store_schema origin) (crls_position origin) _ (crls_tree origin) _ _ _ _ _ (crls_stand origin) (crls_alone origin) crl_row (λ x. x.id) (λ x. refl)
      insert_crl (Int (pos issuer) ∷ Int (pos (scope_number scope)) ∷ crl_cells number window) _ 6 (Int (pos issuer) ∷ Int (pos (scope_number scope)) ∷ crl_cells number window) text.0 text.1
      (rw (cast_null, cast_int (pos issuer), cast_int (pos (scope_number scope)), cast_int window.from, cast_int window.until) refl) old new it.crls count held.schema_is held.crls held.crls_rise h in
      crls_change origin old new it held (it.crls ++ added ∷ []) (rises_pushed crl_row (λ x. x.id) (λ x. refl) it.crls added held.crls_rise (below_next crl_row (λ x. x.id) (λ x. refl) it.crls held.crls_rise))
      (record { schema_is = left.schema_is; sound = left.sound; rows_are = left.rows_are ∙ sym (map-append crl_row it.crls (added ∷ [])); others = left.others })

  pub single_deleted : (issuer : ℕ) (name_hash serial : List ℕ) (count : ℕ) → Executes delete_single (Int (pos issuer) ∷ Blob name_hash ∷ Blob serial ∷ []) old new (Ok count)
      → HasContents new.now origin (record it { singles = filter (λ row. not (is_single_of issuer name_hash serial row)) it.singles })
  single_deleted issuer name_hash serial count h =
      let text = deletes_single origin in
      let left = deletes_by (store_schema origin) 2 _ 3 _ _ _ _ _ (singles_stand origin) (singles_alone origin) single_row (λ x. x.id) (λ x. refl)
      delete_single (Int (pos issuer) ∷ Blob name_hash ∷ Blob serial ∷ []) (is_param 1 0 ∷ is_param 2 1 ∷ is_param 3 2 ∷ []) (is_single_of issuer name_hash serial) text.0 text.1 (passes_single issuer name_hash serial) (λ x. refl)
      old new it.singles count held.schema_is held.singles held.singles_rise h in
      singles_change origin old new it held (filter (λ row. not (is_single_of issuer name_hash serial row)) it.singles) (rises_kept single_row (λ x. x.id) (λ x. refl) (λ row. not (is_single_of issuer name_hash serial row)) it.singles held.singles_rise) left

  pub single_added : (issuer : ℕ) (name_hash serial : List ℕ) (fact : OcspFact) (count : ℕ) → Executes insert_single (Int (pos issuer) ∷ Blob name_hash ∷ Blob serial ∷ said_cells fact) old new (Ok count)
      → HasContents new.now origin (record it { singles = singles_and issuer name_hash serial fact it.singles })
  single_added issuer name_hash serial fact count h =
      let added : SingleRow = record { id = next_rowid (map single_row it.singles); issuer = issuer; name_hash = name_hash; serial = serial; fact = fact } in
      let text = inserts_single origin in
      let left = inserts_one (store_schema origin) 2 _ 3 _ _ _ _ _ (singles_stand origin) (singles_alone origin) single_row (λ x. x.id) (λ x. refl)
      insert_single (Int (pos issuer) ∷ Blob name_hash ∷ Blob serial ∷ said_cells fact) _ 10 (Int (pos issuer) ∷ Blob name_hash ∷ Blob serial ∷ said_cells fact) text.0 text.1
      (rw (cast_null, cast_int (pos issuer), cast_int fact.times.this_update, cast_int fact.times.produced_at, cast_int fact.window.from, cast_int fact.window.until, cast_int (pos (status_number fact.status)), cast_int (pos (reason_number fact.status))) refl)
      old new it.singles count held.schema_is held.singles held.singles_rise h in
      singles_change origin old new it held (it.singles ++ added ∷ []) (rises_pushed single_row (λ x. x.id) (λ x. refl) it.singles added held.singles_rise (below_next single_row (λ x. x.id) (λ x. refl) it.singles held.singles_rise))
      (record { schema_is = left.schema_is; sound = left.sound; rows_are = left.rows_are ∙ sym (map-append single_row it.singles (added ∷ [])); others = left.others })

-- Nothing is listed twice.
use Rattle.std.proofs.Common.{◌≡◌, ℕ, Bool, true, List, [], ◌∷◌, map, filter, find, Option, Some, None, option_map, option_and_then, Contains, Result, Ok, Err, IfOk, refl, sym, ap, subst, ◌∙◌, inl, inr}
use Rattle.std.proofs.lemmas.Slice.Eq.{bytes_eq-Decides}
use Rattle.std.specs.Str.{bytes_eq}
use Rattle.sqlite.specs.Effect.{Database}
use Rattle.sqlite.specs.State.{State}
use Rattle.sqlite_rules.specs.Lists.{Has}
use Rattle.sqlite_rules.proofs.ListLemmas.{has_kept, has_contained, contains_had}
use Rattle.store_sql.specs.declared.fault.StoreFault.{StoreFault}
use Rattle.store_sql.proofs.Laws.{at_most}
use Rattle.store_rows.specs.Contents.{IssuerRow, CrlRow, SingleRow, Contents, is_issuer, is_crl_of, is_single_of, id_of, scope_number}
use Rattle.store_rows.proofs.Laws.{one_issuer, one_crl, one_single}
use Rattle.store_maps.proofs.HeldLaws.{is_eq_of}
use Rattle.store_listing.specs.declared.held.Listing.{Listing}
use Rattle.store_listing.specs.Listing.{ListedCrl, ListedSingle, IsListing, listed_crl, listed_single, overview_of}
use Rattle.store_listing.specs.Laws.{is_list_of, is_about, crl_listed, single_listed, ShowsHeld, ShowsStore, ListsOnce, ListingListsOnce}
use Rattle.store_listing.specs.Reads.{IsStoreWith, ReadsStore}
use Rattle.store_listing.proofs.Shown.{find_mapped, shows_held}

alone : {X : Type 0} (found : Option X) (x : X) → Has (at_most found) x → found ≡ Some x
alone None x h = absurd h
alone (Some y) x (inl same) = ap (λ z. Some z) (sym same)
alone (Some y) x (inr none) = absurd none

-- what passes is what is found, where no other passes
is_found : {X : Type 0} (p : X → Bool) (xs : List X) (x : X) → filter p xs ≡ at_most (find p xs) → Contains xs x → p x ≡ true → find p xs ≡ Some x
is_found p xs x one there passes = alone (find p xs) x (subst (λ ys. Has ys x) one (has_kept p xs x (has_contained xs x there) passes))

mapped_from : {X Y : Type 0} (f : X → Y) (xs : List X) (y : Y) → Has (map f xs) y → (x : X) × Has xs x × (y ≡ f x)
mapped_from f [] y h = absurd h
mapped_from f (x ∷ xs) y (inl same) = (x, inl refl, same)
mapped_from f (x ∷ xs) y (inr later) = let more = mapped_from f xs y later in (more.0, inr more.1, more.2)

octets_same : (a : List ℕ) → bytes_eq a a ≡ true
octets_same a = (bytes_eq-Decides a a).1 refl

own_issuer : (row : IssuerRow) → is_issuer row.identity row ≡ true
own_issuer row = rw (octets_same row.identity.name, octets_same row.identity.key_info) refl

own_crl : (row : CrlRow) → is_crl_of row.issuer row.scope row ≡ true
own_crl row = rw (is_eq_of row.issuer row.issuer refl, is_eq_of (scope_number row.scope) (scope_number row.scope) refl) refl

own_single : (row : SingleRow) → is_single_of row.issuer row.name_hash row.serial row ≡ true
own_single row = rw (is_eq_of row.issuer row.issuer refl, octets_same row.name_hash, octets_same row.serial) refl

module _ (db : Database) (it : Contents) (s : IsStoreWith db it) where
  issuer_found : (row : IssuerRow) → Contains it.issuers row → id_of it.issuers row.identity ≡ Some row.id
  issuer_found row there = ap (option_map (λ (r : IssuerRow). r.id)) (is_found (is_issuer row.identity) it.issuers row (one_issuer s.origin db it s.rows row.identity) there (own_issuer row))

  list_found : (issuer : IssuerRow) (list : ListedCrl) → Contains it.issuers issuer → Contains (map (listed_crl it.entries) it.crls) list → list.issuer ≡ issuer.id
      → crl_listed (overview_of it) (record { issuer = issuer.identity; scope = list.scope }) ≡ Some list
  list_found issuer list known there under =
      let row = mapped_from (listed_crl it.entries) it.crls list (has_contained (map (listed_crl it.entries) it.crls) list there) in
      let found : find (is_crl_of row.0.issuer row.0.scope) it.crls ≡ Some row.0 =
      is_found (is_crl_of row.0.issuer row.0.scope) it.crls row.0 (one_crl s.origin db it s.rows row.0.issuer row.0.scope) (contains_had it.crls row.0 row.1) (own_crl row.0) in
      let listed : find (is_list_of row.0.issuer row.0.scope) (map (listed_crl it.entries) it.crls) ≡ Some (listed_crl it.entries row.0) =
      find_mapped (listed_crl it.entries) (is_crl_of row.0.issuer row.0.scope) (is_list_of row.0.issuer row.0.scope) (λ x. refl) it.crls ∙ ap (option_map (listed_crl it.entries)) found in
      let same : listed_crl it.entries row.0 ≡ list = sym row.2 in
      let own : find (is_list_of list.issuer list.scope) (map (listed_crl it.entries) it.crls) ≡ Some list =
      subst (λ (l : ListedCrl). find (is_list_of l.issuer l.scope) (map (listed_crl it.entries) it.crls) ≡ Some l) same listed in
      ap (option_and_then (λ id. find (is_list_of id list.scope) (map (listed_crl it.entries) it.crls))) (issuer_found issuer known)
      ∙ ap (λ id. find (is_list_of id list.scope) (map (listed_crl it.entries) it.crls)) (sym under) ∙ own

  single_found : (issuer : IssuerRow) (listed : ListedSingle) → Contains it.issuers issuer → Contains (map listed_single it.singles) listed → listed.issuer ≡ issuer.id
      → single_listed (overview_of it) (record { issuer = issuer.identity; name_hash = listed.single.name_hash; serial = listed.single.serial }) ≡ Some listed
  single_found issuer listed known there under =
      let row = mapped_from listed_single it.singles listed (has_contained (map listed_single it.singles) listed there) in
      let found : find (is_single_of row.0.issuer row.0.name_hash row.0.serial) it.singles ≡ Some row.0 =
      is_found (is_single_of row.0.issuer row.0.name_hash row.0.serial) it.singles row.0 (one_single s.origin db it s.rows row.0.issuer row.0.name_hash row.0.serial) (contains_had it.singles row.0 row.1) (own_single row.0) in
      let shown : find (is_about row.0.issuer row.0.name_hash row.0.serial) (map listed_single it.singles) ≡ Some (listed_single row.0) =
      find_mapped listed_single (is_single_of row.0.issuer row.0.name_hash row.0.serial) (is_about row.0.issuer row.0.name_hash row.0.serial) (λ x. refl) it.singles ∙ ap (option_map listed_single) found in
      let same : listed_single row.0 ≡ listed = sym row.2 in
      let own : find (is_about listed.issuer listed.single.name_hash listed.single.serial) (map listed_single it.singles) ≡ Some listed =
      subst (λ (l : ListedSingle). find (is_about l.issuer l.single.name_hash l.single.serial) (map listed_single it.singles) ≡ Some l) same shown in
      ap (option_and_then (λ id. find (is_about id listed.single.name_hash listed.single.serial) (map listed_single it.singles))) (issuer_found issuer known)
      ∙ ap (λ id. find (is_about id listed.single.name_hash listed.single.serial) (map listed_single it.singles)) (sym under) ∙ own

pub lists_once : ListingListsOnce
lists_once db it s = record { rise = s.rows.issuers_rise; issuers = issuer_found db it s; lists = list_found db it s; singles = single_found db it s }

-- ---- what is read

pub shows_store : (old new : State) (result : Result Listing StoreFault) → ReadsStore old new IsListing result → IfOk result (ShowsStore old.now)
shows_store old new (Err fault) h = tt
shows_store old new (Ok all) h = λ held s.
    let it = s.contents in
    let w : IsStoreWith old.now it = record { origin = s.origin; rows = s.rows; form = s.form; owned = s.owned } in
    let same = sym (h.1 it w) in (
      subst (λ o. ShowsHeld held o) same (subst (λ facts. ShowsHeld facts (overview_of it)) s.held_is (shows_held it s.form)),
      subst ListsOnce same (lists_once old.now it w),
    )

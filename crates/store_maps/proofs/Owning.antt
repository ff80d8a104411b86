-- A new issuer changes no map.
use Rattle.std.proofs.Common.{◌≡◌, ◌<◌, ℕ, List, [], ◌∷◌, ◌++◌, find, Bool, false, ◌&&◌, ◌==◌, Some, None, Option, option_map, option_and_then, refl, sym, ap, ◌∙◌, inl, inr, arith}
use Rattle.std.proofs.Math.Path.{fun_ext}
use Rattle.std.proofs.lemmas.Bool.{cases_Bool}
use Rattle.std.proofs.lemmas.Bool.Decides.{nat_tests}
use Rattle.std.specs.List.{AllByRecursion}
use Rattle.std.specs.Str.{bytes_eq}
use Rattle.statements_facts.specs.declared.scope.Scope.{Scope}
use Rattle.statements_facts.specs.Statement.{IssuerIdentity}
use Rattle.store_rows.specs.Contents.{IssuerRow, CrlRow, SingleRow, Contents, id_of, is_issuer, is_crl_of, is_single_of, said_of, scope_number}
use Rattle.store_rows.specs.Holding.{next_id, with_issuer}
use Rattle.store_maps.specs.Held.{crl_under, ocsp_under, held_in, IsOwned}

find_still : {X : Type 0} (p : X → Bool) (xs ys : List X) (x : X) → find p xs ≡ Some x → find p (xs ++ ys) ≡ Some x
find_still p [] ys x h = absurd (let no : None ≡ Some x = h in cc)
find_still p (y ∷ xs) ys x h = elim (cases_Bool (p y)) [
  | inl here ↦ rw here (rw here at h)
  | inr other ↦ rw other (find_still p xs ys x (rw other at h))
]

pub find_past : {X : Type 0} (p : X → Bool) (xs ys : List X) → find p xs ≡ None → find p (xs ++ ys) ≡ find p ys
find_past p [] ys h = refl
find_past p (y ∷ xs) ys h = elim (cases_Bool (p y)) [
  | inl here ↦ absurd (let no : Some y ≡ None = rw here at h in cc)
  | inr other ↦ rw other (find_past p xs ys (rw other at h))
]

find_none : {X : Type 0} (p : X → Bool) (xs : List X) → AllByRecursion (λ x. p x ≡ false) xs → find p xs ≡ None
find_none p [] h = refl
find_none p (x ∷ xs) h = rw h.0 (find_none p xs h.1)

below_not : (n m : ℕ) → n < m → (n == m) ≡ false
below_not n m low = grind (arith, nat_tests)

module _ (it : Contents) (owned : IsOwned it) (identity : IssuerIdentity) where
  abbrev new : ℕ
  new = next_id it.issuers

  no_crls : (scope : Scope) (rows : List CrlRow) → AllByRecursion (λ (row : CrlRow). row.issuer < new) rows → AllByRecursion (λ row. is_crl_of new scope row ≡ false) rows
  no_crls scope [] h = tt
  no_crls scope (row ∷ rows) h = (ap (λ b. b && (scope_number row.scope == scope_number scope)) (below_not row.issuer new h.0), no_crls scope rows h.1)

  no_singles : (name_hash serial : List ℕ) (rows : List SingleRow) → AllByRecursion (λ (row : SingleRow). row.issuer < new) rows → AllByRecursion (λ row. is_single_of new name_hash serial row ≡ false) rows
  no_singles name_hash serial [] h = tt
  no_singles name_hash serial (row ∷ rows) h = (ap (λ b. b && (bytes_eq row.name_hash name_hash && bytes_eq row.serial serial)) (below_not row.issuer new h.0), no_singles name_hash serial rows h.1)

  abbrev added : IssuerRow
  added = record { id = new; identity = identity }

  -- for a look-up that finds nothing under the new id
  same_look : {Fact : Type 0} (under : ℕ → Option Fact) (other : IssuerIdentity) → under new ≡ None → option_and_then under (id_of (it.issuers ++ added ∷ []) other) ≡ option_and_then under (id_of it.issuers other)
  same_look {Fact} under other none = from (find (is_issuer other) it.issuers) refl
    where
      from : (found : Option IssuerRow) → find (is_issuer other) it.issuers ≡ found → option_and_then under (id_of (it.issuers ++ added ∷ []) other) ≡ option_and_then under (id_of it.issuers other)
      from (Some row) e = ap (λ found. option_and_then under (option_map (λ (row : IssuerRow). row.id) found)) (find_still (is_issuer other) it.issuers (added ∷ []) row e ∙ sym e)
      from None e = elim (cases_Bool (is_issuer other added)) [
        | inl here ↦ (let past : find (is_issuer other) (it.issuers ++ added ∷ []) ≡ Some added = find_past (is_issuer other) it.issuers (added ∷ []) e ∙ rw here refl in
            ap (λ found. option_and_then under (option_map (λ (row : IssuerRow). row.id) found)) past ∙ none ∙ sym (ap (λ found. option_and_then under (option_map (λ (row : IssuerRow). row.id) found)) e))
        | inr far ↦ (let past : find (is_issuer other) (it.issuers ++ added ∷ []) ≡ None = find_past (is_issuer other) it.issuers (added ∷ []) e ∙ rw far refl in
            ap (λ found. option_and_then under (option_map (λ (row : IssuerRow). row.id) found)) (past ∙ sym e))
      ]

  pub same_held : held_in (with_issuer identity it) ≡ held_in it
  same_held =
      let crls = fun_ext (λ slot. same_look (crl_under it slot.scope) slot.issuer (ap (option_map _) (find_none (is_crl_of new slot.scope) it.crls (no_crls slot.scope it.crls owned.crls)))) in
      let singles = fun_ext (λ slot. same_look (ocsp_under it slot.name_hash slot.serial) slot.issuer (ap (option_map said_of) (find_none (is_single_of new slot.name_hash slot.serial) it.singles (no_singles slot.name_hash slot.serial it.singles owned.singles)))) in
      λ i. record { profile = it.profile; crl = crls i; ocsp = singles i }

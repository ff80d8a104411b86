-- What is said of a certificate, in the place of what was said of it, is held in its slot, and each other slot holds what it held.
use Rattle.std.proofs.Common.{◌≡◌, ◌<◌, ℕ, List, filter, map, not, true, false, ◌&&◌, Some, None, Option, option_map, option_and_then, refl, sym, ap, ap₂, subst, ◌∙◌, inl, inr, true≢false}
use Rattle.std.proofs.Math.Path.{fun_ext}
use Rattle.std.proofs.lemmas.Bool.{cases_Bool}
use Rattle.std.proofs.lemmas.Slice.Eq.{bytes_eq-Decides}
use Rattle.std.specs.Str.{bytes_eq}
use Rattle.sqlite.specs.Edit.{next_rowid}
use Rattle.sqlite_trees.specs.Tree.{IsAscending}
use Rattle.statements_facts.specs.Statement.{OcspSlot, OcspFact, same_ocsp_slot}
use Rattle.store_rows.specs.Contents.{IssuerRow, SingleRow, Contents, id_of, is_single_of, said_of, single_row}
use Rattle.store_rows.specs.Holding.{with_single}
use Rattle.store_maps.specs.Held.{ocsp_under, held_in}
use Rattle.statements_facts.specs.Coming.{with_ocsp_fact}
use Rattle.store_maps.proofs.Listing.{find_new, find_other, one_issuer, eq_of, is_eq_of, and_parts}

octets_of : (a b : List ℕ) → bytes_eq a b ≡ true → a ≡ b
octets_of a b = (bytes_eq-Decides a b).0

octets_same : (a b : List ℕ) → a ≡ b → bytes_eq a b ≡ true
octets_same a b = (bytes_eq-Decides a b).1

slots_are : (one other : OcspSlot) → same_ocsp_slot one other ≡ true → one ≡ other
slots_are one other e =
    let x = and_parts _ _ e in
    let y = and_parts _ _ x.0 in
    let z = and_parts _ _ x.1 in
    let names = octets_of one.issuer.name other.issuer.name y.0 in
    let keys = octets_of one.issuer.key_info other.issuer.key_info y.1 in
    let hashes = octets_of one.name_hash other.name_hash z.0 in
    let serials = octets_of one.serial other.serial z.1 in
    λ i. record { issuer = record { name = names i; key_info = keys i }; name_hash = hashes i; serial = serials i }

module _ (it : Contents) (slot : OcspSlot) (id : ℕ) (fact : OcspFact) (rise : IsAscending (λ (a b : IssuerRow). a.id < b.id) it.issuers) (known : id_of it.issuers slot.issuer ≡ Some id) where
  abbrev after : Contents
  after = with_single id (record { name_hash = slot.name_hash; serial = slot.serial; fact = fact }) it

  abbrev new : SingleRow
  new = record { id = next_rowid (map single_row (filter (λ row. not (is_single_of id slot.name_hash slot.serial row)) it.singles)); issuer = id; name_hash = slot.name_hash; serial = slot.serial; fact = fact }

  passes : is_single_of id slot.name_hash slot.serial new ≡ true
  passes = ap₂ (λ a b. a && b) (is_eq_of id id refl) (ap₂ (λ a b. a && b) (octets_same slot.name_hash slot.name_hash refl) (octets_same slot.serial slot.serial refl))

  own : ocsp_under after slot.name_hash slot.serial id ≡ Some fact
  own = ap (option_map said_of) (find_new (is_single_of id slot.name_hash slot.serial) (is_single_of id slot.name_hash slot.serial) it.singles new passes)

  -- a row that passes both tests makes the slots one
  tests_apart : (other : OcspSlot) (j : ℕ) → same_ocsp_slot slot other ≡ false → id_of it.issuers other.issuer ≡ Some j → (row : SingleRow) → is_single_of j other.name_hash other.serial row ≡ true → is_single_of id slot.name_hash slot.serial row ≡ false
  tests_apart other j far is row there = elim (cases_Bool (is_single_of id slot.name_hash slot.serial row)) [
    | inl also ↦ absurd (
        let a = and_parts _ _ there in let b = and_parts _ _ also in
        let a2 = and_parts _ _ a.1 in let b2 = and_parts _ _ b.1 in
        let ids : j ≡ id = sym (eq_of row.issuer j a.0) ∙ eq_of row.issuer id b.0 in
        true≢false (sym (ap₂ (λ x y. x && y) (one_issuer it.issuers slot.issuer other.issuer id rise known (is ∙ ap (λ n. Some n) ids))
        (ap₂ (λ x y. x && y)
        (octets_same slot.name_hash other.name_hash (sym (octets_of row.name_hash slot.name_hash b2.0) ∙ octets_of row.name_hash other.name_hash a2.0))
        (octets_same slot.serial other.serial (sym (octets_of row.serial slot.serial b2.1) ∙ octets_of row.serial other.serial a2.1)))) ∙ far))
    | inr gone ↦ gone
  ]

  new_fails : (other : OcspSlot) (j : ℕ) → same_ocsp_slot slot other ≡ false → id_of it.issuers other.issuer ≡ Some j → is_single_of j other.name_hash other.serial new ≡ false
  new_fails other j far is = elim (cases_Bool (is_single_of j other.name_hash other.serial new)) [
    | inl there ↦ absurd (true≢false (sym passes ∙ tests_apart other j far is new there))
    | inr gone ↦ gone
  ]

  elsewhere : (other : OcspSlot) → same_ocsp_slot slot other ≡ false → (found : Option ℕ) → id_of it.issuers other.issuer ≡ found → option_and_then (ocsp_under after other.name_hash other.serial) found ≡ option_and_then (ocsp_under it other.name_hash other.serial) found
  elsewhere other far None is = refl
  elsewhere other far (Some j) is = ap (option_map said_of) (find_other (is_single_of id slot.name_hash slot.serial) (is_single_of j other.name_hash other.serial) it.singles new (new_fails other j far is) (tests_apart other j far is))

  at_slot : (other : OcspSlot) → (held_in after).ocsp other ≡ (with_ocsp_fact (held_in it) slot fact).ocsp other
  at_slot other = elim (cases_Bool (same_ocsp_slot slot other)) [
    | inl same ↦ rw same (subst (λ o. (held_in after).ocsp o ≡ Some fact) (slots_are slot other same) (ap (option_and_then (ocsp_under after slot.name_hash slot.serial)) known ∙ own))
    | inr far ↦ rw far (elsewhere other far (id_of it.issuers other.issuer) refl)
  ]

  pub single_held : held_in after ≡ with_ocsp_fact (held_in it) slot fact
  single_held = let singles = fun_ext at_slot in λ i. record { profile = it.profile; crl = (held_in it).crl; ocsp = singles i }

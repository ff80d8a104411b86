-- What is read as a general name, or as the base of a subtree, is one; and each is read.
use Rattle.std.proofs.Common.{◌≡◌, ℕ, List, [], ◌∷◌, Bool, true, false, Option, Some, None, Result, Ok, Err, length, refl, sym, ◌∙◌, ap, subst, inl, inr, if◌then◌else◌}
use Rattle.std.specs.Prelude.{nat_le}
use Rattle.std.specs.List.{list_all, slice_split}
use Rattle.std.proofs.lemmas.Bool.{cases_eq, eq-eqb, ne_eqb, and_parts, and_from, leb-true, le-leb}
use Rattle.asn.specs.Place.{Place, tag, body}
use Rattle.asn.specs.Members.{members}
use Rattle.asn.specs.Walk.{◌>>=◌, next_or, ended, check_that}
use Rattle.asn.proofs.Laws.{bind_ok, ok_is, check_ok, check_again, next_or_ok, next_or_again, ended_ok, ended_again}
use Rattle.names_distinguished.specs.declared.fault.NameRule.TheVariants.{NameLayout, DnsForm, IpForm}
use Rattle.names.specs.declared.general.Form.{Form}
use Rattle.names.specs.declared.general.Form.TheVariants as F
use Rattle.names.specs.declared.ip.IpFault.{IpFault}
use Rattle.names.specs.declared.ip.IpFault.TheVariants as I
use Rattle.names.specs.Dns.{IsDnsName, is_dot, is_label}
use Rattle.names.specs.Ip.{IsIpAddress}
use Rattle.names_distinguished.specs.NameLayout.{name}
use Rattle.names.specs.Bases.{DomainNames, every_name, names_within, names_below, AddressRange, is_dns_name, is_ip_address, names_of_base, range_of_base, AreNamesOf, DnsNameTestIsExact, NamesOfBaseAreExact}
use Rattle.names.specs.GeneralLayout.{NameContents, contents_at, GeneralName, SubtreeBase, directory_name, dns_name, ip_address, other_name, directory_base, dns_base, ip_base, other_base, form_of_identifier, explicit_name, dns_name_at, ip_address_at, general_of, general, dns_base_of, dns_base_at, ip_base_of, ip_base_at, base_of, base}
use Rattle.names.specs.GeneralForms.{HoldsName, IsGeneralName, IsSubtreeBase, GeneralNamesAreRead, SubtreeBasesAreRead}
use Rattle.names_distinguished.proofs.Laws.{is_name, name_is}
use Rattle.names.proofs.DnsNames.{by_labels, no_leading_dot}
use Rattle.names.proofs.BaseLaws.{address_test_is_exact, range_of_base_is_exact}

pub dns_name_test_is_exact : DnsNameTestIsExact
unfolding is_dns_name
dns_name_test_is_exact text = (
  λ t.
      let both = and_parts (nat_le (length text) 253) (list_all is_label (slice_split is_dot text)) t in
      (by_labels text (list_all is_label (slice_split is_dot text)) (leb-true (length text) 253 both.0) refl).0 both.1,
  λ d.
      and_from (nat_le (length text) 253) (list_all is_label (slice_split is_dot text)) (le-leb (length text) 253 d.short)
      ((by_labels text (list_all is_label (slice_split is_dot text)) d.short refl).1 d),
)

-- bases of constraints on DNS names
some_if : (b : Bool) (x y : DomainNames) → (if b then Some x else None) ≡ Some y → (b ≡ true) × (x ≡ y)
some_if true x y e = (refl, cc)
some_if false x y e = absurd cc

names_from : (base : List ℕ) (names : DomainNames) → names_of_base base ≡ Some names → AreNamesOf base names
unfolding names_of_base
names_from [] names e =
    let same : every_name ≡ names = cc in
    subst (AreNamesOf []) same refl
names_from (octet ∷ text) names e =
    elim (cases_eq octet 46) [
      | inl dot ↦
          let f : (if is_dns_name text then Some (names_below text) else None) ≡ Some names = rw (eq-eqb octet 46 dot) at e in
          let s = some_if (is_dns_name text) (names_below text) names f in
          subst (AreNamesOf (octet ∷ text)) s.1 (ap (λ (o : ℕ). o ∷ text) dot, (dns_name_test_is_exact text).0 s.0)
      | inr no_dot ↦
          let f : (if is_dns_name (octet ∷ text) then Some (names_within (octet ∷ text)) else None) ≡ Some names = rw (ne_eqb octet 46 no_dot) at e in
          let s = some_if (is_dns_name (octet ∷ text)) (names_within (octet ∷ text)) names f in
          subst (AreNamesOf (octet ∷ text)) s.1 (refl, (dns_name_test_is_exact (octet ∷ text)).0 s.0)
    ]

not_empty : IsDnsName [] → ⊥
unfolding is_dns_name
not_empty d = let t = (dns_name_test_is_exact []).1 d in cc

within_read : (text : List ℕ) → IsDnsName text → names_of_base text ≡ Some (names_within text)
unfolding names_of_base
within_read [] d = absurd (not_empty d)
within_read (octet ∷ text) d =
    elim (cases_eq octet 46) [
      | inl dot ↦ absurd (no_leading_dot (octet ∷ text) text d (ap (λ (o : ℕ). o ∷ text) dot))
      | inr no_dot ↦ let t = (dns_name_test_is_exact (octet ∷ text)).1 d in rw (ne_eqb octet 46 no_dot, t) refl
    ]

names_again : (base : List ℕ) (names : DomainNames) → AreNamesOf base names → names_of_base base ≡ Some names
unfolding names_of_base
names_again base every_name h = rw h refl
names_again base (names_within text) h = ap names_of_base h.0 ∙ within_read text h.1
names_again base (names_below text) h = let t = (dns_name_test_is_exact text).1 h.1 in ap names_of_base h.0 ∙ rw t refl

pub names_of_base_are_exact : NamesOfBaseAreExact
names_of_base_are_exact base names = (names_from base names, names_again base names)

-- a name in an explicit tag
explicit_from : (value : Place) (contents : NameContents) → explicit_name value ≡ Ok contents → HoldsName value contents
unfolding explicit_name
explicit_from value contents e =
    let a = bind_ok (next_or NameLayout (members value)) (λ first. name first.0 >>= λ read. ended NameLayout first.1 >>= λ one. Ok (contents_at first.0)) contents e in
    let b = bind_ok (name a.0.0) (λ read. ended NameLayout a.0.1 >>= λ one. Ok (contents_at a.0.0)) contents a.2 in
    let d = bind_ok (ended NameLayout a.0.1) (λ one. Ok (contents_at a.0.0)) contents b.2 in
    record {
      place = a.0.0;
      alone = (next_or_ok NameLayout (members value) a.0 a.1).values ∙ ap (λ (l : List Place). a.0.0 ∷ l) (ended_ok NameLayout a.0.1 d.0 d.1);
      is_name = is_name a.0.0 b.0 b.1;
      read = sym (ok_is (contents_at a.0.0) contents d.2);
    }

explicit_again : (value : Place) (contents : NameContents) → HoldsName value contents → explicit_name value ≡ Ok contents
unfolding explicit_name
explicit_again value contents h =
    let a = next_or_again NameLayout (members value) h.place [] h.alone in
    let n = name_is h.place h.is_name in
    let d = ended_again NameLayout (record { values = []; end = (members value).end }) refl in
    let r = h.read in
    rw (a, n, d, r) refl

-- general names
said_from : (form : Option Form) (value : Place) (said : GeneralName) → form_of_identifier (tag value) ≡ form → general_of form value ≡ Ok said → IsGeneralName value said
unfolding dns_name_at ip_address_at
said_from None value said f e = absurd cc
said_from (Some F.Directory) value said f e =
    let a = bind_ok (explicit_name value) (λ contents. Ok (directory_name contents)) said e in
    subst (IsGeneralName value) (ok_is (directory_name a.0) said a.2) (f, explicit_from value a.0 a.1)
said_from (Some F.Dns) value said f e =
    let a = bind_ok (check_that (is_dns_name (body value)) DnsForm value.at) (λ form. Ok (dns_name (body value))) said e in
    subst (IsGeneralName value) (ok_is (dns_name (body value)) said a.2)
    (f, refl, (dns_name_test_is_exact (body value)).0 (check_ok (is_dns_name (body value)) DnsForm value.at a.0 a.1))
said_from (Some F.Ip) value said f e =
    let a = bind_ok (check_that (is_ip_address (body value)) IpForm value.at) (λ form. Ok (ip_address (body value))) said e in
    subst (IsGeneralName value) (ok_is (ip_address (body value)) said a.2)
    (f, refl, (address_test_is_exact (body value)).0 (check_ok (is_ip_address (body value)) IpForm value.at a.0 a.1))
said_from (Some (F.Other number)) value said f e =
    let same : other_name number (body value) ≡ said = cc in
    subst (IsGeneralName value) same (f, refl)

said_again : (value : Place) (said : GeneralName) → IsGeneralName value said → general value ≡ Ok said
unfolding general dns_name_at ip_address_at
said_again value (directory_name contents) h = let e = explicit_again value contents h.1 in rw (h.0, e) refl
said_again value (dns_name text) h =
    let t = (dns_name_test_is_exact (body value)).1 (subst IsDnsName (sym h.1) h.2) in
    let e = check_again (is_dns_name (body value)) DnsForm value.at t in
    rw (h.0, e) (ap (λ (l : List ℕ). Ok (dns_name l)) h.1)
said_again value (ip_address octets) h =
    let t = (address_test_is_exact (body value)).1 (subst IsIpAddress (sym h.1) h.2) in
    let e = check_again (is_ip_address (body value)) IpForm value.at t in
    rw (h.0, e) (ap (λ (l : List ℕ). Ok (ip_address l)) h.1)
said_again value (other_name number contents) h = rw h.0 (ap (λ (l : List ℕ). Ok (other_name number l)) h.1)

pub general_names_are_read : GeneralNamesAreRead
unfolding general
general_names_are_read value said = (said_from (form_of_identifier (tag value)) value said refl, said_again value said)

-- bases of subtrees
dns_base_from : (at : ℕ) (names : Option DomainNames) (said : SubtreeBase) → dns_base_of at names ≡ Ok said → (found : DomainNames) × (names ≡ Some found) × (dns_base found ≡ said)
dns_base_from at None said e = absurd cc
dns_base_from at (Some names) said e = (names, refl, cc)

ip_base_from : (at : ℕ) (range : Result AddressRange IpFault) (said : SubtreeBase) → ip_base_of at range ≡ Ok said → (found : AddressRange) × (range ≡ Ok found) × (ip_base found ≡ said)
ip_base_from at (Ok range) said e = (range, refl, cc)
ip_base_from at (Err I.Length) said e = absurd cc
ip_base_from at (Err I.Mask) said e = absurd cc

base_from : (form : Option Form) (value : Place) (said : SubtreeBase) → form_of_identifier (tag value) ≡ form → base_of form value ≡ Ok said → IsSubtreeBase value said
unfolding dns_base_at ip_base_at
base_from None value said f e = absurd cc
base_from (Some F.Directory) value said f e =
    let a = bind_ok (explicit_name value) (λ contents. Ok (directory_base contents)) said e in
    subst (IsSubtreeBase value) (ok_is (directory_base a.0) said a.2) (f, explicit_from value a.0 a.1)
base_from (Some F.Dns) value said f e =
    let a = dns_base_from value.at (names_of_base (body value)) said e in
    subst (IsSubtreeBase value) a.2 (f, names_from (body value) a.0 a.1)
base_from (Some F.Ip) value said f e =
    let a = ip_base_from value.at (range_of_base (body value)) said e in
    subst (IsSubtreeBase value) a.2 (f, (range_of_base_is_exact (body value) a.0).0 a.1)
base_from (Some (F.Other number)) value said f e =
    let same : other_base number (body value) ≡ said = cc in
    subst (IsSubtreeBase value) same (f, refl)

base_again : (value : Place) (said : SubtreeBase) → IsSubtreeBase value said → base value ≡ Ok said
unfolding base dns_base_at ip_base_at
base_again value (directory_base contents) h = let e = explicit_again value contents h.1 in rw (h.0, e) refl
base_again value (dns_base names) h = let e = names_again (body value) names h.1 in rw (h.0, e) refl
base_again value (ip_base range) h = let e = (range_of_base_is_exact (body value) range).1 h.1 in rw (h.0, e) refl
base_again value (other_base number contents) h = rw h.0 (ap (λ (l : List ℕ). Ok (other_base number l)) h.1)

pub subtree_bases_are_read : SubtreeBasesAreRead
unfolding base
subtree_bases_are_read value said = (base_from (form_of_identifier (tag value)) value said refl, base_again value said)

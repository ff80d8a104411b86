-- A text is a DNS name exactly where its parts between dots are labels.
use Rattle.std.proofs.Common.{◌≡◌, ◌≤◌, ◌<◌, ℕ, List, [], ◌∷◌, length, Bool, true, false, not, ◌==◌, ◌&&◌, refl, sym, ◌∙◌, ap, subst, arith, IsTrue}
use Rattle.std.specs.Prelude.{◌↔◌, nat_lt, nat_le}
use Rattle.std.specs.List.{slice_split, join_with_byte, list_all, All}
use Rattle.std.proofs.lemmas.Bool.{and_parts, and_from, ltb-true, lt-ltb, leb-true, le-leb, ne_eqb, eq-eqb}
use Rattle.std.proofs.lemmas.List.Elements.{All-head, All-tail, All-weaker}
use Rattle.std.proofs.lemmas.List.Sums.{AllPass-from_list_all, list_all-from_AllPass}
use Rattle.std.proofs.lemmas.List.Splits.{slice_split_none, slice_split_at, join_with_byte-slice_split}
use Rattle.names.specs.Dns.{IsLabelOctet, IsLabel, IsDnsName, IsBaseOf, is_dot, is_label_octet, is_label}
use Rattle.names.specs.declared.dns.Domain.{Domain}
use Rattle.names.specs.declared.dns.Domain.TheVariants as D
use Rattle.names_distinguished.proofs.Laws.{slice_split_nonempty}

-- a test of each element that decides a fact decides that fact of each element
module _ {X : Type 0} (p : X → Bool) (P : X → Type 0) where
  pub all_of : ((x : X) → p x ≡ true → P x) → (xs : List X) → list_all p xs ≡ true → All P xs
  all_of h xs t = All-weaker (λ x. p x ≡ true) P h xs (AllPass-from_list_all p xs t)

  pub of_all : ((x : X) → P x → p x ≡ true) → (xs : List X) → All P xs → list_all p xs ≡ true
  of_all h xs a = list_all-from_AllPass p xs (All-weaker P (λ x. p x ≡ true) h xs a)

label_octet : (octet : ℕ) → is_label_octet octet ≡ true → IsLabelOctet octet
label_octet octet t =
    let a = and_parts (nat_le 33 octet) (nat_le octet 126 && not (octet == 46)) t in
    let b = and_parts (nat_le octet 126) (not (octet == 46)) a.1 in
    record {
      from = leb-true 33 octet a.0;
      to = leb-true octet 126 b.0;
      no_dot = λ e. let f = eq-eqb octet 46 e in cc b.1;
    }

label_octet_test : (octet : ℕ) → IsLabelOctet octet → is_label_octet octet ≡ true
label_octet_test octet h =
    and_from (nat_le 33 octet) (nat_le octet 126 && not (octet == 46)) (le-leb 33 octet h.from)
    (and_from (nat_le octet 126) (not (octet == 46)) (le-leb octet 126 h.to) (ap not (ne_eqb octet 46 h.no_dot)))

label : (text : List ℕ) → is_label text ≡ true → IsLabel text
label text t =
    let a = and_parts (nat_lt 0 (length text)) (nat_le (length text) 63 && list_all is_label_octet text) t in
    let b = and_parts (nat_le (length text) 63) (list_all is_label_octet text) a.1 in
    record {
      some = ltb-true 0 (length text) a.0;
      short = leb-true (length text) 63 b.0;
      octets = all_of is_label_octet IsLabelOctet label_octet text b.1;
    }

label_test : (text : List ℕ) → IsLabel text → is_label text ≡ true
label_test text h =
    and_from (nat_lt 0 (length text)) (nat_le (length text) 63 && list_all is_label_octet text) (lt-ltb 0 (length text) h.some)
    (and_from (nat_le (length text) 63) (list_all is_label_octet text) (le-leb (length text) 63 h.short)
    (of_all is_label_octet IsLabelOctet label_octet_test text h.octets))

no_dots : (text : List ℕ) → IsLabel text → All (λ octet. is_dot octet ≡ false) text
no_dots text h = All-weaker IsLabelOctet (λ octet. is_dot octet ≡ false) (λ octet o. ne_eqb octet 46 o.no_dot) text h.octets

-- joined labels are cut into those labels
split_joined : (first : List ℕ) (rest : List (List ℕ)) → All IsLabel (first ∷ rest) → slice_split is_dot (join_with_byte 46 (first ∷ rest)) ≡ first ∷ rest
split_joined first [] h = slice_split_none is_dot first (no_dots first (All-head IsLabel first [] h))
split_joined first (next ∷ rest) h =
    slice_split_at is_dot first 46 (join_with_byte 46 (next ∷ rest)) (no_dots first (All-head IsLabel first (next ∷ rest) h)) refl
    ∙ ap (λ (l : List (List ℕ)). first ∷ l) (split_joined next rest (All-tail IsLabel first (next ∷ rest) h))

split_name : (parts : List (List ℕ)) → 0 < length parts → All IsLabel parts → slice_split is_dot (join_with_byte 46 parts) ≡ parts
split_name [] some h = absurd (omega arith)
split_name (first ∷ rest) some h = split_joined first rest h

pub by_labels : (name : List ℕ) (b : Bool) → length name ≤ 253 → b ≡ list_all is_label (slice_split is_dot name) → (IsTrue b ↔ IsDnsName name)
by_labels name b short e = (
  λ t. record {
    parts = slice_split is_dot name;
    some = slice_split_nonempty is_dot name;
    each = all_of is_label IsLabel label (slice_split is_dot name) (sym e ∙ t);
    joined = sym (join_with_byte-slice_split 46 name);
    short = short;
  },
  λ d. e ∙ (ap (λ (l : List ℕ). list_all is_label (slice_split is_dot l)) d.joined
      ∙ (ap (list_all is_label) (split_name d.parts d.some d.each) ∙ of_all is_label IsLabel label_test d.parts d.each)),
)

first_octet : (parts : List (List ℕ)) (rest : List ℕ) → 0 < length parts → All IsLabel parts → join_with_byte 46 parts ≡ 46 ∷ rest → ⊥
first_octet [] rest some h e = absurd (omega arith)
first_octet ([] ∷ more) rest some h e = let l = All-head IsLabel [] more h in absurd (omega (arith, l.some))
first_octet ((c ∷ part) ∷ []) rest some h e =
    let l = All-head IsLabel (c ∷ part) [] h in
    let o = All-head IsLabelOctet c part l.octets in
    o.no_dot (cc)
first_octet ((c ∷ part) ∷ next ∷ more) rest some h e =
    let l = All-head IsLabel (c ∷ part) (next ∷ more) h in
    let o = All-head IsLabelOctet c part l.octets in
    o.no_dot (cc)

-- a DNS name does not begin with a dot
pub no_leading_dot : (name rest : List ℕ) → IsDnsName name → name ≡ 46 ∷ rest → ⊥
no_leading_dot name rest d e = first_octet d.parts rest d.some d.each (sym d.joined ∙ e)

-- a base that begins with a dot is a dot and a name, or no base
pub below_dot : (base name : List ℕ) (octet : ℕ) → base ≡ octet ∷ name → octet ≡ 46 → (domain : Domain) → IsBaseOf base domain → IsDnsName name
below_dot base name octet e dot D.Every h = let f : [] ≡ octet ∷ name = sym h ∙ e in cc
below_dot base name octet e dot (D.Within text) h =
    absurd (no_leading_dot text.now name h.1 (sym h.0 ∙ (e ∙ ap (λ (o : ℕ). o ∷ name) dot)))
below_dot base name octet e dot (D.Below text) h =
    let same : text.now ≡ name = let f : 46 ∷ text.now ≡ octet ∷ name = sym h.0 ∙ e in cc in
    subst IsDnsName same h.1

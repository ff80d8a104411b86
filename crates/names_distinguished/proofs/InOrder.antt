-- Two sets looked at from the front, as long as their attributes are the same.
use Rattle.std.proofs.Common.{◌≡◌, ℕ, List, [], ◌∷◌, ◌++◌, Some, None, refl, sym, ap, ◌∙◌, subst, inl, inr, IsTrue, append_assoc}
use Rattle.names_distinguished.specs.DistinguishedName.{ComparedAttribute, rdn_map, value_at}
use Rattle.names_distinguished.specs.NameParts.{are_distinct}
use Rattle.names_distinguished.proofs.Matching.{value_first, value_none, agree_of_same}
use Rattle.names_distinguished.proofs.Agreement.{value_or_none, value_in_rest, never_twice}

-- both begin with the same attributes, and these are left
pub record IsAbreast (one two left right : List ComparedAttribute) : Type 0 where
  pub front : List ComparedAttribute
  pub one_is : one ≡ front ++ left
  pub two_is : two ≡ front ++ right

pub abreast_more : (one two left right left_rest right_rest : List ComparedAttribute) (d e : ComparedAttribute) → IsAbreast one two left right → left ≡ d ∷ left_rest → right ≡ e ∷ right_rest → d.0 ≡ e.0 → d.1 ≡ e.1
    → IsAbreast one two left_rest right_rest
abreast_more one two left right left_rest right_rest d e h left_is right_is kinds values =
    let same : e ≡ d = λ i. (sym kinds i, sym values i) in
    record {
      front = h.front ++ d ∷ [];
      one_is = h.one_is ∙ (ap (λ (es : List ComparedAttribute). h.front ++ es) left_is ∙ sym (append_assoc h.front (d ∷ []) left_rest));
      two_is = h.two_is ∙ (ap (λ (es : List ComparedAttribute). h.front ++ es) (right_is ∙ ap (λ (c : ComparedAttribute). c ∷ right_rest) same) ∙ sym (append_assoc h.front (d ∷ []) right_rest));
    }

-- in a set with no type twice none before an attribute has its type
none_in_front : (front rest : List ComparedAttribute) (e : ComparedAttribute) → IsTrue (are_distinct (front ++ e ∷ rest)) → value_at e.0 front ≡ None
none_in_front front rest e distinct =
    elim (value_or_none (value_at e.0 front)) [
      | inl n ↦ n
      | inr (v, s) ↦ let z : None ≡ Some e.1 = sym (never_twice e.0 front (e ∷ rest) v distinct s) ∙ value_first e.0 e rest refl in absurd cc
    ]

value_here : (whole front rest : List ComparedAttribute) (e : ComparedAttribute) → whole ≡ front ++ e ∷ rest → IsTrue (are_distinct whole) → value_at e.0 whole ≡ Some e.1
value_here whole front rest e is distinct =
    let d : IsTrue (are_distinct (front ++ e ∷ rest)) = subst (λ (es : List ComparedAttribute). IsTrue (are_distinct es)) is distinct in
    ap (value_at e.0) is ∙ (value_in_rest e.0 front (e ∷ rest) (none_in_front front rest e d) ∙ value_first e.0 e rest refl)

pub values_differ : (one two left right left_rest right_rest : List ComparedAttribute) (d e : ComparedAttribute) → IsAbreast one two left right → left ≡ d ∷ left_rest → right ≡ e ∷ right_rest → d.0 ≡ e.0 → (d.1 ≡ e.1 → ⊥)
    → IsTrue (are_distinct one) → IsTrue (are_distinct two) → rdn_map one ≡ rdn_map two → ⊥
values_differ one two left right left_rest right_rest d e h left_is right_is kinds other first second same =
    let x = value_here one h.front left_rest d (h.one_is ∙ ap (λ (es : List ComparedAttribute). h.front ++ es) left_is) first in
    let y = value_here two h.front right_rest e (h.two_is ∙ ap (λ (es : List ComparedAttribute). h.front ++ es) right_is) second in
    let z : Some d.1 ≡ Some e.1 = sym x ∙ ((agree_of_same one two same d.0).same ∙ (ap (λ (k : List ℕ). value_at k two) kinds ∙ y)) in
    other (cc)

pub one_is_longer : (one two left right left_rest : List ComparedAttribute) (d : ComparedAttribute) → IsAbreast one two left right → left ≡ d ∷ left_rest → right ≡ [] → IsTrue (are_distinct one) → rdn_map one ≡ rdn_map two → ⊥
one_is_longer one two left right left_rest d h left_is right_is first same =
    let is = h.one_is ∙ ap (λ (es : List ComparedAttribute). h.front ++ es) left_is in
    let x = value_here one h.front left_rest d is first in
    let n = none_in_front h.front left_rest d (subst (λ (es : List ComparedAttribute). IsTrue (are_distinct es)) is first) in
    let y = ap (value_at d.0) (h.two_is ∙ ap (λ (es : List ComparedAttribute). h.front ++ es) right_is) ∙ (value_in_rest d.0 h.front [] n ∙ value_none d.0) in
    let z : Some d.1 ≡ None = sym x ∙ ((agree_of_same one two same d.0).same ∙ y) in
    cc

turned : (one two left right : List ComparedAttribute) → IsAbreast one two left right → IsAbreast two one right left
turned one two left right h = record { front = h.front; one_is = h.two_is; two_is = h.one_is }

pub two_is_longer : (one two left right right_rest : List ComparedAttribute) (e : ComparedAttribute) → IsAbreast one two left right → left ≡ [] → right ≡ e ∷ right_rest → IsTrue (are_distinct two) → rdn_map one ≡ rdn_map two → ⊥
two_is_longer one two left right right_rest e h left_is right_is second same = one_is_longer two one right left right_rest e (turned one two left right h) right_is left_is second (sym same)

pub both_end : (one two left right : List ComparedAttribute) → IsAbreast one two left right → left ≡ [] → right ≡ [] → rdn_map one ≡ rdn_map two
both_end one two left right h left_is right_is = ap rdn_map (h.one_is ∙ (ap (λ (es : List ComparedAttribute). h.front ++ es) (left_is ∙ sym right_is) ∙ sym h.two_is))

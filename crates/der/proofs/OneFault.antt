-- A text is refused for one rule at one place.
use Rattle.std.proofs.Common.{◌≡◌, ℕ, List, refl, sym, ap, ◌∙◌, subst, inl, inr, arith, cond, eqb}
use Rattle.std.proofs.lemmas.Bool.{cases_lt}
use Rattle.der.specs.FirstFault.{BreaksFirst, StartsIn, StartsAmong, itself, inside, first, later, FirstFaultIn, IsFirstFault}
use Rattle.der.specs.Fault.{rule_number}
use Rattle.der.specs.declared.fault.Rule.{Rule}
use Rattle.der.specs.declared.fault.Rule.TheVariants.{TagForm, LengthForm, TooLong, Truncated, TooDeep, Content, Trailing}
use Rattle.der.specs.declared.fault.Fault.TheVariants.{Refused}
use Rattle.der.proofs.Headers.{two_octets}
use Rattle.der.proofs.Faults.{below_in}

mutual
  pub one_start : {d : ℕ} {text : List ℕ} {p l : ℕ} {r : List ℕ} → StartsIn d text p l r → {q m : ℕ} {s : List ℕ} → StartsIn d text q m s → p ≡ q → (l ≡ m) × (r ≡ s)
  one_start itself itself e = (refl, refl)
  one_start {d} {text} itself (inside {at = k} o w i among) e = absurd (omega (arith, two_octets text))
  one_start {d} {text} (inside {at = j} o w i among) itself e = absurd (omega (arith, two_octets text))
  one_start (inside {at = j} o w i a) (inside {at = k} o' w' i' b) e = one_start_among a b (omega arith)

  pub one_start_among : {d : ℕ} {text : List ℕ} {p l : ℕ} {r : List ℕ} → StartsAmong d text p l r → {q m : ℕ} {s : List ℕ} → StartsAmong d text q m s → p ≡ q → (l ≡ m) × (r ≡ s)
  one_start_among (first o a) (first o' b) e = one_start a b e
  one_start_among {d} {text} (first o a) (later {at = k} w i b) e = absurd (elim (below_in a) [ inl z ↦ omega (arith, z, two_octets text) | inr z ↦ omega (arith, z.1) ])
  one_start_among {d} {text} (later {at = j} w i a) (first o b) e = absurd (elim (below_in b) [ inl z ↦ omega (arith, z, two_octets text) | inr z ↦ omega (arith, z.1) ])
  one_start_among (later {at = j} w i a) (later {at = k} w' i' b) e = one_start_among a b (omega arith)

-- of two rules that a value breaks first, neither comes before the other
same_rank : (d : ℕ) (text : List ℕ) (r s : Rule) → BreaksFirst r d text → BreaksFirst s d text → rule_number r ≡ rule_number s
same_rank d text r s p q = elim (cases_lt (rule_number r) (rule_number s)) [ inl lt ↦ absurd (q.1 r lt p.0) | inr ge ↦ elim (cases_lt (rule_number s) (rule_number r)) [ inl lt ↦ absurd (p.1 s lt q.0) | inr le ↦ omega arith ] ]

-- the place, and the rule_number of the rule
pub one_place : (text : List ℕ) (r s : Rule) (p q : ℕ) → FirstFaultIn 1 text r p → FirstFaultIn 1 text s q → (p ≡ q) × (rule_number r ≡ rule_number s)
one_place text r s p q a b =
    let same : p ≡ q = elim (cases_lt p q) [
      | inl lt ↦ absurd (b.earliest p a.broken.0 a.broken.1 r lt a.broken.2 a.broken.3.0)
      | inr ge ↦ elim (cases_lt q p) [ inl lt ↦ absurd (a.earliest q b.broken.0 b.broken.1 s lt b.broken.2 b.broken.3.0) | inr le ↦ omega arith ]
    ] in
    let o = one_start a.broken.2 b.broken.2 same in
    (same, same_rank b.broken.0 b.broken.1 r s (subst (λ (x : List ℕ). BreaksFirst r b.broken.0 x) o.1 (subst (λ (l : ℕ). BreaksFirst r l a.broken.1) o.0 a.broken.3)) b.broken.3)

-- the rule of each number
abbrev rule_of : ℕ → Rule
rule_of n = cond (eqb n 1) TagForm (cond (eqb n 2) LengthForm (cond (eqb n 3) TooLong (cond (eqb n 4) Truncated (cond (eqb n 5) TooDeep (cond (eqb n 6) Content Trailing)))))

rule_back : (r : Rule) → rule_of (rule_number r) ≡ r
rule_back TagForm = refl
rule_back LengthForm = refl
rule_back TooLong = refl
rule_back Truncated = refl
rule_back TooDeep = refl
rule_back Content = refl
rule_back Trailing = refl

one_rule : (r s : Rule) → rule_number r ≡ rule_number s → r ≡ s
one_rule r s e = sym (rule_back r) ∙ ap rule_of e ∙ rule_back s

one_number : (text : List ℕ) (r s : Rule) (p q : ℕ) → IsFirstFault text (Refused r p) → IsFirstFault text (Refused s q) → (p ≡ q) × (rule_number r ≡ rule_number s)
one_number text r s p q (inl a) (inl b) = one_place text r s p q a b
one_number text r s p q (inl a) (inr (e, t)) = absurd (t.clean p a.broken.0 a.broken.1 r a.broken.2 a.broken.3.0)
one_number text r s p q (inr (e, t)) (inl b) = absurd (t.clean q b.broken.0 b.broken.1 s b.broken.2 b.broken.3.0)
one_number text r s p q (inr (e, t)) (inr (f, u)) = (t.place ∙ sym u.place, ap rule_number (e ∙ sym f))

pub one_fault : (text : List ℕ) (r s : Rule) (p q : ℕ) → IsFirstFault text (Refused r p) → IsFirstFault text (Refused s q) → (r ≡ s) × (p ≡ q)
one_fault text r s p q a b = let o = one_number text r s p q a b in (one_rule r s o.1, o.0)

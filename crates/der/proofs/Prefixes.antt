-- What the first octets of a text say of it, whatever follows them.
use Rattle.std.proofs.Common.{◌≡◌, ◌≢◌, ◌⊎◌, ℕ, ◌+◌, ◌-◌, ◌<◌, ◌≤◌, List, ◌++◌, length, get_or, take, drop, refl, sym, ap, ◌∙◌, arith, true, false, inl, inr, subst, nat_lt, if◌then◌else◌}
use Rattle.std.proofs.lemmas.Bool.{le-ltb, lt-ltb, cases_lt}
use Rattle.std.proofs.lemmas.List.{length-append, length-drop, take-append-le, get_or_append_left}
use lib.Seq.{drop-append-le}
use Rattle.der.specs.declared.fault.Rule.{Rule}
use Rattle.der.specs.declared.fault.Rule.TheVariants.{TagForm, LengthForm, TooLong, Truncated, TooDeep, Content, Trailing}
use Rattle.der.specs.Identifier.{is_refused, is_constructed}
use Rattle.der.specs.Length.{number, header_len, contents_len, contents_of, end_of, IsHeaderWhole}
use Rattle.der.specs.FirstFault.{Breaks, BreaksFirst, StartsIn, StartsAmong, itself, inside, FirstFaultIn}
use Rattle.der.specs.Fault.{rule_number}
use Rattle.der.specs.Header.{KeepsLength, GoesOn}
use Rattle.der.proofs.Headers.{header_len-long}

octet : (x rest : List ℕ) (k : ℕ) → k < length x → get_or (x ++ rest) k 0 ≡ get_or x k 0
octet x rest k lt = get_or_append_left x rest 0 k lt

longer : (x rest : List ℕ) → length x ≤ length (x ++ rest)
longer x rest = omega (arith, length-append x rest)

pub header_len-ahead : (x rest : List ℕ) → 2 ≤ length x → header_len (x ++ rest) ≡ header_len x
header_len-ahead x rest two = ap (λ (l : ℕ). if nat_lt l 128 then 2 else l - 126) (octet x rest 1 two)

pub whole-ahead : (x rest : List ℕ) → IsHeaderWhole x → IsHeaderWhole (x ++ rest)
whole-ahead x rest (two, w) = (omega (arith, longer x rest), omega (arith, longer x rest, header_len-ahead x rest two))

pub contents_len-ahead : (x rest : List ℕ) → IsHeaderWhole x → contents_len (x ++ rest) ≡ contents_len x
contents_len-ahead x rest (two, w) =
    let same = octet x rest 1 two in
    elim (cases_lt (get_or x 1 0) 128) [
      | inl lt ↦ rw (same, lt-ltb (get_or x 1 0) 128 lt) refl
      | inr le ↦
          let n = get_or x 1 0 - 128 in
          let room : n ≤ length (drop 2 x) = omega (arith, header_len-long x le, length-drop 2 x) in
          let front : take n (drop 2 (x ++ rest)) ≡ take n (drop 2 x) = ap (take n) (drop-append-le 2 x rest two) ∙ take-append-le n (drop 2 x) rest room in
          rw (same, le-ltb (get_or x 1 0) 128 le) (ap number front)
    ]

pub end_of-ahead : (x rest : List ℕ) → IsHeaderWhole x → end_of (x ++ rest) ≡ end_of x
end_of-ahead x rest w = omega (arith, header_len-ahead x rest w.0, contents_len-ahead x rest w)

pub contents_of-ahead : (x rest : List ℕ) → IsHeaderWhole x → end_of x ≤ length x → contents_of (x ++ rest) ≡ contents_of x
contents_of-ahead x rest w within =
    let h = header_len x in
    let room : contents_len x ≤ length (drop h x) = omega (arith, length-drop h x) in
    rw (header_len-ahead x rest w.0, contents_len-ahead x rest w)
    (ap (take (contents_len x)) (drop-append-le h x rest w.1) ∙ take-append-le (contents_len x) (drop h x) rest room)

-- the octet behind the first length octet, where the length octets go on
third : (x rest : List ℕ) → IsHeaderWhole x → 128 ≤ get_or x 1 0 → get_or x 1 0 ≢ 128 → get_or (x ++ rest) 2 0 ≡ get_or x 2 0
third x rest w long not_128 = octet x rest 2 (omega (arith, w.1, header_len-long x long))

third_of : (x rest : List ℕ) → IsHeaderWhole x → 128 ≤ get_or x 1 0 → (get_or x 1 0 ≡ 128) ⊎ (get_or (x ++ rest) 2 0 ≡ get_or x 2 0)
third_of x rest w long = elim (cases_lt (get_or x 1 0) 129) [ inl lt ↦ inl (omega arith) | inr le ↦ inr (third x rest w long (omega arith)) ]

-- a rule that the part of a header breaks is broken whatever follows
pub header-ahead : (rule : Rule) (depth : ℕ) (x rest : List ℕ) → rule_number rule < 4 → Breaks rule depth x → Breaks rule depth (x ++ rest)
header-ahead TagForm depth x rest low (some, r) = (omega (arith, longer x rest), rw (octet x rest 0 some) r)
header-ahead LengthForm depth x rest low (two, inl e) = (omega (arith, longer x rest), inl (octet x rest 1 two ∙ e))
header-ahead LengthForm depth x rest low (two, inr (inl e)) = (omega (arith, longer x rest), inr (inl (octet x rest 1 two ∙ e)))
header-ahead LengthForm depth x rest low (two, inr (inr (w, (long, inl zero)))) =
    let same = octet x rest 1 two in
    (omega (arith, longer x rest), elim (third_of x rest w long) [ inl is ↦ inl (same ∙ is) | inr e ↦ inr (inr (whole-ahead x rest w, (omega (arith, same), inl (e ∙ zero)))) ])
header-ahead LengthForm depth x rest low (two, inr (inr (w, (long, inr lt)))) =
    let same = octet x rest 1 two in
    (omega (arith, longer x rest), inr (inr (whole-ahead x rest w, (omega (arith, same), inr (omega (arith, contents_len-ahead x rest w))))))
header-ahead TooLong depth x rest low (w, le) = (whole-ahead x rest w, omega (arith, contents_len-ahead x rest w))
header-ahead Truncated depth x rest low b = absurd (omega arith)
header-ahead TooDeep depth x rest low b = absurd (omega arith)
header-ahead Content depth x rest low b = absurd (omega arith)
header-ahead Trailing depth x rest low b = absurd (omega arith)

-- and a whole header breaks what is broken there
pub header-back : (rule : Rule) (depth : ℕ) (x rest : List ℕ) → IsHeaderWhole x → rule_number rule < 4 → Breaks rule depth (x ++ rest) → Breaks rule depth x
header-back TagForm depth x rest w low (some, r) = (omega (arith, w.0), rw (← octet x rest 0 (omega (arith, w.0))) r)
header-back LengthForm depth x rest w low (two, inl e) = (w.0, inl (sym (octet x rest 1 w.0) ∙ e))
header-back LengthForm depth x rest w low (two, inr (inl e)) = (w.0, inr (inl (sym (octet x rest 1 w.0) ∙ e)))
header-back LengthForm depth x rest w low (two, inr (inr (_, (long, inl zero)))) =
    let same = octet x rest 1 w.0 in
    (w.0, elim (third_of x rest w (omega (arith, same))) [ inl is ↦ inl is | inr e ↦ inr (inr (w, (omega (arith, same), inl (sym e ∙ zero)))) ])
header-back LengthForm depth x rest w low (two, inr (inr (_, (long, inr lt)))) =
    let same = octet x rest 1 w.0 in
    (w.0, inr (inr (w, (omega (arith, same), inr (omega (arith, contents_len-ahead x rest w))))))
header-back TooLong depth x rest w low (_, le) = (w, omega (arith, contents_len-ahead x rest w))
header-back Truncated depth x rest w low b = absurd (omega arith)
header-back TooDeep depth x rest w low b = absurd (omega arith)
header-back Content depth x rest w low b = absurd (omega arith)
header-back Trailing depth x rest w low b = absurd (omega arith)

-- the same of every rule, where the whole value is there
ahead : (rule : Rule) (depth : ℕ) (x rest : List ℕ) → IsHeaderWhole x → end_of x ≤ length x → Breaks rule depth x → Breaks rule depth (x ++ rest)
ahead TagForm depth x rest w within b = header-ahead TagForm depth x rest (omega arith) b
ahead LengthForm depth x rest w within b = header-ahead LengthForm depth x rest (omega arith) b
ahead TooLong depth x rest w within b = header-ahead TooLong depth x rest (omega arith) b
ahead Truncated depth x rest w within b = absurd (b (w, within))
ahead TooDeep depth x rest w within b = b
ahead Content depth x rest w within (is_off, not_allowed) =
    (rw (octet x rest 0 (omega (arith, w.0))) is_off, λ p. not_allowed (rw (← octet x rest 0 (omega (arith, w.0)), ← contents_of-ahead x rest w within) p))
ahead Trailing depth x rest w within b = b

back : (rule : Rule) (depth : ℕ) (x rest : List ℕ) → IsHeaderWhole x → end_of x ≤ length x → Breaks rule depth (x ++ rest) → Breaks rule depth x
back TagForm depth x rest w within b = header-back TagForm depth x rest w (omega arith) b
back LengthForm depth x rest w within b = header-back LengthForm depth x rest w (omega arith) b
back TooLong depth x rest w within b = header-back TooLong depth x rest w (omega arith) b
back Truncated depth x rest w within b = absurd (b (whole-ahead x rest w, omega (arith, longer x rest, end_of-ahead x rest w)))
back TooDeep depth x rest w within b = b
back Content depth x rest w within (is_off, not_allowed) =
    (rw (← octet x rest 0 (omega (arith, w.0))) is_off, λ p. not_allowed (rw (octet x rest 0 (omega (arith, w.0)), contents_of-ahead x rest w within) p))
back Trailing depth x rest w within b = b

-- where values start in a text of which the first value is whole: at its front, or inside that value
starts-ahead : (depth : ℕ) (x rest : List ℕ) → IsHeaderWhole x → end_of x ≤ length x → {at level : ℕ} {r : List ℕ} → StartsIn depth x at level r
    → ((at ≡ 0) × (level ≡ depth) × (r ≡ x)) ⊎ StartsIn depth (x ++ rest) at level r
starts-ahead depth x rest w within itself = inl (refl, refl, refl)
starts-ahead depth x rest w within {level = level} {r = r} (inside {at = k} is_on _ _ among) =
    let there : StartsIn depth (x ++ rest) (header_len (x ++ rest) + k) level r
    = inside (ap is_constructed (octet x rest 0 (omega (arith, w.0))) ∙ is_on) (whole-ahead x rest w) (omega (arith, longer x rest, end_of-ahead x rest w))
    (subst (λ (c : List ℕ). StartsAmong (depth + 1) c k level r) (sym (contents_of-ahead x rest w within)) among) in
    inr (subst (λ (h : ℕ). StartsIn depth (x ++ rest) (h + k) level r) (header_len-ahead x rest w.0) there)

starts-back : (depth : ℕ) (x rest text : List ℕ) → text ≡ x ++ rest → IsHeaderWhole x → end_of x ≤ length x → {at level : ℕ} {r : List ℕ} → StartsIn depth text at level r
    → ((at ≡ 0) × (level ≡ depth) × (r ≡ text)) ⊎ StartsIn depth x at level r
starts-back depth x rest text e w within itself = inl (refl, refl, refl)
starts-back depth x rest text e w within {level = level} {r = r} (inside {at = k} is_on _ _ among) =
    let identifier : get_or text 0 0 ≡ get_or x 0 0 = ap (λ (t : List ℕ). get_or t 0 0) e ∙ octet x rest 0 (omega (arith, w.0)) in
    let contents : contents_of text ≡ contents_of x = ap contents_of e ∙ contents_of-ahead x rest w within in
    let header : header_len text ≡ header_len x = ap header_len e ∙ header_len-ahead x rest w.0 in
    let there : StartsIn depth x (header_len x + k) level r
    = inside (ap is_constructed (sym identifier) ∙ is_on) w within (subst (λ (c : List ℕ). StartsAmong (depth + 1) c k level r) contents among) in
    inr (subst (λ (h : ℕ). StartsIn depth x (h + k) level r) (sym header) there)

-- the first fault of a value stays the first, whatever follows the value
pub fault-ahead : (x rest : List ℕ) (rule : Rule) (at : ℕ) → IsHeaderWhole x → end_of x ≤ length x → FirstFaultIn 1 x rule at → FirstFaultIn 1 (x ++ rest) rule at
fault-ahead x rest rule at w within fault =
    record {
      broken = elim (starts-ahead 1 x rest w within fault.broken.2) [
        | inl (start, depth, text) ↦ (1, x ++ rest, subst (λ (n : ℕ). StartsIn 1 (x ++ rest) n 1 (x ++ rest)) (sym start) itself, first depth text)
        | inr there ↦ (fault.broken.0, fault.broken.1, there, fault.broken.3)
      ];
      earliest = λ earlier level r other lt s b. before earlier level r other lt s b (starts-back 1 x rest (x ++ rest) refl w within s);
    }
  where
    first : fault.broken.0 ≡ 1 → fault.broken.1 ≡ x → BreaksFirst rule 1 (x ++ rest)
    first depth text =
        let here : BreaksFirst rule 1 x = subst (λ (t : List ℕ). BreaksFirst rule 1 t) text (subst (λ (d : ℕ). BreaksFirst rule d fault.broken.1) depth fault.broken.3) in
        (ahead rule 1 x rest w within here.0, λ other lt b. here.1 other lt (back other 1 x rest w within b))

    before : (earlier level : ℕ) (r : List ℕ) (other : Rule) → earlier < at → StartsIn 1 (x ++ rest) earlier level r → Breaks other level r
        → ((earlier ≡ 0) × (level ≡ 1) × (r ≡ x ++ rest)) ⊎ StartsIn 1 x earlier level r → ⊥
    before earlier level r other lt s b (inr there) = fault.earliest earlier level r other lt there b
    before earlier level r other lt s b (inl (start, depth, text)) =
        let here : Breaks other 1 (x ++ rest) = subst (λ (t : List ℕ). Breaks other 1 t) text (subst (λ (d : ℕ). Breaks other d r) depth b) in
        fault.earliest earlier 1 x other lt (subst (λ (n : ℕ). StartsIn 1 x n 1 x) (sym start) itself) (back other 1 x rest w within here)

-- what the length octets break is broken first behind an identifier that isn't refused, whatever follows
pub length-ahead : (x rest : List ℕ) (rule : Rule) → 2 ≤ length x → is_refused (get_or x 0 0) ≡ false → Breaks rule 1 x → 1 < rule_number rule → rule_number rule < 4 → KeepsLength x rule
    → BreaksFirst rule 1 (x ++ rest)
length-ahead x rest rule two accepted b high low keeps = (header-ahead rule 1 x rest low b, earlier rule b low keeps)
  where
    tag : Breaks TagForm 1 (x ++ rest) → ⊥
    tag (some, r) = let e = octet x rest 0 (omega (arith, two)) in let refused : is_refused (get_or x 0 0) ≡ true = rw (← e) r in absurd cc

    form : (rule : Rule) → Breaks rule 1 x → 2 < rule_number rule → rule_number rule < 4 → KeepsLength x rule → Breaks LengthForm 1 (x ++ rest) → ⊥
    form TooLong (w, le) more low keeps broken = keeps LengthForm (omega arith) more (header-back LengthForm 1 x rest w (omega arith) broken)
    form TagForm b more low keeps broken = omega arith
    form LengthForm b more low keeps broken = omega arith
    form Truncated b more low keeps broken = omega arith
    form TooDeep b more low keeps broken = omega arith
    form Content b more low keeps broken = omega arith
    form Trailing b more low keeps broken = omega arith

    earlier : (rule : Rule) → Breaks rule 1 x → rule_number rule < 4 → KeepsLength x rule → (other : Rule) → rule_number other < rule_number rule → Breaks other 1 (x ++ rest) → ⊥
    earlier rule b low keeps TagForm lt broken = tag broken
    earlier rule b low keeps LengthForm lt broken = form rule b lt low keeps broken
    earlier rule b low keeps TooLong lt broken = omega arith
    earlier rule b low keeps Truncated lt broken = omega arith
    earlier rule b low keeps TooDeep lt broken = omega arith
    earlier rule b low keeps Content lt broken = omega arith
    earlier rule b low keeps Trailing lt broken = omega arith

-- length octets that break no rule but are not all there
pub goes_on : (x : List ℕ) → 2 ≤ length x → is_refused (get_or x 0 0) ≡ false → length x < header_len x → KeepsLength x Truncated → GoesOn x
goes_on x two accepted short keeps = record {
  short = short;
  accepted = λ some. accepted;
  definite = λ e. keeps LengthForm (omega arith) (omega arith) (two, inl e);
  unreserved = λ e. keeps LengthForm (omega arith) (omega arith) (two, inr (inl e));
}

pub not_truncated : (rule : Rule) → rule_number rule < 5 → (rule ≡ Truncated → ⊥) → rule_number rule < 4
not_truncated TagForm low other = omega arith
not_truncated LengthForm low other = omega arith
not_truncated TooLong low other = omega arith
not_truncated Truncated low other = absurd (other refl)
not_truncated TooDeep low other = omega arith
not_truncated Content low other = omega arith
not_truncated Trailing low other = omega arith

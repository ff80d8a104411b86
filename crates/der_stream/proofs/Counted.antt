-- Values that stand at the front of a text, one behind the other.
use Rattle.std.proofs.Common.{◌≡◌, ℕ, ◌+◌, ◌<◌, ◌≤◌, arith, List, [], ◌∷◌, ◌++◌, length, drop, refl, sym, ap, ◌∙◌, subst, inl, inr}
use Rattle.std.proofs.lemmas.Bool.{cases_lt}
use Rattle.std.proofs.lemmas.List.{length-append}
use lib.Seq.{drop-append-le}
use Rattle.std.proofs.KnownBytes.{starts_with_rest}
use Rattle.std.specs.Io.{StartsWith}
use Rattle.der.specs.declared.fault.Rule.{Rule}
use Rattle.der.specs.declared.fault.Rule.TheVariants.{TagForm, LengthForm, TooLong, Truncated, TooDeep, Content, Trailing}
use Rattle.der.specs.Length.{end_of}
use Rattle.der.specs.Fault.{rule_number}
use Rattle.der.specs.FirstFault.{Breaks}
use Rattle.der.specs.Header.{IsBrokenAhead}
use Rattle.der.proofs.Laws.{end_of-ahead}
use Rattle.der_stream.specs.Stream.{HasFaultlessHeader}
use Rattle.der_stream.specs.Front.{ValuesEndAt, none, one_more}
use Rattle.der_stream.proofs.Streams.{faultless-ahead}

-- values at the front of a text stand there, whatever follows
pub values_ahead : (octets rest : List ℕ) {count at : ℕ} → ValuesEndAt octets count at → ValuesEndAt (octets ++ rest) count at
values_ahead octets rest none = none
values_ahead octets rest (one_more {count = n} {at = p} before faultless within) =
    let there : drop p (octets ++ rest) ≡ drop p octets ++ rest = drop-append-le p octets rest (omega (arith, within)) in
    let end : end_of (drop p (octets ++ rest)) ≡ end_of (drop p octets) = ap end_of there ∙ end_of-ahead (drop p octets) rest faultless.0 in
    subst (λ (e : ℕ). ValuesEndAt (octets ++ rest) (n + 1) (p + e)) end
    (one_more (values_ahead octets rest before)
    (subst HasFaultlessHeader (sym there) (faultless-ahead (drop p octets) rest faultless))
    (omega (arith, within, end, length-append octets rest)))

pub values_behind : (held after : List ℕ) (count at : ℕ) → StartsWith after held → ValuesEndAt held count at → ValuesEndAt after count at
values_behind held after count at front stand =
    subst (λ (t : List ℕ). ValuesEndAt t count at) (sym (starts_with_rest after held front))
    (values_ahead held (drop (length held) after) stand)

-- so many values end at one place
pub one_place : {text : List ℕ} {n m p q : ℕ} → ValuesEndAt text n p → ValuesEndAt text m q → n ≡ m → p ≡ q
one_place none none e = refl
one_place none (one_more b _ _) e = absurd (omega arith)
one_place (one_more a _ _) none e = absurd (omega arith)
one_place {text} (one_more a _ _) (one_more b _ _) e = ap (λ (k : ℕ). k + end_of (drop k text)) (one_place a b (omega arith))

-- of several values, where each stands
pub each_of : {text : List ℕ} {most end : ℕ} → ValuesEndAt text most end → (count : ℕ) → count < most
    → (at : ℕ) × ValuesEndAt text count at × HasFaultlessHeader (drop at text) × (at + end_of (drop at text) ≤ end)
each_of none count lt = absurd (omega arith)
each_of {text} (one_more {count = n} {at = p} before faultless within) count lt = elim (cases_lt count n) [
  | inl earlier ↦ (let w = each_of before count earlier in (w.0, w.1, w.2, omega (arith, w.3)))
  | inr last ↦ (p, subst (λ (k : ℕ). ValuesEndAt text k p) (omega arith) before, faultless, omega arith)
]

-- a header that is refused has an octet
pub some_broken : (octets : List ℕ) (rule : Rule) → IsBrokenAhead octets rule → 0 < length octets
some_broken [] rule broken = absurd (none_there rule broken.0 (broken.1 []).0)
  where
    none_there : (rule : Rule) → rule_number rule < 4 → Breaks rule 1 [] → ⊥
    none_there TagForm low (some, _) = omega arith
    none_there LengthForm low (two, _) = omega arith
    none_there TooLong low ((two, _), _) = omega arith
    none_there Truncated low b = omega arith
    none_there TooDeep low b = omega arith
    none_there Content low b = omega arith
    none_there Trailing low b = omega arith
some_broken (octet ∷ octets) rule broken = omega arith

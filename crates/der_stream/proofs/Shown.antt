-- What enough octets of a text show of its first values is what all of it shows.
use Rattle.std.proofs.Common.{◌≡◌, ℕ, ◌+◌, ◌<◌, arith, List, [], ◌++◌, length, take, drop, refl, sym, ap, ◌∙◌, subst, inl, inr, append-nil, append_assoc}
use Rattle.std.proofs.lemmas.Bool.{cases_lt}
use Rattle.std.proofs.lemmas.List.{length-append, length-drop, length-take-le, take-append-drop, get_or-drop, get_or_past, get_or_append_left}
use lib.Seq.{drop-append-le}
use Rattle.der.specs.declared.fault.Rule.{Rule}
use Rattle.der.specs.declared.fault.Rule.TheVariants.{Trailing}
use Rattle.der.specs.declared.fault.Fault.{Fault}
use Rattle.der.specs.declared.fault.Fault.TheVariants.{Refused, Memory}
use Rattle.der.specs.Length.{header_len, end_of, IsHeaderWhole}
use Rattle.der.specs.FirstFault.{BreaksFirst, IsFirstFault}
use Rattle.der.specs.Header.{IsBrokenAhead}
use Rattle.der.specs.Laws.{AreOctets, Decision}
use Rattle.der.proofs.Laws.{two_octets, header_len-ahead, end_of-ahead, fault-ahead, refused_itself, clean_in, one_fault, decide, never_both}
use Rattle.der_stream.specs.Stream.{HasFaultlessHeader}
use Rattle.der_stream.specs.Front.{ValuesEndAt, none, at_end, octet_behind, refused_header, HaveOneOutcome, OneIsShown, EachIsShown}
use Rattle.der_stream.proofs.Counted.{values_ahead, one_place, each_of, some_broken}

-- two texts that are refused for one rule at one place
refused_too : (a b : List ℕ) (rule : Rule) (at : ℕ) → IsFirstFault a (Refused rule at) → IsFirstFault b (Refused rule at)
    → (fault : Fault) → IsFirstFault a fault → IsFirstFault b fault
refused_too a b rule at one other (Refused r p) fault =
    let o = one_fault a rule r at p one fault in
    subst (λ (t : Rule). IsFirstFault b (Refused t p)) o.0 (subst (λ (n : ℕ). IsFirstFault b (Refused rule n)) o.1 other)
refused_too a b rule at one other Memory fault = absurd fault

both_refused : (a b : List ℕ) (rule : Rule) (at : ℕ) → IsFirstFault a (Refused rule at) → IsFirstFault b (Refused rule at)
    → HaveOneOutcome a b
both_refused a b rule at one other = (
  λ fault. (refused_too a b rule at one other fault, refused_too b a rule at other one fault),
  λ value. ((λ encodes. absurd (never_both a value rule at encodes one)), λ encodes. absurd (never_both b value rule at encodes other)),
)

one_text : (text : List ℕ) → HaveOneOutcome text text
one_text text = (λ fault. ((λ it. it), λ it. it), λ value. ((λ it. it), λ it. it))

-- octets behind a value, or behind one with a fault inside
decided : (octets : List ℕ) → IsHeaderWhole octets → end_of octets ≡ length octets → Decision octets
    → (rule : Rule) × (at : ℕ) × ((rest : List ℕ) → 0 < length rest → IsFirstFault (octets ++ rest) (Refused rule at))
decided octets whole end (inl (value, encodes)) = (
  Trailing,
  length octets,
  λ rest some. inr (
    refl,
    record {
      clean = λ earlier level r other starts broken. clean_in starts value octets rest refl encodes other broken;
      place = sym (end_of-ahead octets rest whole ∙ end);
      more = omega (arith, some, length-append octets rest);
    },
  ),
)
decided octets whole end (inr (rule, at, inl fault)) =
    (rule, at, λ rest some. inl (fault-ahead octets rest rule at whole (omega (arith, end)) fault))
decided octets whole end (inr (rule, at, inr (_, trailing))) = absurd (omega (arith, end, trailing.place, trailing.more))

octets_front : (x rest : List ℕ) → AreOctets (x ++ rest) → AreOctets x
octets_front x rest fits k = elim (cases_lt k (length x)) [
  | inl lt ↦ subst (λ (n : ℕ). n < 256) (get_or_append_left x rest 0 k lt) (fits k)
  | inr ge ↦ rw (get_or_past x k 0 ge) (omega arith)
]

octets_behind : (text : List ℕ) (at : ℕ) → AreOctets text → AreOctets (drop at text)
octets_behind text at fits k = rw (get_or-drop at text k 0) (fits (at + k))

-- a value, or what should be one, with an octet behind it
shown_behind : (octets left : List ℕ) → AreOctets octets → IsHeaderWhole octets → end_of octets < length octets
    → HaveOneOutcome octets (octets ++ left)
shown_behind octets left fits whole within =
    let x = take (end_of octets) octets in
    let rest = drop (end_of octets) octets in
    let joined : octets ≡ x ++ rest = sym (take-append-drop (end_of octets) octets) in
    let long : length x ≡ end_of octets = length-take-le (end_of octets) octets (omega arith) in
    let two = two_octets octets in
    let header : header_len octets ≡ header_len x = ap header_len joined ∙ header_len-ahead x rest (omega (arith, long, two)) in
    let x_whole : IsHeaderWhole x = (omega (arith, long, two), omega (arith, long, header)) in
    let end : end_of x ≡ length x = sym (end_of-ahead x rest x_whole) ∙ ap end_of (sym joined) ∙ sym long in
    let some : 0 < length rest = omega (arith, length-drop (end_of octets) octets) in
    let found = decided x x_whole end (decide x (octets_front x rest (subst AreOctets joined fits))) in
    let more : octets ++ left ≡ x ++ (rest ++ left) = ap (λ (t : List ℕ). t ++ left) joined ∙ append_assoc x rest left in
    let some_more : 0 < length (rest ++ left) = omega (arith, some, length-append rest left) in
    both_refused octets (octets ++ left) found.0 found.1
    (subst (λ (t : List ℕ). IsFirstFault t (Refused found.0 found.1)) (sym joined) (found.2 rest some))
    (subst (λ (t : List ℕ). IsFirstFault t (Refused found.0 found.1)) (sym more) (found.2 (rest ++ left) some_more))

-- a header that is refused, whatever follows
shown_broken : (octets left : List ℕ) (rule : Rule) → IsBrokenAhead octets rule → HaveOneOutcome octets (octets ++ left)
shown_broken octets left rule broken =
    both_refused octets (octets ++ left) rule 0
    (inl (refused_itself 1 octets rule (subst (λ (t : List ℕ). BreaksFirst rule 1 t) (append-nil octets) (broken.1 []))))
    (inl (refused_itself 1 (octets ++ left) rule (broken.1 left)))

-- a value that is whole in the octets, and has another octet behind it
shown_whole : (octets left : List ℕ) (at : ℕ) → AreOctets octets
    → HasFaultlessHeader (drop at octets) → at + end_of (drop at octets) < length octets
    → HaveOneOutcome (drop at octets) (drop at (octets ++ left))
shown_whole octets left at fits faultless within =
    subst (HaveOneOutcome (drop at octets)) (sym (drop-append-le at octets left (omega (arith, within))))
    (shown_behind (drop at octets) left (octets_behind octets at fits) faultless.0 (omega (arith, within, length-drop at octets)))

-- one of several values that are whole in the octets, with another octet behind them
shown_earlier : (octets left : List ℕ) → AreOctets octets → {most end : ℕ} → ValuesEndAt octets most end → end < length octets
    → (count at : ℕ) → count < most → ValuesEndAt (octets ++ left) count at → HaveOneOutcome (drop at octets) (drop at (octets ++ left))
shown_earlier octets left fits values more count at lt stand =
    let w = each_of values count lt in
    let same : w.0 ≡ at = one_place (values_ahead octets left w.1) stand refl in
    subst (λ (n : ℕ). HaveOneOutcome (drop n octets) (drop n (octets ++ left))) same
    (shown_whole octets left w.0 fits w.2 (omega (arith, w.3, more)))

pub each_shown : EachIsShown
each_shown most octets left fits (at_end end) count at lt stand =
    let same : octets ≡ octets ++ left = sym (ap (λ (t : List ℕ). octets ++ t) end ∙ append-nil octets) in
    subst (λ (t : List ℕ). HaveOneOutcome (drop at octets) (drop at t)) same (one_text (drop at octets))
each_shown most octets left fits (octet_behind values more) count at lt stand =
    shown_earlier octets left fits values more count at lt stand
each_shown most octets left fits (refused_header {count = n} {at = p} rule fewer values broken) count at lt stand =
    let some = some_broken (drop p octets) rule broken in
    let within : p < length octets = omega (arith, some, length-drop p octets) in
    let behind : drop p (octets ++ left) ≡ drop p octets ++ left = drop-append-le p octets left (omega (arith, within)) in
    let values_there = values_ahead octets left values in
    elim (cases_lt count n) [
      | inl earlier ↦ shown_earlier octets left fits values within count at earlier stand
      | inr later ↦ elim (cases_lt n count) [
        -- behind a header that is refused there is no value
        | inl past ↦ (let w = each_of stand n past in
            let same : w.0 ≡ p = one_place w.1 values_there refl in
            let whole = subst (λ (k : ℕ). HasFaultlessHeader (drop k (octets ++ left))) same w.2 in
            absurd ((subst HasFaultlessHeader behind whole).1 rule broken.0 (broken.1 left).0))
        | inr here ↦ (let same : p ≡ at = one_place values_there stand (omega (arith, later, here)) in
            subst (λ (k : ℕ). HaveOneOutcome (drop k octets) (drop k (octets ++ left))) same
            (subst (HaveOneOutcome (drop p octets)) (sym behind) (shown_broken (drop p octets) left rule broken)))
      ]
    ]

pub one_shown : OneIsShown
one_shown octets left fits enough = each_shown 1 octets left fits enough 0 0 (omega arith) none

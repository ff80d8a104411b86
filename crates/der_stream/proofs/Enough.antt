-- Why the octets that were read are enough, and fewer would not be.
use Rattle.std.proofs.Common.{◌≡◌, ℕ, ◌+◌, ◌<◌, ◌≤◌, arith, List, ◌++◌, length, drop, refl, sym, ap, ◌∙◌, subst, inl, inr, true, Option, Some}
use Rattle.std.proofs.lemmas.Bool.{cases_lt}
use Rattle.std.proofs.lemmas.List.{length-append, length-drop, length-take}
use lib.Seq.{drop-append-le}
use Rattle.std.specs.Io.{StartsWith}
use Rattle.der.specs.declared.fault.Rule.{Rule}
use Rattle.der.specs.Length.{end_of}
use Rattle.der.specs.Header.{IsBrokenAhead}
use Rattle.der_stream.specs.Stream.{HasFaultlessHeader}
use Rattle.der_stream.specs.Front.{ValuesEndAt, one_more, IsEnough, at_end, octet_behind, refused_header, AreAllNeeded, IsFilled, HasNoValue, IsWholeOrNone}
use Rattle.der_stream.proofs.Counted.{values_ahead, values_behind, one_place, each_of, some_broken}

-- all octets were values, and another was read behind them
pub next_value : (count : ℕ) (held after : List ℕ) (left : Option (List ℕ)) → StartsWith after held
    → ValuesEndAt held count (length held) → IsWholeOrNone (drop (length held) after) left true
    → ValuesEndAt after (count + 1) (length after)
next_value count held after left front stand whole =
    let long : length held ≤ length after = omega (arith, ap length front, length-take (length held) after) in
    let full : length held + end_of (drop (length held) after) ≡ length after
    = omega (arith, long, whole.1, length-drop (length held) after) in
    subst (λ (e : ℕ). ValuesEndAt after (count + 1) e) full
    (one_more (values_behind held after count (length held) front stand) whole.0 (omega (arith, full)))

-- or no other stands there
pub stopped : (count most : ℕ) (held after : List ℕ) (left : Option (List ℕ)) → count < most → StartsWith after held
    → ValuesEndAt held count (length held) → HasNoValue (drop (length held) after) left
    → IsEnough most after left
stopped count most held after left fewer front stand no_value = elim no_value.reason [
  | inl end ↦ at_end end
  | inr (rule, broken) ↦ refused_header rule fewer (values_behind held after count (length held) front stand) broken
]

-- and then fewer octets would not be enough
pub needed_to_stop : (count most : ℕ) (held after : List ℕ) (left : Option (List ℕ)) → count < most → StartsWith after held
    → ValuesEndAt held count (length held) → HasNoValue (drop (length held) after) left
    → AreAllNeeded most after
needed_to_stop count most held after left fewer start stand no_value front behind joined some enough =
    not_enough enough
  where
    there : ValuesEndAt after count (length held)
    there = values_behind held after count (length held) start stand

    long : length held ≤ length after
    long = omega (arith, ap length start, length-take (length held) after)

    ahead : (n q : ℕ) → ValuesEndAt front n q → ValuesEndAt after n q
    ahead n q values = subst (λ (t : List ℕ). ValuesEndAt t n q) (sym joined) (values_ahead front behind values)

    -- no more values are whole
    no_more : (n q : ℕ) → count < n → ValuesEndAt after n q → q ≤ length after → ⊥
    no_more n q more values within =
        let w = each_of values count more in
        let same : w.0 ≡ length held = one_place w.1 there refl in
        let faultless = subst (λ (k : ℕ). HasFaultlessHeader (drop k after)) same w.2 in
        let end : end_of (drop w.0 after) ≡ end_of (drop (length held) after) = ap (λ (k : ℕ). end_of (drop k after)) same in
        let cut = no_value.cut faultless in
        omega (arith, cut, w.3, within, end, same, long, length-drop (length held) after)

    -- and those that are whole are not refused
    whole_there : (n q : ℕ) (rule : Rule) → n < count → ValuesEndAt after n q → IsBrokenAhead (drop q front) rule
        → drop q after ≡ drop q front ++ behind → ⊥
    whole_there n q rule earlier values broken split =
        let w = each_of there n earlier in
        let same : w.0 ≡ q = one_place w.1 values refl in
        let faultless : HasFaultlessHeader (drop q after) = subst (λ (k : ℕ). HasFaultlessHeader (drop k after)) same w.2 in
        (subst HasFaultlessHeader split faultless).1 rule broken.0 (broken.1 behind).0

    not_enough : IsEnough most front (Some behind) → ⊥
    not_enough (at_end end) = omega (arith, some, ap length end)
    not_enough (octet_behind {at = q} values more) =
        no_more most q fewer (ahead most q values) (omega (arith, more, ap length joined, length-append front behind))
    not_enough (refused_header {count = n} {at = q} rule lt values broken) =
        let octet = some_broken (drop q front) rule broken in
        let within : q < length front = omega (arith, octet, length-drop q front) in
        let split : drop q after ≡ drop q front ++ behind = ap (drop q) joined ∙ drop-append-le q front behind (omega (arith, within)) in
        elim (cases_lt count n) [
          | inl past ↦ no_more n q past (ahead n q values) (omega (arith, within, ap length joined, length-append front behind))
          | inr not_past ↦ elim (cases_lt n count) [
            | inl earlier ↦ whole_there n q rule earlier (ahead n q values) broken split
            | inr here ↦ (let same : q ≡ length held = one_place (ahead n q values) there (omega (arith, not_past, here)) in
                let split_there = subst (λ (k : ℕ). drop k after ≡ drop q front ++ behind) same split in
                no_value.needed (drop q front) behind rule split_there some broken)
          ]
        ]

-- or they were enough, and an octet was read behind them
pub went_on : (most : ℕ) (held after : List ℕ) (left : Option (List ℕ)) → StartsWith after held → ValuesEndAt held most (length held)
    → IsFilled (length held + 1) after left → IsEnough most after left
went_on most held after left front stand (inl more) =
    octet_behind (values_behind held after most (length held) front stand) (omega (arith, more))
went_on most held after left front stand (inr end) = at_end end

-- nor would fewer be
pub needed_behind : (most : ℕ) (held after : List ℕ) → StartsWith after held
    → ValuesEndAt held most (length held) → length after ≤ length held + 1
    → AreAllNeeded most after
needed_behind most held after start stand within front behind joined some enough = not_enough enough
  where
    there : ValuesEndAt after most (length held)
    there = values_behind held after most (length held) start stand

    ahead : (n q : ℕ) → ValuesEndAt front n q → ValuesEndAt after n q
    ahead n q values = subst (λ (t : List ℕ). ValuesEndAt t n q) (sym joined) (values_ahead front behind values)

    not_enough : IsEnough most front (Some behind) → ⊥
    not_enough (at_end end) = omega (arith, some, ap length end)
    not_enough (octet_behind {at = q} values more) =
        let same : q ≡ length held = one_place (ahead most q values) there refl in
        omega (arith, same, more, within, some, ap length joined, length-append front behind)
    not_enough (refused_header {count = n} {at = q} rule fewer values broken) =
        let octet = some_broken (drop q front) rule broken in
        let split : drop q after ≡ drop q front ++ behind
        = ap (drop q) joined ∙ drop-append-le q front behind (omega (arith, octet, length-drop q front)) in
        let w = each_of there n fewer in
        let same : w.0 ≡ q = one_place w.1 (ahead n q values) refl in
        let faultless : HasFaultlessHeader (drop q after) = subst (λ (k : ℕ). HasFaultlessHeader (drop k after)) same w.2 in
        (subst HasFaultlessHeader split faultless).1 rule broken.0 (broken.1 behind).0

-- Which rule a header breaks first.
use Rattle.std.proofs.Common.{◌≡◌, ◌≢◌, ℕ, ◌+◌, ◌-◌, ◌<◌, ◌≤◌, List, length, get_or, take, drop, refl, arith, false, inl, inr}
use Rattle.std.proofs.lemmas.Bool.{le-ltb, lt-ltb, cases_lt}
use Rattle.std.proofs.lemmas.List.{length-drop}
use Rattle.der.specs.declared.fault.Rule.{Rule}
use Rattle.der.specs.declared.fault.Rule.TheVariants.{TagForm, LengthForm, TooLong, Truncated, TooDeep, Content, Trailing}
use Rattle.der.specs.Identifier.{is_refused}
use Rattle.der.specs.Length.{number, contents_limit, header_len, contents_len, end_of}
use Rattle.der.specs.FirstFault.{Breaks, BreaksFirst}
use Rattle.der.specs.Fault.{rule_number}
use Rattle.der.specs.Header.{KeepsLength}
use Rattle.der.proofs.Numbers.{IsPastLimit, number-long}

pub header_len-long : (text : List ℕ) → 128 ≤ get_or text 1 0 → header_len text ≡ get_or text 1 0 - 126
header_len-long text long = rw (le-ltb (get_or text 1 0) 128 long) refl

pub contents_len-long : (text : List ℕ) → 128 ≤ get_or text 1 0 → contents_len text ≡ number (take (get_or text 1 0 - 128) (drop 2 text))
contents_len-long text long = rw (le-ltb (get_or text 1 0) 128 long) refl

pub too_long : (text : List ℕ) → 128 ≤ get_or text 1 0 → get_or text 1 0 ≢ 128 → get_or text 1 0 ≢ 255 → 2 + (get_or text 1 0 - 128) ≤ length text → get_or text 2 0 ≢ 0 → IsPastLimit (get_or text 1 0 - 128) (get_or text 2 0)
    → (depth : ℕ) → Breaks TooLong depth text × (1 < 3) × (3 < 5) × KeepsLength text TooLong
too_long text long not_128 not_255 whole high past depth =
    let len = header_len-long text long in
    let number_is = contents_len-long text long in
    let bound : contents_limit ≤ contents_len text = rw number_is (number-long text (get_or text 1 0 - 128) whole past (omega arith)) in
    (((omega arith, omega arith), bound), omega arith, omega arith, keeps)
  where
    keeps : KeepsLength text TooLong
    keeps TagForm low up b = omega arith
    keeps LengthForm low up (_, inl e) = not_128 e
    keeps LengthForm low up (_, inr (inl e)) = not_255 e
    keeps LengthForm low up (_, inr (inr (w, (_, inl e)))) = high e
    keeps LengthForm low up (_, inr (inr (w, (_, inr lt)))) =
        let number_is = contents_len-long text long in
        let bound : contents_limit ≤ contents_len text = rw number_is (number-long text (get_or text 1 0 - 128) whole past (omega arith)) in
        omega arith
    keeps TooLong low up b = omega arith
    keeps Truncated low up b = omega arith
    keeps TooDeep low up b = omega arith
    keeps Content low up b = omega arith
    keeps Trailing low up b = omega arith

-- behind an identifier that isn't refused
pub first_by_length : (text : List ℕ) (rule : Rule) → is_refused (get_or text 0 0) ≡ false → ((depth : ℕ) → Breaks rule depth text × (1 < rule_number rule) × (rule_number rule < 5) × KeepsLength text rule)
    → (depth : ℕ) → (rule_number rule < 5) × BreaksFirst rule depth text
first_by_length text rule accepted broken depth = ((broken depth).2, ((broken depth).0, earlier))
  where
    earlier : (other : Rule) → rule_number other < rule_number rule → Breaks other depth text → ⊥
    earlier TagForm lt (_, r) = absurd cc
    earlier LengthForm lt b = (broken depth).3 LengthForm (omega arith) lt b
    earlier TooLong lt b = (broken depth).3 TooLong (omega arith) lt b
    earlier Truncated lt b = (broken depth).3 Truncated (omega arith) lt b
    earlier TooDeep lt b = let h = (broken depth).2 in omega arith
    earlier Content lt b = let h = (broken depth).2 in omega arith
    earlier Trailing lt b = let h = (broken depth).2 in omega arith

-- a value has at least two octets, so that fewer are behind it
pub two_octets : (text : List ℕ) → 2 ≤ header_len text
two_octets text = elim (cases_lt (get_or text 1 0) 128) [ inl a ↦ rw (lt-ltb (get_or text 1 0) 128 a) (omega arith) | inr a ↦ rw (le-ltb (get_or text 1 0) 128 a) (omega arith) ]

shorter_by : (octets : List ℕ) (e : ℕ) → 2 ≤ e → 0 < length octets → length (drop e octets) < length octets
shorter_by octets e two some = omega (arith, length-drop e octets)

two_at_least : (h c : ℕ) → 2 ≤ h → 2 ≤ h + c
two_at_least h c two = omega arith

pub shorter : (octets : List ℕ) → 0 < length octets → length (drop (end_of octets) octets) < length octets
shorter octets some = shorter_by octets (end_of octets) (two_at_least _ _ (two_octets octets)) some

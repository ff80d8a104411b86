-- No value has more octets than 6 in its header and 2^28 - 1 behind it.
use Rattle.std.proofs.Common.{◌≡◌, ◌≢◌, ℕ, zero, suc, ◌+◌, ◌*◌, ◌-◌, ◌^◌, ◌<◌, ◌≤◌, List, ◌∷◌, Option, Some, None, IfSome, length, get_or, take, drop, refl, arith, inl, inr}
use Rattle.std.proofs.Math.Nat.{pow-suc}
use Rattle.std.proofs.lemmas.Bool.{le-ltb, lt-ltb, cases_lt}
use Rattle.der.specs.declared.fault.Rule.TheVariants.{LengthForm, TooLong}
use Rattle.der.specs.Length.{number, contents_limit, header_len, contents_len, end_of}
use Rattle.der_stream.specs.declared.reading.ReadFault.{ReadFault}
use Rattle.der_stream.specs.declared.reading.ReadFault.TheVariants.{Fault, Limit, Io}
use Rattle.der_stream.specs.Stream.{HasFaultlessHeader, TakesFault}
use Rattle.der_stream.specs.Sequence.{BeginsFrom, NoneIsPast}

positive_power : (n : ℕ) → 0 < 256 ^ n
positive_power zero = omega arith
positive_power (suc n) = rw pow-suc (let before = positive_power n in omega arith)

-- the number of five octets or more, of which the first is not 0
five : (a b c d e : ℕ) (octets : List ℕ) → 0 < a → contents_limit ≤ number (a ∷ b ∷ c ∷ d ∷ e ∷ octets)
five a b c d e octets positive =
    let n = length octets in
    let least = positive_power n in
    let one = pow-suc 256 n in
    let two = pow-suc 256 (suc n) in
    let three = pow-suc 256 (suc (suc n)) in
    let four = pow-suc 256 (suc (suc (suc n))) in
    let big : 4294967296 ≤ 256 ^ (suc (suc (suc (suc n)))) = omega arith in
    let bigger : 256 ^ (suc (suc (suc (suc n)))) ≤ a * 256 ^ (suc (suc (suc (suc n)))) = grind arith in
    omega arith

past_limit : (text : List ℕ) (k : ℕ) → 2 + k ≤ length text → 5 ≤ k → 0 < get_or text 2 0 → contents_limit ≤ number (take k (drop 2 text))
past_limit (i ∷ l ∷ a ∷ b ∷ c ∷ d ∷ e ∷ octets) (suc (suc (suc (suc (suc k))))) whole many positive = five a b c d e (take k octets) positive
past_limit text k whole many positive = absurd (omega arith)

-- a header that breaks no rule tells no more contents than there may be
bounded : (text : List ℕ) → HasFaultlessHeader text → contents_len text < contents_limit
bounded text faultless =
    elim (cases_lt (contents_len text) contents_limit) [
      | inl less ↦ less
      | inr most ↦ absurd (faultless.1 TooLong (omega arith) (faultless.0, most))
    ]

not_zero : (text : List ℕ) → HasFaultlessHeader text → 128 ≤ get_or text 1 0 → get_or text 2 0 ≢ 0
not_zero text faultless long zero_first = faultless.1 LengthForm (omega arith) (faultless.0.0, inr (inr (faultless.0, (long, inl zero_first))))

-- no more than four octets follow the first length octet
few : (text : List ℕ) → HasFaultlessHeader text → 128 ≤ get_or text 1 0 → get_or text 1 0 < 133
few text faultless long =
    elim (cases_lt (get_or text 1 0) 133) [
      | inl less ↦ less
      | inr many ↦
          let header : header_len text ≡ get_or text 1 0 - 126 = rw (le-ltb (get_or text 1 0) 128 long) refl in
          let contents : contents_len text ≡ number (take (get_or text 1 0 - 128) (drop 2 text)) = rw (le-ltb (get_or text 1 0) 128 long) refl in
          let positive : 0 < get_or text 2 0 = omega (arith, not_zero text faultless long) in
          let past : contents_limit ≤ contents_len text = rw contents (past_limit text (get_or text 1 0 - 128) (omega (arith, faultless.0.1)) (omega arith) positive) in
          absurd (omega (arith, bounded text faultless, past))
    ]

pub at_most : (text : List ℕ) → HasFaultlessHeader text → end_of text ≤ 268435461
at_most text faultless =
    elim (cases_lt (get_or text 1 0) 128) [
      | inl short ↦ rw (lt-ltb (get_or text 1 0) 128 short) (omega arith)
      | inr long ↦
          let header : header_len text ≡ get_or text 1 0 - 126 = rw (le-ltb (get_or text 1 0) 128 long) refl in
          omega (arith, header, few text faultless long, bounded text faultless)
    ]

-- so none is past the limit
not_past : (behind left : Option (List ℕ)) → IfSome behind (λ text. TakesFault 268435461 behind left Limit → ⊥)
not_past None left = tt
not_past (Some text) None = λ taken. taken
not_past (Some text) (Some left) = λ taken. let most = at_most text taken.0 in omega (arith, most, taken.1)

pub none_past : (old behind left : Option (List ℕ)) (values : List (List ℕ)) (place : ℕ) (fault : ReadFault) → BeginsFrom 268435461 old values behind → TakesFault 268435461 behind left fault
    → NoneIsPast old (Some (place, fault))
none_past None behind left values place fault begins taken = tt
none_past (Some text) None left values place fault begins taken = absurd begins
none_past (Some text) (Some rest) left values place (Fault fault) begins taken = λ same. cc
none_past (Some text) (Some rest) left values place Io begins taken = λ same. cc
none_past (Some text) (Some rest) left values place Limit begins taken = λ same. not_past (Some rest) left taken

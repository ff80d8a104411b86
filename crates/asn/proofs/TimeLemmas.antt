-- Two decimal digits spell one number, and a content spells one time.
use Rattle.std.proofs.Common.{◌≡◌, ◌≤◌, ◌<◌, ◌+◌, ◌*◌, ◌/◌, ◌%◌, ℕ, ℤ, List, [], ◌∷◌, length, slice_index, drop, arith, refl, ap, sym, ◌∙◌, inl, inr, ◌⊎◌, Option, Some, None, IfNone}
use Rattle.asn.specs.Time.{IsUtcTime, IsGeneralizedTime, IsTime, IsTwoDigits, IsTimeInYear}
use Rattle.asn.specs.declared.identifier.TheConstants.{UTC_TIME, GENERALIZED_TIME}

pub IfNone-weaker : {T : Type 0} (o : Option T) (P Q : Type 0) → (P → Q) → IfNone o P → IfNone o Q
IfNone-weaker None P Q weaker p = weaker p
IfNone-weaker (Some x) P Q weaker p = tt

-- two decimal digits spell one number
same_number : (a b : ℕ) → a < 100 → b < 100 → 48 + a / 10 ≡ 48 + b / 10 → 48 + a % 10 ≡ 48 + b % 10 → a ≡ b
same_number a b a_below b_below high low = omega arith

-- a text of eleven octets by its places
pub eleven_octets : (t : List ℕ) → length t ≡ 11
    → t ≡ slice_index t 0 ∷ slice_index t 1 ∷ slice_index t 2 ∷ slice_index t 3 ∷ slice_index t 4 ∷ slice_index t 5 ∷ slice_index t 6 ∷ slice_index t 7 ∷ slice_index t 8 ∷ slice_index t 9 ∷ slice_index t 10 ∷ []
eleven_octets (a ∷ b ∷ c ∷ d ∷ e ∷ f ∷ g ∷ h ∷ i ∷ j ∷ k ∷ []) n = refl
eleven_octets _ n = absurd (omega arith)

-- the century of a UTCTime's two digits
abbrev pub IsCenturyOf : ℕ → ℕ → Type 0
IsCenturyOf number century = ((50 ≤ number) × (century ≡ 1900)) ⊎ ((number < 50) × (century ≡ 2000))

year_of_utc : (number century year : ℕ) → IsCenturyOf number century → 1950 ≤ year → year ≤ 2049 → year % 100 ≡ number → year ≡ century + number
year_of_utc number century year (inl late) first last same = omega arith
year_of_utc number century year (inr early) first last same = omega arith

-- a UTCTime is its year and what follows
pub utc_time_in_year : (text : List ℕ) (number century : ℕ) (s : ℤ) → IsTwoDigits text 0 number → IsCenturyOf number century → IsTime UTC_TIME text s → IsTimeInYear (century + number) (drop 2 text) s
utc_time_in_year text number century s digits is_century is = of_spelled is.spelled where
  of_spelled : ((UTC_TIME ≡ UTC_TIME) × IsUtcTime text is.time) ⊎ ((UTC_TIME ≡ GENERALIZED_TIME) × IsGeneralizedTime text is.time) → IsTimeInYear (century + number) (drop 2 text) s
  of_spelled (inl (_, utc)) =
      let high : slice_index text 0 ≡ 48 + is.time.year % 100 / 10 = ap (λ t. slice_index t 0) utc.spelled in
      let low : slice_index text 1 ≡ 48 + is.time.year % 100 % 10 = ap (λ t. slice_index t 1) utc.spelled in
      let same : is.time.year % 100 ≡ number = same_number (is.time.year % 100) number (omega arith) digits.below (sym high ∙ digits.high) (sym low ∙ digits.low) in
      record {
        time = is.time;
        exists = is.exists;
        in_year = year_of_utc number century is.time.year is_century utc.first_year utc.last_year same;
        spelled = ap (drop 2) utc.spelled;
        value = is.value;
      }
  of_spelled (inr (tags, _)) = absurd (omega arith)

-- and so is a GeneralizedTime
pub generalized_time_in_year : (text : List ℕ) (century number : ℕ) (s : ℤ) → IsTwoDigits text 0 century → IsTwoDigits text 2 number → IsTime GENERALIZED_TIME text s → IsTimeInYear (century * 100 + number) (drop 4 text) s
generalized_time_in_year text century number s first second is = of_spelled is.spelled where
  of_spelled : ((GENERALIZED_TIME ≡ UTC_TIME) × IsUtcTime text is.time) ⊎ ((GENERALIZED_TIME ≡ GENERALIZED_TIME) × IsGeneralizedTime text is.time) → IsTimeInYear (century * 100 + number) (drop 4 text) s
  of_spelled (inl (tags, _)) = absurd (omega arith)
  of_spelled (inr (_, generalized)) =
      let a : slice_index text 0 ≡ 48 + is.time.year / 100 / 10 = ap (λ t. slice_index t 0) generalized.spelled in
      let b : slice_index text 1 ≡ 48 + is.time.year / 100 % 10 = ap (λ t. slice_index t 1) generalized.spelled in
      let c : slice_index text 2 ≡ 48 + is.time.year % 100 / 10 = ap (λ t. slice_index t 2) generalized.spelled in
      let d : slice_index text 3 ≡ 48 + is.time.year % 100 % 10 = ap (λ t. slice_index t 3) generalized.spelled in
      let below : is.time.year ≤ 9999 = generalized.last_year in
      let hundreds : is.time.year / 100 ≡ century = same_number (is.time.year / 100) century (omega arith) first.below (sym a ∙ first.high) (sym b ∙ first.low) in
      let units : is.time.year % 100 ≡ number = same_number (is.time.year % 100) number (omega arith) second.below (sym c ∙ second.high) (sym d ∙ second.low) in
      record {
        time = is.time;
        exists = is.exists;
        in_year = omega arith;
        spelled = ap (drop 4) generalized.spelled;
        value = is.value;
      }

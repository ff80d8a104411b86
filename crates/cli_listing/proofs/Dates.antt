-- Years and months counted one at a time are those of the date.
use Rattle.std.proofs.Common.{◌≡◌, ◌<◌, ◌≤◌, ◌≤ℤ◌, ◌<ℤ◌, ℕ, zero, suc, ◌+◌, ◌-◌, ◌/◌, ◌%◌, ℤ, pos, negsuc, neg_ℤ, ◌+ℤ◌, ◌-ℤ◌, int_le, unsigned_abs, Bool, true, false, T, refl, sym, ap, subst, ◌∙◌, inl, inr, arith, true≢false}
use Rattle.std.proofs.lemmas.Bool.{cases_Bool, cases_lt}
use Rattle.jiff_core.specs.declared.civil.date.Date.{Date}
use Rattle.jiff_core.specs.Date.{epoch_day}
use Rattle.jiff_core.specs.Calendar.{days_from_civil, day_count, IsCivilDate}
use Rattle.jiff_core.proofs.SignedLemmas.{signed_arith}
use Rattle.jiff_core.proofs.CalendarLemmas.{days_from_civil-day_count, day_count-lt_year, day_count-lt_month, day_count-day_of_year, day_count-day, days_in_month_bounds}
use Rattle.jiff_core.proofs.MarchLemmas.{day_count-early}
use Rattle.asn.specs.Time.{CivilTime}
use Rattle.cli_listing.specs.MomentText.{last_begun, year_of, month_of, civil_time, civil_time_in_year, time_on, time_after, generalized, moment_text}

-- ---- counting

has_begun : (a b : ℤ) → a ≤ℤ b → int_le a b ≡ true
has_begun a b h = is_so (int_le a b) h.le
  where
    is_so : (t : Bool) → T t → t ≡ true
    is_so true h = refl
    is_so false h = absurd h

not_begun : (a b : ℤ) → b <ℤ a → int_le a b ≡ false
not_begun a b h = elim (cases_Bool (int_le a b)) [
  | inl begun ↦ absurd (let le : a ≤ℤ b = record { le = passes (int_le a b) begun } in omega (arith, signed_arith, le, h))
  | inr none ↦ none
]
  where
    passes : (t : Bool) → t ≡ true → T t
    passes true e = tt
    passes false e = absurd (true≢false (sym e))

-- each up to the last has begun, and the next has not
pub last_is : (begins : ℕ → ℤ) (more at k last : ℕ) (day : ℤ) → last ≡ at + k → k ≤ more → ((j : ℕ) → j < last → begins (suc j) ≤ℤ day) → day <ℤ begins (suc last) → last_begun begins more at day ≡ last
unfolding last_begun
last_is begins zero at zero last day e few begun next = omega (arith, e)
last_is begins zero at (suc k) last day e few begun next = absurd (omega arith)
last_is begins (suc more) at zero last day e few begun next =
    let same : last ≡ at = omega (arith, e) in
    let none : int_le (begins (suc at)) day ≡ false = not_begun (begins (suc at)) day (subst (λ n. day <ℤ begins (suc n)) same next) in
    rw none (sym same)
last_is begins (suc more) at (suc k) last day e few begun next =
    let yes : int_le (begins (suc at)) day ≡ true = has_begun (begins (suc at)) day (begun at (omega (arith, e))) in
    rw yes (last_is begins more (suc at) k last day (omega (arith, e)) (omega arith) begun next)

-- ---- the date

civil : (d : Date) → IsCivilDate d.year d.month d.day
civil d = (d.year_in, d.month_in, d.day_in)

first_count : day_count (pos 0) 1 1 ≡ 3652425
first_count = day_count-early (pos 0) 9999 1 1 refl (omega arith) (omega arith) (omega arith)

-- a date from the year 0 on, so many days after the first of them
record IsOn (d : Date) (days : ℕ) : Type 0 where
  count : day_count d.year d.month d.day ≡ days + 3652425

is_on : (d : Date) (days : ℕ) → epoch_day d +ℤ pos 4371587 ≡ pos (days + 3652059) → IsOn d days
is_on d days e = record { count = omega (arith, signed_arith, e, days_from_civil-day_count d.year d.month d.day) }

not_before : (d : Date) (days : ℕ) → IsOn d days → d.year <ℤ pos 0 → ⊥
not_before d days on low = let less = day_count-lt_year d.year d.month d.day (pos 0) 1 1 (civil d) (omega arith) low in let here = on.count in omega (arith, less, first_count, here)

natural : (z : ℤ) → (z <ℤ pos 0 → ⊥) → (y : ℕ) × (z ≡ pos y)
natural (pos y) low = (y, refl)
natural (negsuc n) low = absurd (low (omega (arith, signed_arith)))

abbrev pub day_after : ℕ → ℤ
day_after days = pos days -ℤ pos 719528

first_civil : (y : ℕ) → y < 10000 → IsCivilDate (pos y) 1 1
first_civil y small = ((omega (arith, signed_arith), omega (arith, signed_arith, small)), (omega arith, omega arith), (omega arith, omega arith))

-- the first of January of a year that has begun
year_begun : (d : Date) (days y j : ℕ) → IsOn d days → d.year ≡ pos y → j < y → days_from_civil (pos (suc j)) 1 1 ≤ℤ day_after days
year_begun d days y j on is low =
    let first = d.day_in.0 in
    let here = on.count in
    let high = d.year_in.1 in
    let count : day_count (pos (suc j)) 1 1 ≤ day_count d.year d.month d.day = elim (cases_lt (suc j) y) [
      | inl less ↦ (
          let before : pos (suc j) <ℤ d.year = omega (arith, signed_arith, is, less) in
          let small : suc j < 10000 = omega (arith, signed_arith, is, less, high) in
          omega (arith, day_count-lt_year (pos (suc j)) 1 1 d.year d.month d.day (first_civil (suc j) small) first before))
      | inr more ↦ (
          let same : d.year ≡ pos (suc j) = (let e : y ≡ suc j = omega (arith, more, low) in is ∙ ap pos e) in
          let place = day_count-day_of_year d.year d.month d.day first in
          subst (λ z. day_count z 1 1 ≤ day_count d.year d.month d.day) same (omega (arith, place, first)))
    ] in
    omega (arith, signed_arith, count, here, days_from_civil-day_count (pos (suc j)) 1 1)

year_ahead : (d : Date) (days y : ℕ) → IsOn d days → d.year ≡ pos y → day_after days <ℤ days_from_civil (pos (suc y)) 1 1
year_ahead d days y on is =
    let here = on.count in
    let later : d.year <ℤ pos (suc y) = omega (arith, signed_arith, is) in
    let count = day_count-lt_year d.year d.month d.day (pos (suc y)) 1 1 (civil d) (omega arith) later in
    omega (arith, signed_arith, count, here, days_from_civil-day_count (pos (suc y)) 1 1)

month_begun : (d : Date) (days y j : ℕ) → IsOn d days → d.year ≡ pos y → j < d.month → days_from_civil (pos y) (suc j) 1 ≤ℤ day_after days
month_begun d days y j on is low =
    let first = d.day_in.0 in
    let here = on.count in
    let count : day_count d.year (suc j) 1 ≤ day_count d.year d.month d.day = elim (cases_lt (suc j) d.month) [
      | inl less ↦ (
          let last = d.month_in.1 in
          let long = days_in_month_bounds d.year (suc j) in
          let begins : IsCivilDate d.year (suc j) 1 = (d.year_in, (omega arith, omega (arith, less, last)), (omega arith, omega (arith, long))) in
          omega (arith, day_count-lt_month d.year (suc j) 1 d.month d.day begins first less))
      | inr more ↦ (
          let same : d.month ≡ suc j = omega (arith, more, low) in
          let place = day_count-day d.year d.month d.day 1 first (omega arith) in
          subst (λ m. day_count d.year m 1 ≤ day_count d.year d.month d.day) same (omega (arith, place, first)))
    ] in
    subst (λ z. days_from_civil z (suc j) 1 ≤ℤ day_after days) is (omega (arith, signed_arith, count, here, days_from_civil-day_count d.year (suc j) 1))

month_ahead : (d : Date) (days y : ℕ) → IsOn d days → d.year ≡ pos y → day_after days <ℤ days_from_civil (pos y) (suc d.month) 1
month_ahead d days y on is =
    let here = on.count in
    let count = day_count-lt_month d.year d.month d.day (suc d.month) 1 (civil d) (omega arith) (omega arith) in
    subst (λ z. day_after days <ℤ days_from_civil z (suc d.month) 1) is (omega (arith, signed_arith, count, here, days_from_civil-day_count d.year (suc d.month) 1))

day_is : (d : Date) (days y : ℕ) → IsOn d days → d.year ≡ pos y → unsigned_abs (day_after days -ℤ days_from_civil (pos y) d.month 1) + 1 ≡ d.day
day_is d days y on is =
    let first = d.day_in.0 in
    let here = on.count in
    let place = day_count-day d.year d.month d.day 1 first (omega arith) in
    subst (λ z. unsigned_abs (day_after days -ℤ days_from_civil z d.month 1) + 1 ≡ d.day) is
    (let gap : day_after days -ℤ days_from_civil d.year d.month 1 ≡ pos (d.day - 1) = omega (arith, signed_arith, place, here, first, days_from_civil-day_count d.year d.month 1) in
    rw gap (omega (arith, first)))

-- the parts of the date
pub record HasParts (d : Date) (days year : ℕ) : Type 0 where
  pub year_is : d.year ≡ pos year
  pub small : year < 10000
  pub years : year_of (day_after days) ≡ year
  pub months : month_of year (day_after days) ≡ d.month
  pub day : unsigned_abs (day_after days -ℤ days_from_civil (pos year) d.month 1) + 1 ≡ d.day

pub parts_of : (d : Date) (days : ℕ) → epoch_day d +ℤ pos 4371587 ≡ pos (days + 3652059) → (year : ℕ) × HasParts d days year
parts_of d days e =
    let on = is_on d days e in
    let year = natural d.year (not_before d days on) in
    let y = year.0 in
    let is = year.1 in
    let small : y < 10000 = (let high = d.year_in.1 in omega (arith, signed_arith, is, high)) in (
      y,
      record {
        year_is = is;
        small = small;
        years = last_is (λ year. days_from_civil (pos year) 1 1) 9999 0 y y (day_after days) (omega arith) (omega (arith, small)) (λ j low. year_begun d days y j on is low) (year_ahead d days y on is);
        months = last_is (λ month. days_from_civil (pos y) month 1) 11 1 (d.month - 1) d.month (day_after days) (let low = d.month_in.0 in omega (arith, low)) (let high = d.month_in.1 in omega (arith, high)) (λ j low. month_begun d days y j on is low) (month_ahead d days y on is);
        day = day_is d days y on is;
      },
    )

-- the time of the date, as it is counted
pub time_is : (d : Date) (days second year : ℕ) → HasParts d days year
    → ◌≡◌ {A = CivilTime} (record { year = year; month = d.month; day = d.day; hour = second / 3600; minute = second / 60 % 60; second = second % 60 }) (time_on (day_after days) second)
time_is d days second year p =
    let shown : CivilTime = record { year = year; month = d.month; day = d.day; hour = second / 3600; minute = second / 60 % 60; second = second % 60 } in
    let day = sym p.day in
    let same : shown ≡ civil_time year d.month (day_after days) second = (λ i. record { year = year; month = d.month; day = day i; hour = second / 3600; minute = second / 60 % 60; second = second % 60 }) in
    let months : shown ≡ civil_time year (month_of year (day_after days)) (day_after days) second = subst (λ m. shown ≡ civil_time year m (day_after days) second) (sym p.months) same in
    subst (λ y. shown ≡ civil_time_in_year y (day_after days) second) (sym p.years) months

-- ---- moments that are spelled

pub spelled_is : (seconds : ℤ) → neg_ℤ (pos 62167219200) ≤ℤ seconds → seconds ≤ℤ pos 253402300799 → moment_text seconds ≡ generalized (time_after (unsigned_abs (seconds +ℤ pos 62167219200)))
unfolding moment_text
spelled_is seconds low high = rw (has_begun (neg_ℤ (pos 62167219200)) seconds low, has_begun seconds (pos 253402300799) high) refl

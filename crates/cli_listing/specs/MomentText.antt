-- Moments as text: YYYYMMDDHHMMSSZ in Greenwich Mean Time, from 00000101000000Z to 99991231235959Z; before and after, the seconds from
-- 1970-01-01T00:00:00Z.
use Rattle.std.specs.Prelude.{◌≤ℤ◌, ◌<ℤ◌, ℕ, zero, suc, ◌+◌, ◌/◌, ◌%◌, ℤ, pos, neg_ℤ, ◌+ℤ◌, ◌-ℤ◌, int_le, unsigned_abs, ◌&&◌, List, ◌++◌, if◌then◌else◌}
use Rattle.std.specs.Fmt.{signed_decimal}
use Rattle.jiff_core.specs.Calendar.{days_from_civil}
use Rattle.asn.specs.Time.{CivilTime, two_digits, text_after_year}

-- the last of so many more, counted one at a time from this one on, that has begun by a day
unfoldable pub last_begun : (ℕ → ℤ) → ℕ → ℕ → ℤ → ℕ
last_begun begins zero at day = at
last_begun begins (suc more) at day = if int_le (begins (suc at)) day then last_begun begins more (suc at) day else at

-- the year of a day, up to 9999, and the month of the year
abbrev pub year_of : ℤ → ℕ
year_of day = last_begun (λ year. days_from_civil (pos year) 1 1) 9999 0 day

abbrev pub month_of : ℕ → ℤ → ℕ
month_of year day = last_begun (λ month. days_from_civil (pos year) month 1) 11 1 day

-- the date of a day, which has a number from 1970-01-01 on, and the time of day
abbrev pub civil_time : ℕ → ℕ → ℤ → ℕ → CivilTime
civil_time year month day second = record {
  year = year;
  month = month;
  day = unsigned_abs (day -ℤ days_from_civil (pos year) month 1) + 1;
  hour = second / 3600;
  minute = second / 60 % 60;
  second = second % 60;
}

abbrev pub civil_time_in_year : ℕ → ℤ → ℕ → CivilTime
civil_time_in_year year day second = civil_time year (month_of year day) day second

abbrev pub time_on : ℤ → ℕ → CivilTime
time_on day second = civil_time_in_year (year_of day) day second

-- so many seconds after 0000-01-01T00:00:00Z, which is day -719528
unfoldable pub time_after : ℕ → CivilTime
time_after seconds = time_on (pos (seconds / 86400) -ℤ pos 719528) (seconds % 86400)

-- YYYYMMDDHHMMSSZ
abbrev pub generalized : CivilTime → List ℕ
generalized time = two_digits (time.year / 100) ++ two_digits (time.year % 100) ++ text_after_year time

-- the years 0000 to 9999
abbrev pub IsSpellable : ℤ → Type 0
IsSpellable seconds = (neg_ℤ (pos 62167219200) ≤ℤ seconds) × (seconds <ℤ pos 253402300800)

unfoldable pub moment_text : ℤ → List ℕ
moment_text seconds =
    if int_le (neg_ℤ (pos 62167219200)) seconds && int_le seconds (pos 253402300799)
    then generalized (time_after (unsigned_abs (seconds +ℤ pos 62167219200)))
    else signed_decimal seconds

-- UTCTime (X.680 47) and GeneralizedTime (X.680 46) in the forms that DER leaves (X.690 11.7, 11.8)
-- and RFC 5280 narrows (4.1.2.5): Greenwich Mean Time to the second, with no fraction.
use Rattle.std.specs.Prelude.{◌≡◌, ◌↔◌, ◌⊎◌, ◌<◌, ◌≤◌, ◌+◌, ◌-◌, ◌*◌, ◌/◌, ◌%◌, ℕ, List, [], ◌∷◌, ◌++◌, ℤ, pos, ◌+ℤ◌, ◌*ℤ◌, ◌<ℤ◌, codes, slice_index, Bool, ◌&&◌, ◌==◌, nat_lt, nat_le, bytes_eq, if◌then◌else◌, Option, Some, None}
use Rattle.jiff_core.specs.Calendar.{IsCivilDate, days_from_civil, days_in_month}

-- a number below 100 in two decimal digits
abbrev pub two_digits : ℕ → List ℕ
two_digits n = (48 + n / 10) ∷ (48 + n % 10) ∷ []

-- a date, and a time of that day, in Greenwich Mean Time
pub record CivilTime : Type 0 where
  pub year : ℕ
  pub month : ℕ
  pub day : ℕ
  pub hour : ℕ
  pub minute : ℕ
  pub second : ℕ

-- the Gregorian calendar has the date, and the clock the time
pub record IsCivilTime (time : CivilTime) : Type 0 where
  pub date : IsCivilDate (pos time.year) time.month time.day
  pub hour : time.hour ≤ 23
  pub minute : time.minute ≤ 59
  pub second : time.second ≤ 59

-- MMDDHHMMSSZ
abbrev pub text_after_year : CivilTime → List ℕ
text_after_year time =
    two_digits time.month ++ two_digits time.day
    ++ two_digits time.hour ++ two_digits time.minute ++ two_digits time.second ++ codes "Z"

-- YYMMDDHHMMSSZ, which serves the years 1950 to 2049 (RFC 5280 4.1.2.5.1)
pub record IsUtcTime (text : List ℕ) (time : CivilTime) : Type 0 where
  pub first_year : 1950 ≤ time.year
  pub last_year : time.year ≤ 2049
  pub spelled : text ≡ two_digits (time.year % 100) ++ text_after_year time

-- YYYYMMDDHHMMSSZ (RFC 5280 4.1.2.5.2)
pub record IsGeneralizedTime (text : List ℕ) (time : CivilTime) : Type 0 where
  pub last_year : time.year ≤ 9999
  pub spelled :
      text ≡ two_digits (time.year / 100) ++ two_digits (time.year % 100) ++ text_after_year time

-- the content under that tag spells the time: 23 is UTCTime, 24 GeneralizedTime (X.680 8.4)
abbrev pub SpellsTime : ℕ → List ℕ → CivilTime → Type 0
SpellsTime tag text time =
    ((tag ≡ 23) × IsUtcTime text time)
    ⊎ ((tag ≡ 24) × IsGeneralizedTime text time)

-- the seconds from 1970-01-01T00:00:00Z: of the whole days, and of the day
abbrev pub time_value : CivilTime → ℤ
time_value time =
    days_from_civil (pos time.year) time.month time.day *ℤ pos 86_400
    +ℤ pos (time.hour * 3600 + time.minute * 60 + time.second)

-- seconds of a time before the year 10000, as all are that can be spelled
abbrev pub IsBeforeYear10000 : ℤ → Type 0
IsBeforeYear10000 seconds = seconds <ℤ pos 253_402_300_800

-- the content under that tag is the time of that many seconds from 1970-01-01T00:00:00Z
pub record IsTime (tag : ℕ) (text : List ℕ) (seconds : ℤ) : Type 0 where
  pub time : CivilTime
  pub exists : IsCivilTime time
  pub spelled : SpellsTime tag text time
  pub value : seconds ≡ time_value time

-- the two octets of a text from that place on spell the number
pub record IsTwoDigits (text : List ℕ) (at number : ℕ) : Type 0 where
  pub below : number < 100
  pub high : slice_index text at ≡ 48 + number / 10
  pub low : slice_index text (at + 1) ≡ 48 + number % 10

-- the text MMDDHHMMSSZ in a year is that many seconds from 1970-01-01T00:00:00Z
pub record IsTimeInYear (year : ℕ) (text : List ℕ) (seconds : ℤ) : Type 0 where
  pub time : CivilTime
  pub exists : IsCivilTime time
  pub in_year : time.year ≡ year
  pub spelled : text ≡ text_after_year time
  pub value : seconds ≡ time_value time

-- The same as a function, for layouts that have a time: the time that the digits would spell, where it is in the calendar
-- and the text is its spelling.

-- the number that two octets, from that place on, would be as decimal digits
unfoldable pub number_at : List ℕ → ℕ → ℕ
number_at text at = (slice_index text at - 48) * 10 + (slice_index text (at + 1) - 48)

-- the time in a year whose digits end before that place
unfoldable pub time_in_year : ℕ → List ℕ → ℕ → CivilTime
time_in_year year text at =
    record {
      year = year;
      month = number_at text at;
      day = number_at text (at + 2);
      hour = number_at text (at + 4);
      minute = number_at text (at + 6);
      second = number_at text (at + 8);
    }

-- 19YY from 50 on, and else 20YY
unfoldable pub year_of_utc : ℕ → ℕ
year_of_utc number = if nat_lt number 50 then 2000 + number else 1900 + number

unfoldable pub is_in_range : ℕ → ℕ → ℕ → Bool
is_in_range low high n = nat_le low n && nat_le n high

unfoldable pub is_civil_date : ℕ → ℕ → ℕ → Bool
is_civil_date year month day =
    nat_le year 9999 && (is_in_range 1 12 month && is_in_range 1 (days_in_month (pos year) month) day)

unfoldable pub is_clock_time : ℕ → ℕ → ℕ → Bool
is_clock_time hour minute second = nat_le hour 23 && (nat_le minute 59 && nat_le second 59)

unfoldable pub is_civil_time : CivilTime → Bool
is_civil_time time =
    is_civil_date time.year time.month time.day && is_clock_time time.hour time.minute time.second

unfoldable pub is_utc_time : List ℕ → CivilTime → Bool
is_utc_time text time =
    is_in_range 1950 2049 time.year
    && bytes_eq text (two_digits (time.year % 100) ++ text_after_year time)

unfoldable pub is_generalized_time : List ℕ → CivilTime → Bool
is_generalized_time text time =
    bytes_eq text (two_digits (time.year / 100) ++ two_digits (time.year % 100) ++ text_after_year time)

unfoldable pub utc_time_in : List ℕ → CivilTime
utc_time_in text = time_in_year (year_of_utc (number_at text 0)) text 2

unfoldable pub generalized_time_in : List ℕ → CivilTime
generalized_time_in text = time_in_year (number_at text 0 * 100 + number_at text 2) text 4

-- the seconds of a time that is one
abbrev pub seconds_where : Bool → CivilTime → Option ℤ
seconds_where is_time time = if is_time then Some (time_value time) else None

abbrev pub seconds_of_utc : List ℕ → CivilTime → Option ℤ
seconds_of_utc text time = seconds_where (is_civil_time time && is_utc_time text time) time

abbrev pub seconds_of_generalized : List ℕ → CivilTime → Option ℤ
seconds_of_generalized text time = seconds_where (is_civil_time time && is_generalized_time text time) time

-- the seconds from 1970-01-01T00:00:00Z of a content under a tag, where it is a time
unfoldable pub seconds_in : ℕ → List ℕ → Option ℤ
seconds_in tag text =
    if tag == 23 then seconds_of_utc text (utc_time_in text)
    else (if tag == 24 then seconds_of_generalized text (generalized_time_in text) else None)

-- and these are the seconds of which the content is the time
abbrev pub TimeIsExact : Type 0
TimeIsExact = (tag : ℕ) (text : List ℕ) (seconds : ℤ) → (seconds_in tag text ≡ Some seconds) ↔ IsTime tag text seconds

-- a content under a tag has at most one count of seconds
abbrev pub TimesAreUnique : Type 0
TimesAreUnique =
    (tag : ℕ) (text : List ℕ) (one other : ℤ)
    → IsTime tag text one → IsTime tag text other → one ≡ other

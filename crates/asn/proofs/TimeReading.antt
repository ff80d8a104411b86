-- The reading of a time gives the seconds of which a content is the time.
use Rattle.std.proofs.Common.{rules, ◌≡◌, ◌⊎◌, ◌≤◌, ◌<◌, ◌+◌, ◌-◌, ◌*◌, ◌/◌, ◌%◌, ◌==◌, ◌&&◌, ℕ, ℤ, pos, Bool, true, false, List, ◌++◌, Option, Some, None, IfSome, IfNone, arith, refl, ap, sym, ◌∙◌, inl, inr, subst}
use Rattle.std.specs.Prelude.{nat_le, nat_lt, if◌then◌else◌, T}
use Rattle.std.specs.Bool.{Decides}
use Rattle.std.proofs.lemmas.Bool.{eqb-true, leb-true, le-leb, ltb-true, ltb-false}
use Rattle.std.proofs.lemmas.Bool.Decides.{Decides-and}
use Rattle.std.proofs.lemmas.Float.{T_from_true}
use Rattle.std.proofs.lemmas.Slice.Eq.{bytes_eq-Decides}
use Rattle.jiff_core.specs.Calendar.{IsCivilDate, IsYear, days_in_month}
use Rattle.asn.specs.Time.{CivilTime, IsCivilTime, IsUtcTime, IsGeneralizedTime, IsTime, SpellsTime, two_digits, text_after_year, time_value, number_at, time_in_year, year_of_utc, is_in_range, is_civil_date, is_clock_time, is_civil_time, is_utc_time, is_generalized_time, utc_time_in, generalized_time_in, seconds_where, seconds_in}

le : (a b : ℕ) → Decides (nat_le a b) (a ≤ b)
le a b = (leb-true a b, le-leb a b)

is_true : (b : Bool) → Decides b (b ≡ true)
is_true b = (λ e. e, λ e. e)

true_from_T : (b : Bool) → T b → b ≡ true
true_from_T true t = refl
true_from_T false t = absurd t

-- the digits of a number spell it
read_back : (n : ℕ) → (48 + n / 10 - 48) * 10 + (48 + n % 10 - 48) ≡ n
read_back n = omega arith

all_three : {P Q R : Type 0} (x y z : Bool) → Decides x P → Decides y Q → Decides z R → Decides (x && (y && z)) (P × Q × R)
all_three x y z p q r =
    let both = Decides-and x (y && z) p (Decides-and y z q r) in
    (λ e. let h = both.0 e in (h.0, h.1.0, h.1.1), λ h. both.1 (h.0, (h.1, h.2)))

range : (low high n : ℕ) → Decides (is_in_range low high n) ((low ≤ n) × (n ≤ high))
unfolding is_in_range
range low high n = Decides-and _ _ (le low n) (le n high)

is_year : (y : ℕ) → nat_le y 9999 ≡ true → IsYear (pos y)
is_year y h = search (rules, T_from_true (nat_le y 9999) h)

year_is : (y : ℕ) → IsYear (pos y) → nat_le y 9999 ≡ true
year_is y h = true_from_T (nat_le y 9999) h.1.le

date : (y m d : ℕ) → Decides (is_civil_date y m d) (IsCivilDate (pos y) m d)
unfolding is_civil_date
date y m d = all_three _ _ _ (is_year y, year_is y) (range 1 12 m) (range 1 (days_in_month (pos y) m) d)

clock : (h m s : ℕ) → Decides (is_clock_time h m s) ((h ≤ 23) × (m ≤ 59) × (s ≤ 59))
unfolding is_clock_time
clock h m s = all_three _ _ _ (le h 23) (le m 59) (le s 59)

civil : (t : CivilTime) → Decides (is_civil_time t) (IsCivilTime t)
unfolding is_civil_time
civil t =
    let both = Decides-and _ _ (date t.year t.month t.day) (clock t.hour t.minute t.second) in
    (λ e. let h = both.0 e in record { date = h.0; hour = h.1.0; minute = h.1.1; second = h.1.2 }, λ is. both.1 (is.date, (is.hour, is.minute, is.second)))

utc : (text : List ℕ) (t : CivilTime) → Decides (is_utc_time text t) (IsUtcTime text t)
unfolding is_utc_time
utc text t =
    let both = Decides-and _ _ (range 1950 2049 t.year) (bytes_eq-Decides text (two_digits (t.year % 100) ++ text_after_year t)) in
    (λ e. let h = both.0 e in record { first_year = h.0.0; last_year = h.0.1; spelled = h.1 }, λ is. both.1 ((is.first_year, is.last_year), is.spelled))

generalized : (text : List ℕ) (t : CivilTime) → t.year ≤ 9999 → Decides (is_generalized_time text t) (IsGeneralizedTime text t)
unfolding is_generalized_time
generalized text t last =
    let spelled = bytes_eq-Decides text (two_digits (t.year / 100) ++ two_digits (t.year % 100) ++ text_after_year t) in
    (λ e. record { last_year = last; spelled = spelled.0 e }, λ is. spelled.1 is.spelled)

same_time : (year month day hour minute second : ℕ) (t : CivilTime) → year ≡ t.year → month ≡ t.month → day ≡ t.day → hour ≡ t.hour → minute ≡ t.minute → second ≡ t.second
    → record { year = year; month = month; day = day; hour = hour; minute = minute; second = second } ≡ t
same_time year month day hour minute second t y mo d h mi s = rw (y, mo, d, h, mi, s) refl

century : (b : Bool) (n : ℕ) → nat_lt n 50 ≡ b → ((year_of_utc n ≡ 2000 + n) × (n < 50)) ⊎ ((year_of_utc n ≡ 1900 + n) × (50 ≤ n))
unfolding year_of_utc
century true n e = inl (rw e refl, ltb-true n 50 e)
century false n e = inr (rw e refl, ltb-false n 50 e)

year_again : (y : ℕ) → 1950 ≤ y → y ≤ 2049 → year_of_utc (y % 100) ≡ y
year_again y first last = by (century (nat_lt (y % 100) 50) (y % 100) refl) where
  by : ((year_of_utc (y % 100) ≡ 2000 + y % 100) × (y % 100 < 50)) ⊎ ((year_of_utc (y % 100) ≡ 1900 + y % 100) × (50 ≤ y % 100)) → year_of_utc (y % 100) ≡ y
  by (inl (e, h)) = omega arith
  by (inr (e, h)) = omega arith

utc_again : (t : CivilTime) → 1950 ≤ t.year → t.year ≤ 2049 → utc_time_in (two_digits (t.year % 100) ++ text_after_year t) ≡ t
unfolding utc_time_in time_in_year number_at
utc_again t first last =
    same_time _ _ _ _ _ _ t (ap year_of_utc (read_back (t.year % 100)) ∙ year_again t.year first last) (read_back t.month) (read_back t.day) (read_back t.hour) (read_back t.minute) (read_back t.second)

year_by_two : (y : ℕ) → ((48 + y / 100 / 10 - 48) * 10 + (48 + y / 100 % 10 - 48)) * 100 + ((48 + y % 100 / 10 - 48) * 10 + (48 + y % 100 % 10 - 48)) ≡ y
year_by_two y = omega (arith, read_back (y / 100), read_back (y % 100))

generalized_again : (t : CivilTime) → generalized_time_in (two_digits (t.year / 100) ++ two_digits (t.year % 100) ++ text_after_year t) ≡ t
unfolding generalized_time_in time_in_year number_at
generalized_again t =
    same_time _ _ _ _ _ _ t (year_by_two t.year) (read_back t.month) (read_back t.day) (read_back t.hour) (read_back t.minute) (read_back t.second)

where_true : (b : Bool) (t : CivilTime) (s : ℤ) → seconds_where b t ≡ Some s → (b ≡ true) × (s ≡ time_value t)
where_true true t s e = (refl, cc)
where_true false t s e = absurd cc

of_utc : (text : List ℕ) (t : CivilTime) (s : ℤ) → seconds_where (is_civil_time t && is_utc_time text t) t ≡ Some s → IsTime 23 text s
of_utc text t s e =
    let w = where_true (is_civil_time t && is_utc_time text t) t s e in
    let h = (Decides-and _ _ (civil t) (utc text t)).0 w.0 in
    record { time = t; exists = h.0; spelled = inl (refl, h.1); value = w.1 }

below_10000 : (t : CivilTime) → is_civil_time t ≡ true → t.year ≤ 9999
below_10000 t e = (le t.year 9999).0 (year_is t.year ((civil t).0 e).date.0)

of_generalized : (text : List ℕ) (t : CivilTime) (s : ℤ) → seconds_where (is_civil_time t && is_generalized_time text t) t ≡ Some s → IsTime 24 text s
of_generalized text t s e =
    let w = where_true (is_civil_time t && is_generalized_time text t) t s e in
    let both = Decides-and _ _ (is_true (is_civil_time t)) (is_true (is_generalized_time text t)) in
    let h = both.0 w.0 in
    record { time = t; exists = (civil t).0 h.0; spelled = inr (refl, (generalized text t (below_10000 t h.0)).0 h.1); value = w.1 }

-- the tests of the tag, one after the other
by_tag : (tag : ℕ) (a b : Option ℤ) (s : ℤ) → (if tag == 23 then a else (if tag == 24 then b else None)) ≡ Some s → ((tag ≡ 23) × (a ≡ Some s)) ⊎ ((tag ≡ 24) × (b ≡ Some s))
by_tag tag a b s e = by (tag == 23) (tag == 24) refl refl e where
  by : (u g : Bool) → (tag == 23) ≡ u → (tag == 24) ≡ g → (if u then a else (if g then b else None)) ≡ Some s → ((tag ≡ 23) × (a ≡ Some s)) ⊎ ((tag ≡ 24) × (b ≡ Some s))
  by true g is_utc is_generalized e = inl (eqb-true tag 23 is_utc, e)
  by false true is_utc is_generalized e = inr (eqb-true tag 24 is_generalized, e)
  by false false is_utc is_generalized e = absurd cc

pub time_of : (tag : ℕ) (text : List ℕ) (s : ℤ) → seconds_in tag text ≡ Some s → IsTime tag text s
unfolding seconds_in
time_of tag text s e = of (by_tag tag _ _ s e) where
  of : ((tag ≡ 23) × (seconds_where (is_civil_time (utc_time_in text) && is_utc_time text (utc_time_in text)) (utc_time_in text) ≡ Some s)) ⊎ ((tag ≡ 24) × (seconds_where (is_civil_time (generalized_time_in text) && is_generalized_time text (generalized_time_in text)) (generalized_time_in text) ≡ Some s)) → IsTime tag text s
  of (inl (t, e)) = subst (λ k. IsTime k text s) (sym t) (of_utc text (utc_time_in text) s e)
  of (inr (t, e)) = subst (λ k. IsTime k text s) (sym t) (of_generalized text (generalized_time_in text) s e)

utc_seconds : (text : List ℕ) (t : CivilTime) → IsCivilTime t → IsUtcTime text t → seconds_where (is_civil_time (utc_time_in text) && is_utc_time text (utc_time_in text)) (utc_time_in text) ≡ Some (time_value t)
utc_seconds text t exists is =
    let same : utc_time_in text ≡ t = ap utc_time_in is.spelled ∙ utc_again t is.first_year is.last_year in
    let civil_true = (civil t).1 exists in
    let utc_true = (utc text t).1 is in
    rw (same, civil_true, utc_true) refl

generalized_seconds : (text : List ℕ) (t : CivilTime) → IsCivilTime t → IsGeneralizedTime text t → seconds_where (is_civil_time (generalized_time_in text) && is_generalized_time text (generalized_time_in text)) (generalized_time_in text) ≡ Some (time_value t)
generalized_seconds text t exists is =
    let same : generalized_time_in text ≡ t = ap generalized_time_in is.spelled ∙ generalized_again t in
    let civil_true = (civil t).1 exists in
    let generalized_true = (generalized text t is.last_year).1 is in
    rw (same, civil_true, generalized_true) refl

pub seconds_again : (tag : ℕ) (text : List ℕ) (s : ℤ) → IsTime tag text s → seconds_in tag text ≡ Some s
unfolding seconds_in
seconds_again tag text s is = of is.spelled where
  of : SpellsTime tag text is.time → seconds_in tag text ≡ Some s
  of (inl (t, utc)) = rw t (utc_seconds text is.time is.exists utc ∙ ap (λ (z : ℤ). Some z) (sym is.value))
  of (inr (t, generalized)) = rw t (generalized_seconds text is.time is.exists generalized ∙ ap (λ (z : ℤ). Some z) (sym is.value))

-- what the code answers is the reading
pub reading_is : (tag : ℕ) (text : List ℕ) (answer : Option ℤ) → IfSome answer (IsTime tag text) → IfNone answer ((seconds : ℤ) → IsTime tag text seconds → ⊥) → answer ≡ seconds_in tag text
reading_is tag text (Some s) some none = sym (seconds_again tag text s some)
reading_is tag text None some none = nothing (seconds_in tag text) refl where
  nothing : (o : Option ℤ) → seconds_in tag text ≡ o → None ≡ seconds_in tag text
  nothing None e = sym e
  nothing (Some s) e = absurd (none s (time_of tag text s e))

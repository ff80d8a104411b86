-- Dates and times of day as the code has them.
use Rattle.std.specs.Prelude.{◌≡◌, ℕ, pos, ◌-ℤ◌}
use Rattle.asn.specs.Time.{CivilTime}
use Rattle.cli_listing.specs.declared.civil.Civil.{Civil}
use Rattle.cli_listing.specs.MomentText.{time_on}

abbrev pub seen_civil : Civil → CivilTime
seen_civil civil = record {
  year = civil.year;
  month = civil.month;
  day = civil.day;
  hour = civil.hour;
  minute = civil.minute;
  second = civil.second;
}

abbrev pub IsCivilOn : ℕ → ℕ → Civil → Type 0
IsCivilOn days second civil = seen_civil civil ≡ time_on (pos days -ℤ pos 719528) second

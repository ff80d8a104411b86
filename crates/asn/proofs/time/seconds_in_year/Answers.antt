use Rattle.std.proofs.Common.{rules, ◌≡◌, ◌∙◌, ◌+◌, ◌*◌, ℤ, pos, ◌+ℤ◌, ◌*ℤ◌, w32, w64, FitsSigned, arith, refl, ap}
use Rattle.std.proofs.lemmas.Int.{to_z-of_z}
use Rattle.asn.specs.Time.{CivilTime, text_after_year}
use Rattle.asn.proofs.TimeLemmas.{eleven_octets}
use Rattle.asn.proofs.time.seconds_in_year.Goals as goal

pub returns-clause-some : goal.returns-clause-some
returns-clause-some c =
    let time : CivilTime = record {
      year = c.args.year;
      month = c.in_ok-month.month;
      day = c.in_ok-day.day;
      hour = c.in_ok-hour.hour;
      minute = c.in_ok-minute.minute;
      second = c.in_ok-second.second;
    } in
    let second_of_day = time.hour * 3600 + time.minute * 60 + time.second in
    let seconds_fit : FitsSigned w64 c.seconds_from.result = search rules in
    let days_fit : FitsSigned w32 c.in_ok-days.days = search rules in
    let octets = eleven_octets c.args.text.now c.requires.length in
    let spelled : c.args.text.now ≡ text_after_year time = grind (arith, octets, c.in_ok-month.ensures.some, c.in_ok-day.ensures.some, c.in_ok-hour.ensures.some, c.in_ok-minute.ensures.some, c.in_ok-second.ensures.some) in
    record {
      time = time;
      exists = record {
        date = c.in_ok-days.ensures.date;
        hour = omega arith;
        minute = omega arith;
        second = omega arith;
      };
      in_year = refl;
      spelled = spelled;
      value = to_z-of_z w64 c.seconds_from.result seconds_fit ∙ c.seconds_from.ensures.value ∙ ap (λ (days : ℤ). days *ℤ pos 86_400 +ℤ pos second_of_day) (to_z-of_z w32 c.in_ok-days.days days_fit ∙ c.in_ok-days.ensures.some);
    }

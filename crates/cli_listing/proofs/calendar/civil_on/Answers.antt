use Rattle.std.proofs.Common.{◌≡◌, pos, ◌+◌, ◌*◌, ◌/◌, ◌%◌, ◌-ℤ◌, ◌+ℤ◌, ◌*ℤ◌, subst, arith, rules, SFits, w16}
use Rattle.std.proofs.lemmas.Int.{to_z-of_z}
use Rattle.jiff_core.specs.Calendar.{days_from_civil}
use Rattle.jiff_core.proofs.SignedLemmas.{signed_arith}
use Rattle.cli_listing.proofs.Dates.{parts_of, time_is}
use Rattle.cli_listing.proofs.calendar.civil_on.Goals as goal

pub overflow_cast-result : goal.overflow_cast-result
overflow_cast-result c =
    let d = c.from_days_since_min-date.result in
    let p = parts_of d c.args.days c.from_days_since_min-date.ensures in
    let is = p.1.year_is in
    let small = p.1.small in
    let fits : SFits w16 d.year = search rules in
    rw (to_z-of_z w16 d.year fits, is) (tt, omega (arith, small))

pub returns-clause-counted : goal.returns-clause-counted
returns-clause-counted c =
    let d = c.from_days_since_min-date.result in
    let p = parts_of d c.args.days c.from_days_since_min-date.ensures in
    let fits : SFits w16 d.year = search rules in
    rw (to_z-of_z w16 d.year fits, p.1.year_is) (time_is d c.args.days c.args.second p.0 p.1)

pub returns-clause-value : goal.returns-clause-value
returns-clause-value c =
    let d = c.from_days_since_min-date.result in
    let p = parts_of d c.args.days c.from_days_since_min-date.ensures in
    let fits : SFits w16 d.year = search rules in
    let second = c.args.second in
    let day : days_from_civil d.year d.month d.day ≡ pos c.args.days -ℤ pos 719528 = omega (arith, signed_arith, c.from_days_since_min-date.ensures) in
    let here = subst (λ z. days_from_civil z d.month d.day ≡ pos c.args.days -ℤ pos 719528) p.1.year_is day in
    let clock : second / 3600 * 3600 + second / 60 % 60 * 60 + second % 60 ≡ second = omega arith in
    rw (to_z-of_z w16 d.year fits, p.1.year_is) (λ i. here i *ℤ pos 86400 +ℤ pos (clock i))

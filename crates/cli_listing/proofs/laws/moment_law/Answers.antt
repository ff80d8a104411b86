use Rattle.std.proofs.Common.{◌≡◌, ◌≤ℤ◌, pos, neg_ℤ, ◌+ℤ◌, ◌-ℤ◌, unsigned_abs, refl, sym, ap, ◌∙◌, inr, to_z, of_z, w64, arith}
use Rattle.std.proofs.lemmas.Int.{ints}
use Rattle.cli_listing.specs.CivilView.{seen_civil}
use Rattle.cli_listing.specs.MomentText.{moment_text, generalized, time_after}
use Rattle.cli_listing.proofs.Dates.{spelled_is}
use Rattle.cli_listing.proofs.laws.moment_law.Goals as goal

pub returns-then-moment-le-LAST : goal.returns-then-moment-le-LAST
returns-then-moment-le-LAST c spellable =
    let moment = c.args.moment in
    let civil = c.civil_after-civil.result in
    let shown = c.civil_after-civil.ensures in
    let low : neg_ℤ (pos 62167219200) ≤ℤ moment = omega (arith, ints) in
    let high : moment ≤ℤ pos 253402300799 = omega (arith, ints) in
    let same : unsigned_abs (to_z w64 (of_z w64 (to_z w64 (of_z w64 moment) -ℤ neg_ℤ (pos 62167219200)))) ≡ unsigned_abs (moment +ℤ pos 62167219200) = omega (arith, ints) in
    let back : pos (unsigned_abs (to_z w64 (of_z w64 (to_z w64 (of_z w64 moment) -ℤ neg_ℤ (pos 62167219200))))) -ℤ pos 62167219200 ≡ moment = omega (arith, ints) in
    let text : moment_text moment ≡ generalized (seen_civil civil) = spelled_is moment low high ∙ ap (λ n. generalized (time_after n)) (sym same) ∙ ap generalized (sym shown.counted) in
    let last = civil.year_in in
    record { time = seen_civil civil; exists = shown.exists; spelled = inr (refl, record { last_year = omega (arith, last); spelled = text }); value = sym (shown.value ∙ back) }

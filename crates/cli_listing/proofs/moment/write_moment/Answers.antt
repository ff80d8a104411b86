use Rattle.std.proofs.Common.{◌≡◌, ◌≤ℤ◌, pos, neg_ℤ, ◌+ℤ◌, ◌-ℤ◌, unsigned_abs, sym, ap, subst, ◌∙◌, OnOk, to_z, of_z, w64, arith}
use Rattle.std.proofs.lemmas.Int.{ints}
use Rattle.std.specs.Io.KnownBytes.{Appends}
use Rattle.cli_listing.specs.MomentText.{moment_text, generalized, time_after}
use Rattle.cli_listing.proofs.Dates.{spelled_is}
use Rattle.cli_listing.proofs.moment.write_moment.Goals as goal

pub returns-then-moment-le-LAST : goal.returns-then-moment-le-LAST
returns-then-moment-le-LAST g c =
    let moment = c.args.moment in
    let low : neg_ℤ (pos 62167219200) ≤ℤ moment = omega (arith, ints) in
    let high : moment ≤ℤ pos 253402300799 = omega (arith, ints) in
    let after = c.civil_after.ensures.counted in
    let same : unsigned_abs (to_z w64 (of_z w64 (to_z w64 (of_z w64 moment) -ℤ neg_ℤ (pos 62167219200)))) ≡ unsigned_abs (moment +ℤ pos 62167219200) = omega (arith, ints) in
    let text : c.spelled.result ≡ moment_text moment = c.spelled.ensures ∙ ap generalized after ∙ ap (λ n. generalized (time_after n)) same ∙ sym (spelled_is moment low high) in
    subst (λ t. OnOk c.write_all.result (Appends (g.W.Write.contents c.args.writer.now) (g.W.Write.contents c.write_all.new.self) t)) text c.write_all.ensures.bytes

use Rattle.std.proofs.Common.{codes, ◌++◌, refl, SFits, w64, rules}
use Rattle.std.proofs.lemmas.Int.{to_z-of_z}
use Rattle.cli_listing.specs.MomentText.{moment_text}
use Rattle.cli_listing.specs.ListingText.{window_text}
use Rattle.cli_listing.proofs.Writing.{three_end}
use Rattle.cli_listing.proofs.line.write_times.Goals as goal

pub returns : goal.returns
returns g c =
    let said = c.args.said.now in
    let this : SFits w64 said.this_update = search rules in
    let produced : SFits w64 said.produced_at = search rules in
    let from : SFits w64 said.from = search rules in
    let until : SFits w64 said.until = search rules in
    three_end (g.W.Write.contents c.args.writer.now) (g.W.Write.contents c.write_moment_behind.new.writer) (g.W.Write.contents c.write_moment_behind-2.new.writer) (g.W.Write.contents c.write_window.new.writer)
    (codes " this " ++ moment_text said.this_update) (codes " produced " ++ moment_text said.produced_at) (window_text said.from said.until) _ c.write_window.result
    (rw (to_z-of_z w64 said.this_update this) at c.in_ok-write_moment_behind.ensures) (rw (to_z-of_z w64 said.produced_at produced) at c.in_ok-write_moment_behind-2.ensures)
    (rw (to_z-of_z w64 said.from from, to_z-of_z w64 said.until until) at c.write_window.ensures) refl

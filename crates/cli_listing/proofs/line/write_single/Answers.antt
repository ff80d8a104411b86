use Rattle.std.proofs.Common.{refl, SFits, w64, rules}
use Rattle.std.proofs.lemmas.Int.{to_z-of_z}
use Rattle.statements_facts.specs.Answer.{seen_ocsp}
use Rattle.store_listing.specs.Listing.{seen_held_single}
use Rattle.cli_listing.specs.Found.{found_issuer}
use Rattle.cli_listing.specs.ListingText.{single_head_text, times_text, held_status_text, state_at}
use Rattle.cli_listing.proofs.Writing.{four_end}
use Rattle.cli_listing.proofs.line.write_single.Goals as goal

pub returns : goal.returns
returns g c =
    let single = c.args.single.now in
    let from : SFits w64 single.said.from = search rules in
    let until : SFits w64 single.said.until = search rules in
    four_end (g.W.Write.contents c.args.writer.now) (g.W.Write.contents c.write_single_head.new.writer) (g.W.Write.contents c.write_times.new.writer) (g.W.Write.contents c.write_status.new.writer) (g.W.Write.contents c.write_end.new.writer)
    (single_head_text (found_issuer c.args.issuer) (seen_held_single single)) (times_text (seen_ocsp single.said)) (held_status_text single.said.status) (state_at c.args.at single.said.from single.said.until) _ c.write_end.result
    c.in_ok-write_single_head.ensures c.in_ok-write_times.ensures c.in_ok-write_status.ensures (rw (to_z-of_z w64 single.said.from from, to_z-of_z w64 single.said.until until) at c.write_end.ensures) refl

use Rattle.std.proofs.Common.{codes, ◌++◌, refl, SFits, w64, rules}
use Rattle.std.proofs.lemmas.Int.{to_z-of_z}
use Rattle.std.specs.Fmt.{decimal}
use Rattle.store_listing.specs.Listing.{seen_held_list}
use Rattle.cli_listing.specs.Found.{found_issuer}
use Rattle.cli_listing.specs.ListingText.{list_head_text, window_text, state_at}
use Rattle.cli_listing.proofs.Writing.{four_end}
use Rattle.cli_listing.proofs.line.write_list.Goals as goal

pub returns : goal.returns
returns g c =
    let list = c.args.list.now in
    let from : SFits w64 list.head.from = search rules in
    let until : SFits w64 list.head.until = search rules in
    four_end (g.W.Write.contents c.args.writer.now) (g.W.Write.contents c.write_list_head.new.writer) (g.W.Write.contents c.write_window.new.writer) (g.W.Write.contents c.write.new.self) (g.W.Write.contents c.write_end.new.writer)
    (list_head_text (found_issuer c.args.issuer) (seen_held_list list)) (window_text list.head.from list.head.until) (codes " entries " ++ decimal list.entries) (state_at c.args.at list.head.from list.head.until) _ c.write_end.result
    c.in_ok-write_list_head.ensures (rw (to_z-of_z w64 list.head.from from, to_z-of_z w64 list.head.until until) at c.in_ok-write_window.ensures) c.in_ok-write.ensures.bytes (rw (to_z-of_z w64 list.head.from from, to_z-of_z w64 list.head.until until) at c.write_end.ensures) refl

use Rattle.std.proofs.Common.{map, take}
use Rattle.std.specs.List.{flat_map}
use Rattle.std.specs.Io.KnownBytes.{Appends}
use Rattle.store_listing.specs.Listing.{seen_held_issuer, seen_held_single}
use Rattle.cli_listing.specs.ListingText.{single_line_of, IdsRise}
use Rattle.cli_listing.proofs.listed.write_singles.Given as goal

abbrev pub invariant-each : goal.invariant-each
invariant-each g l =
    IdsRise (map seen_held_issuer l.issuers)
    → Appends (g.W.Write.contents l.initial.writer) (g.W.Write.contents l.writer) (flat_map (single_line_of (map seen_held_issuer l.issuers) l.at) (map seen_held_single (take l.single-index l.singles)))

use Rattle.std.proofs.Common.{◌≡◌, map, take}
use Rattle.store_listing.specs.Counts.{held_count}
use Rattle.store_listing.specs.Listing.{seen_keyed, seen_held_list, with_count}
use Rattle.store_listing.proofs.counted.with_counts.Given as goal

abbrev pub invariant-each : goal.invariant-each
invariant-each l = map seen_held_list l.lists.items ≡ map (with_count (held_count l.counts)) (map seen_keyed (take l.keyed-index l.heads))

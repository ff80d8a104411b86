use Rattle.std.proofs.Common.{◌≡◌, map, take}
use Rattle.store_adoption.specs.Seen.{seen_own}
use Rattle.store_migration.specs.Grouped.{seen_unscoped_entry}
use Rattle.store_migration.proofs.grouping.in_place.Given as goal

abbrev pub invariant-each : goal.invariant-each
invariant-each l = map seen_unscoped_entry l.all.items ≡ map seen_own (take l.entry-index l.entries)

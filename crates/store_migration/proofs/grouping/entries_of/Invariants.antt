use Rattle.std.proofs.Common.{◌≡◌, map, take}
use Rattle.statements_facts.specs.Listed.{seen_listed}
use Rattle.store_migration.proofs.grouping.entries_of.Given as goal

abbrev pub invariant-each : goal.invariant-each
invariant-each l = map seen_listed l.listed.items ≡ map (λ entry. seen_listed entry.listed) (take l.entry-index l.run)

use Rattle.std.proofs.Common.{◌≡◌, ◌+◌, map, take}
use Rattle.std.specs.List.{AllByRecursion}
use Rattle.sqlite.specs.Values.{bound}
use Rattle.statements_facts.specs.Listed.{seen_listed}
use Rattle.store_rows.specs.Bound.{columns_in}
use Rattle.store_rows.specs.Holding.{HasByte}
use Rattle.store_rows.proofs.refill.fill_columns.Given as goal

abbrev pub invariant-each : goal.invariant-each
invariant-each l =
    (l.place ≡ l.index + l.listed-index) × (bound l.columns.items ≡ columns_in l.list l.index (map seen_listed (take l.listed-index l.group)))
    × AllByRecursion HasByte (map seen_listed (take l.listed-index l.group))

use Rattle.std.proofs.Common.{◌≡◌, map, take}
use Rattle.statements_facts.specs.Listed.{seen_listed}
use Rattle.statements_facts.specs.Prefixed.{seen_prefixed}
use Rattle.statements_facts.proofs.by_prefix.without_prefixes.Given as goal

abbrev pub invariant-each : goal.invariant-each
invariant-each l = map seen_listed l.left.items ≡ map seen_prefixed (take l.entry-index l.all)

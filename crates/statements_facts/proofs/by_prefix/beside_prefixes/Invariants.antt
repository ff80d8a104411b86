use Rattle.std.proofs.Common.{◌≡◌, map, take}
use Rattle.statements_facts.specs.Listed.{seen_listed}
use Rattle.statements_facts.specs.Prefixed.{seen_prefixed}
use Rattle.statements_facts.proofs.by_prefix.beside_prefixes.Given as goal

abbrev pub invariant-each : goal.invariant-each
invariant-each l = map seen_prefixed l.all.items ≡ map seen_listed (take l.entry-index l.listed)

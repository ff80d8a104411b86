use Rattle.statements_facts.specs.Prefixed.{seen_prefixed}
use Rattle.statements_facts.proofs.Ascending.{RisesBelow}
use Rattle.statements_facts.proofs.by_prefix.prefixes_ascend.Given as goal

abbrev pub invariant-loop-place : goal.invariant-loop-place
invariant-loop-place l = RisesBelow seen_prefixed l.place l.all

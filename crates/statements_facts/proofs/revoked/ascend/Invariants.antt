use Rattle.statements_facts.specs.Listed.{seen_listed}
use Rattle.statements_facts.proofs.Ascending.{RisesBelow}
use Rattle.statements_facts.proofs.revoked.ascend.Given as goal

abbrev pub invariant-loop-place : goal.invariant-loop-place
invariant-loop-place l = RisesBelow seen_listed l.place l.listed

use Rattle.std.proofs.Common.{arith}
use Rattle.statements_facts.specs.Listed.{seen_listed}
use Rattle.statements_facts.proofs.Ascending.{rises_all}
use Rattle.statements_facts.proofs.revoked.ascend.Goals as goal

pub returns : goal.returns
returns c = λ _. rises_all seen_listed c.args.listed.now (λ k d below. c.loop-place.invariant k d (omega (arith, below)))

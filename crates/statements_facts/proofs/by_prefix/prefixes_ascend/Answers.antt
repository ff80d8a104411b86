use Rattle.std.proofs.Common.{arith}
use Rattle.statements_facts.specs.Prefixed.{seen_prefixed}
use Rattle.statements_facts.proofs.Ascending.{rises_all}
use Rattle.statements_facts.proofs.by_prefix.prefixes_ascend.Goals as goal

pub returns : goal.returns
returns c = λ _. rises_all seen_prefixed c.args.all.now (λ k d below. c.loop-place.invariant k d (omega (arith, below)))

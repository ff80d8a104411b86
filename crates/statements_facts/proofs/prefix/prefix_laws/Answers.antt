use Rattle.std.proofs.Common.{arith}
use Rattle.statements_facts.proofs.Prefixes.{lesser}
use Rattle.statements_facts.proofs.prefix.prefix_laws.Goals as goal

pub returns : goal.returns
returns c = lesser 8 c.args.one.now c.args.other.now (λ k. omega (arith, c.type_inv.one k)) (λ k. omega (arith, c.type_inv.other k)) c.requires

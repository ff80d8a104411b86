use Rattle.std.proofs.Common.{◌≡◌, map, take}
use Rattle.statements_facts.specs.Fact.{seen_issuer}
use Rattle.statements_facts.specs.Statement.{at_point}
use Rattle.statements.proofs.genuine_list.issuers_at.Given as goal

abbrev pub invariant-loop-point : goal.invariant-loop-point
invariant-loop-point l = map seen_issuer l.issuers.items ≡ map (λ point. at_point point.now (seen_issuer l.issuer)) (take l.point-index l.points)

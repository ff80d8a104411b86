use Rattle.std.proofs.Common.{◌≡◌, ◌++◌, drop}
use Rattle.statements.specs.Statement.{seen_statement}
use Rattle.relying_texts.specs.Texts.{facts_under_each}
use Rattle.relying_texts.specs.View.{facts_in_all, issuers_in}
use Rattle.relying_texts.proofs.gathering.add_under_each.Given as goal

abbrev pub invariant-loop-link : goal.invariant-loop-link
invariant-loop-link g l =
    facts_in_all l.genuine.items ++ facts_under_each (g.V.Verifier.accepts l.fn.verifier) (issuers_in (drop l.link-index l.links)) (seen_statement l.fn.statement)
    ≡ facts_in_all l.fn.genuine.items ++ facts_under_each (g.V.Verifier.accepts l.fn.verifier) (issuers_in l.links) (seen_statement l.fn.statement)

use Rattle.std.proofs.Common.{◌≡◌, ◌++◌, drop, map}
use Rattle.statements.specs.Statement.{seen_statement}
use Rattle.relying_texts.specs.Texts.{facts_told}
use Rattle.relying_texts.specs.View.{facts_in_all, issuers_in}
use Rattle.relying_texts.proofs.gathering.genuine_statements.Given as goal

abbrev pub invariant-loop-statement : goal.invariant-loop-statement
invariant-loop-statement g l =
    facts_in_all l.genuine.items ++ facts_told (g.V.Verifier.accepts l.fn.verifier) (issuers_in l.fn.links) (map seen_statement (drop l.statement-index l.statements))
    ≡ facts_told (g.V.Verifier.accepts l.fn.verifier) (issuers_in l.fn.links) (map seen_statement l.statements)

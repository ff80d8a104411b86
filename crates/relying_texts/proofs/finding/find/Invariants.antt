use Rattle.std.proofs.Common.{Option, map}
use Rattle.path_issuers.specs.Search.{Candidate}
use Rattle.path_issuers.specs.View.{seen_search}
use Rattle.path_search.specs.Paths.{ArePaths}
use Rattle.relying_search.specs.Asked.{StandsAt}
use Rattle.statements.specs.Statement.{seen_statement}
use Rattle.relying_texts.specs.Texts.{held_for}
use Rattle.relying_texts.proofs.finding.find.Given as goal

abbrev pub invariant-loop : goal.invariant-loop
invariant-loop g l =
    let accepts = g.V.Verifier.accepts l.fn.verifier in
    (last : Option Candidate) × ArePaths accepts (seen_search l.fn.search) l.fn.budget.search last l.paths
    × StandsAt accepts (held_for accepts (map seen_statement l.fn.statements)) (seen_search l.fn.search) last l.counter l.asked

use Rattle.std.proofs.Common.{Option, map}
use Rattle.path_issuers.specs.Search.{Candidate}
use Rattle.path_issuers.specs.View.{seen_search}
use Rattle.path_search.specs.Paths.{ArePaths}
use Rattle.relying_search.specs.AskedAmong.{StandsAtAmong}
use Rattle.statements.specs.Statement.{seen_statement}
use Rattle.relying_texts.specs.Texts.{held_for}
use Rattle.relying_policies.proofs.among.find_among.Given as goal

abbrev pub invariant-loop : goal.invariant-loop
invariant-loop g l =
    let accepts = g.V.Verifier.accepts l.fn.verifier in
    let s = seen_search l.fn.search in
    (last : Option Candidate) × ArePaths accepts s l.fn.budget.search last l.paths
    × StandsAtAmong (g.F.PathFilter.counts l.fn.filter accepts s) accepts (held_for accepts (map seen_statement l.fn.statements)) s last l.counter l.asked

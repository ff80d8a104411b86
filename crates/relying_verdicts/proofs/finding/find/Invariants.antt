use Rattle.std.proofs.Common.{◌≡◌, ◌≢◌, IsTrue, None, Option}
use Rattle.sqlite.specs.State.{HasCleanDisk}
use Rattle.sqlite.specs.Held.{state}
use Rattle.path_issuers.specs.Search.{Candidate}
use Rattle.path_issuers.specs.View.{seen_search}
use Rattle.path_search.specs.Paths.{ArePaths}
use Rattle.relying_search.specs.Asked.{StandsAt}
use Rattle.store_sql.specs.Statements.{CommitsNothing}
use Rattle.store_maps.specs.LooksUp.{IsFoundIn}
use Rattle.relying_verdicts.proofs.Searching.{HasFirst}
use Rattle.relying_verdicts.proofs.finding.find.Given as goal

abbrev pub invariant-loop : goal.invariant-loop
invariant-loop g l =
    let old = state g.S.Store l.fn.tx.conn.now in
    let now = state g.S.Store l.tx.conn.now in
    let accepts = g.V.Verifier.accepts l.fn.verifier in
    let s = seen_search l.fn.search in
    (l.tx.conn.ghost_name ≡ l.initial.tx.conn.ghost_name) × CommitsNothing old now
    × ((last : Option Candidate) × ArePaths accepts s l.fn.budget.search last l.paths × HasFirst last l.counter l.asked
    × (HasCleanDisk now → IsFoundIn old now (λ held asked. StandsAt accepts (λ query. held) s last l.counter asked) l.asked))
    × (HasCleanDisk now → l.asked.first ≢ None → IsTrue old.is_open)

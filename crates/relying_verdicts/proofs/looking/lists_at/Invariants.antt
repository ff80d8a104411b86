use Rattle.std.proofs.Common.{◌≡◌}
use Rattle.sqlite.specs.State.{HasCleanDisk}
use Rattle.sqlite.specs.Held.{state}
use Rattle.cert.specs.Certificate.{seen_certificate}
use Rattle.statements_facts.specs.Fact.{seen_issuer}
use Rattle.store_sql.specs.Statements.{CommitsNothing}
use Rattle.store_maps.specs.LooksUp.{IsFoundIn}
use Rattle.relying_verdicts.proofs.Points.{IsSoFar}
use Rattle.relying_verdicts.proofs.looking.lists_at.Given as goal

abbrev pub invariant-loop-point : goal.invariant-loop-point
invariant-loop-point g l =
    let old = state g.S.Store l.fn.tx.conn.now in
    let now = state g.S.Store l.tx.conn.now in
    (l.tx.conn.ghost_name ≡ l.initial.tx.conn.ghost_name) × CommitsNothing old now
    × (HasCleanDisk now → IsFoundIn old now (IsSoFar (seen_issuer l.fn.issuer) (seen_certificate l.fn.certificate) l.points l.point-index) l.lists.items)

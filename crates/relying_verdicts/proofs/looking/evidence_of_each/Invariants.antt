use Rattle.std.proofs.Common.{◌≡◌, ◌≢◌, [], vec_len, IsTrue}
use Rattle.sqlite.specs.State.{HasCleanDisk}
use Rattle.sqlite.specs.Held.{state}
use Rattle.store_sql.specs.Statements.{CommitsNothing}
use Rattle.store_maps.specs.LooksUp.{IsFoundIn}
use Rattle.relying_verdicts.proofs.Links.{IsSoFar}
use Rattle.relying_verdicts.proofs.looking.evidence_of_each.Given as goal

abbrev pub invariant-loop-link : goal.invariant-loop-link
invariant-loop-link g l =
    let old = state g.S.Store l.fn.tx.conn.now in
    let now = state g.S.Store l.tx.conn.now in
    (l.tx.conn.ghost_name ≡ l.initial.tx.conn.ghost_name) × CommitsNothing old now × (vec_len l.all ≡ l.link-index)
    × (HasCleanDisk now → IsFoundIn old now (IsSoFar l.links l.link-index) l.all.items)
    × (HasCleanDisk now → l.all.items ≢ [] → IsTrue old.is_open)

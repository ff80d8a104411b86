use Rattle.std.proofs.Common.{◌≡◌, ◌+◌, ◌∷◌, ℕ, IsTrue, length, map, suc, take}
use Rattle.sqlite.specs.Held.{state}
use Rattle.sqlite.specs.State.{HasCleanDisk}
use Rattle.statements_facts.specs.declared.fact.Facts.{Facts}
use Rattle.statements_facts.specs.Fact.{crl_fact, list_facts, seen_issuer}
use Rattle.store_sql.specs.Statements.{CommitsNothing}
use Rattle.statements_facts.specs.Coming.{total_of}
use Rattle.store_maps.specs.Held.{IsStoreOf}
use Rattle.store_taking.specs.Passing.{HasStepped}
use Rattle.store_taking.specs.Room.{HasRoomForFacts, IsStoreWithRoom}
use Rattle.store_taking.specs.Taking.{AreTaken}
use Rattle.store_taking.proofs.delivery.take_lists.Given as goal

abbrev pub invariant-each : goal.invariant-each
invariant-each g l =
    let old = state g.S.Store l.fn.tx.conn.now in
    let now = state g.S.Store l.tx.conn.now in
    (l.tx.conn.ghost_name ≡ l.initial.tx.conn.ghost_name) × CommitsNothing old now × (total_of l.counts ≡ suc l.issuer-index)
    × (HasCleanDisk now → HasStepped old now IsStoreOf (AreTaken (list_facts l.list.scope (crl_fact l.list) (seen_issuer l.list.issuer ∷ map seen_issuer (take l.issuer-index l.list.others.items))) l.counts))
    × (HasCleanDisk now → IsTrue old.is_open)
    × ((left : ℕ) → left + l.issuer-index ≡ length l.list.others.items → HasCleanDisk now → HasRoomForFacts (Facts.Crl l.list) old.now → IsStoreWithRoom left left now.now)

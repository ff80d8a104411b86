use Rattle.std.proofs.Common.{◌≡◌, ◌⊎◌, ◌+◌, ℕ, IsTrue, length, map, take}
use Rattle.sqlite.specs.Held.{state}
use Rattle.sqlite.specs.State.{HasCleanDisk}
use Rattle.statements_facts.specs.declared.fact.Facts.{Facts}
use Rattle.statements_facts.specs.Fact.{facts_in, seen_issuer}
use Rattle.statements_facts.specs.Single.{seen_single}
use Rattle.store_sql.specs.Statements.{CommitsNothing}
use Rattle.statements_facts.specs.Coming.{total_of}
use Rattle.store_maps.specs.Held.{IsStoreOf}
use Rattle.store_taking.specs.Passing.{HasStepped}
use Rattle.store_taking.specs.Room.{HasRoomForFacts, IsStoreWithRoom}
use Rattle.store_taking.specs.Taking.{AreTaken, facts_of_singles}
use Rattle.store_taking.proofs.delivery.take_singles.Given as goal

abbrev pub invariant-each : goal.invariant-each
invariant-each g l =
    let old = state g.S.Store l.fn.tx.conn.now in
    let now = state g.S.Store l.tx.conn.now in
    (l.tx.conn.ghost_name ≡ l.initial.tx.conn.ghost_name) × CommitsNothing old now × (total_of l.counts ≡ l.single-index)
    × (HasCleanDisk now → HasStepped old now IsStoreOf (AreTaken (facts_of_singles (seen_issuer l.response.issuer) (map seen_single (take l.single-index l.all))) l.counts))
    × (HasCleanDisk now → (l.single-index ≡ 0) ⊎ IsTrue old.is_open)
    × ((left : ℕ) → left + l.single-index ≡ length (facts_in (Facts.Ocsp l.response)) → HasCleanDisk now → HasRoomForFacts (Facts.Ocsp l.response) old.now → IsStoreWithRoom left left now.now)

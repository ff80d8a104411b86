use Rattle.std.proofs.Common.{arith, rules, map, subst, ◌≡◌}
use Rattle.std.proofs.lemmas.Result.{err_from_is_err_and}
use Rattle.sqlite.specs.Held.{state}
use Rattle.sqlite.specs.State.{HasCleanDisk, Survives, KeepsCommit}
use Rattle.sqlite.proofs.Callers.{survives_begin}
use Rattle.sqlite.proofs.StateLemmas.{survives_then}
use Rattle.statements_facts.specs.Statement.{Holdings}
use Rattle.store_adoption.specs.Seen.{seen_unscoped_list, seen_own}
use Rattle.store_migration.specs.Moved.{IsOld}
use Rattle.store_migration.specs.Migrates.{LeavesMoved}
use Rattle.store_migration.specs.Moves.{ListsFit, StopIsCaused}
use Rattle.store_sql.specs.declared.fault.StoreFault.{StoreFault}
use Rattle.store_migration.proofs.Ending.{leaves_store, stop_ends, stops_whole}
use Rattle.store_migration.proofs.migrating.move_committed.Goals as goal

pub returns-in_err-move_lists-clause-moves : goal.returns-in_err-move_lists-clause-moves
returns-in_err-move_lists-clause-moves g c =
    let p = err_from_is_err_and c.from_residual.result c.from_residual.ensures.1 in
    let old = c.args.conn.now in
    let last = c.move_lists.new.tx.conn.now in
    let crls = map seen_unscoped_list c.args.all.now.lists.items in
    let entries = map seen_own c.args.all.now.entries.items in
    let same : c.drop-tx.new.self.0 ≡ c.conn-1.given.0 = search rules in
    rw (p.1, p.2) (subst (λ h. HasCleanDisk (state g.S.Store h) → KeepsCommit (state g.S.Store old) (state g.S.Store h) × (c.in_err-move_lists.field-0.0 ≡ StoreFault.Schema → (held : Holdings) → IsOld crls entries (state g.S.Store old).now held → ⊥)) same
    (λ clean. stops_whole g.S.Store old c.transaction-tx.result.conn.now c.transaction-tx.ensures.begun (IsOld crls entries) (state g.S.Store last) (state g.S.Store c.drop-tx.new.self.0) _
    (c.in_err-move_lists.ensures.moves (omega (arith, clean, c.drop-tx.ensures.survives.clean))) (c.drop-tx.ensures.undone clean)))

pub returns-clause-crash : goal.returns-clause-crash
returns-clause-crash g c =
    let old = c.args.conn.now in
    let last = c.move_lists.new.tx.conn.now in
    let begun = c.transaction-tx.ensures.begun in
    let crls = map seen_unscoped_list c.args.all.now.lists.items in
    let entries = map seen_own c.args.all.now.entries.items in
    let P = LeavesMoved (state g.S.Store old) crls entries in
    let whole = survives_then (state g.S.Store old) (state g.S.Store last) (state g.S.Store c.commit.new.self.0) (λ _. ⊥) (λ db. db ≡ (state g.S.Store last).now.trees) P (λ _ db none. absurd none)
    (λ clean db is. leaves_store g.S.Store old c.transaction-tx.result.conn.now begun (IsOld crls entries) (λ held. held) (state g.S.Store last) db (c.in_ok-move_lists.ensures.moves (omega (arith, clean, c.commit.ensures.survives.clean))) is)
    (survives_begin g.S.Store old (state g.S.Store last) _ (rw begun at c.move_lists.ensures.survives)) c.commit.ensures.survives in
    let same : c.commit.new.self.0 ≡ c.conn-2-1.given.0 = search rules in
    subst (λ h. Survives (state g.S.Store old) (state g.S.Store h) P) same whole

pub returns-in_err-commit-clause-crash : goal.returns-in_err-commit-clause-crash
returns-in_err-commit-clause-crash g c =
    let old = c.args.conn.now in
    let last = c.move_lists.new.tx.conn.now in
    let begun = c.transaction-tx.ensures.begun in
    let crls = map seen_unscoped_list c.args.all.now.lists.items in
    let entries = map seen_own c.args.all.now.entries.items in
    let P = LeavesMoved (state g.S.Store old) crls entries in
    let whole = survives_then (state g.S.Store old) (state g.S.Store last) (state g.S.Store c.commit.new.self.0) (λ _. ⊥) (λ db. db ≡ (state g.S.Store last).now.trees) P (λ _ db none. absurd none)
    (λ clean db is. leaves_store g.S.Store old c.transaction-tx.result.conn.now begun (IsOld crls entries) (λ held. held) (state g.S.Store last) db (c.in_ok-move_lists.ensures.moves (omega (arith, clean, c.commit.ensures.survives.clean))) is)
    (survives_begin g.S.Store old (state g.S.Store last) _ (rw begun at c.move_lists.ensures.survives)) c.commit.ensures.survives in
    let same : c.commit.new.self.0 ≡ c.conn-2-1.given.0 = search rules in
    subst (λ h. Survives (state g.S.Store old) (state g.S.Store h) P) same whole

pub returns-in_err-move_lists-clause-caused : goal.returns-in_err-move_lists-clause-caused
returns-in_err-move_lists-clause-caused g c =
    let p = err_from_is_err_and c.from_residual.result c.from_residual.ensures.1 in
    let old = c.args.conn.now in
    let last = c.move_lists.new.tx.conn.now in
    let crls = map seen_unscoped_list c.args.all.now.lists.items in
    let entries = map seen_own c.args.all.now.entries.items in
    let same : c.drop-tx.new.self.0 ≡ c.conn-1.given.0 = search rules in
    rw (p.1, p.2) (subst (λ h. HasCleanDisk (state g.S.Store h) → ListsFit entries → StopIsCaused (IsOld crls entries) (state g.S.Store old) (state g.S.Store h) c.in_err-move_lists.field-0.0) same
    (λ clean fit. stop_ends g.S.Store old c.transaction-tx.result.conn.now c.transaction-tx.ensures.begun (IsOld crls entries) (state g.S.Store last) (state g.S.Store c.drop-tx.new.self.0) _ _
    (c.in_err-move_lists.ensures.caused fit (omega (arith, clean, c.drop-tx.ensures.survives.clean))) c.drop-tx.ensures.survives))

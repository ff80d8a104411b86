use Rattle.std.proofs.Common.{map, arith, sym, subst, inl}
use Rattle.std.proofs.lemmas.Result.{err_from_is_err_and}
use Rattle.sqlite.specs.Held.{state}
use Rattle.sqlite.proofs.InsideLemmas.{unchanged_keeps, keeps_then}
use Rattle.sqlite.proofs.StateLemmas.{survives_then}
use Rattle.store_adoption.specs.Seen.{seen_unscoped_list, seen_own}
use Rattle.store_adoption.proofs.Laws.{order_of_version_1}
use Rattle.sqlite.specs.State.{HasCleanDisk}
use Rattle.store_sql.proofs.Laws.{later_refuses}
use Rattle.store_migration.specs.Moves.{ListsFit}
use Rattle.store_migration.specs.Moved.{IsOld}
use Rattle.store_migration.specs.Migrates.{LeavesMoved, LeavesMigrated}
use Rattle.store_migration.proofs.Ending.{old_of}
use Rattle.store_migration.proofs.migrating.migrate_idle.Goals as goal

pub returns-in_err-all-clause-migrates : goal.returns-in_err-all-clause-migrates
returns-in_err-all-clause-migrates g c clean =
    let p = err_from_is_err_and c.from_residual.result c.from_residual.ensures.1 in
    let h = c.in_err-all.ensures.reads clean in
    rw (p.1, p.2) (h.0, λ ours held it. h.1 ours (order_of_version_1 _ (held, it)) (held, it))

pub returns-clause-migrates : goal.returns-clause-migrates
returns-clause-migrates g c clean =
    let old = state g.S.Store c.args.conn.now in
    let crls = map seen_unscoped_list c.in_ok-all.all.lists.items in
    let entries = map seen_own c.in_ok-all.all.entries.items in
    let read = c.in_ok-all.ensures.reads (omega (arith, clean, c.move_committed.ensures.crash.clean)) in
    let moved = c.in_ok-move_committed.ensures.moves clean in
    record {
      was_open = read.0.0.was_open;
      version_1 = λ ordered. (read.1 ordered).version_1;
      is_open = moved.is_open;
      held = λ held it. moved.held held (subst (λ db. IsOld crls entries db held) (sym read.0.0.now_is) (old_of crls entries old.now held (read.1 (order_of_version_1 old.now (held, it))) it));
      committed_is = moved.committed_is;
    }

pub returns-in_err-move_committed-clause-migrates : goal.returns-in_err-move_committed-clause-migrates
returns-in_err-move_committed-clause-migrates g c clean =
    let p = err_from_is_err_and c.from_residual-in_err-move_committed.result c.from_residual-in_err-move_committed.ensures.1 in
    let old = state g.S.Store c.args.conn.now in
    let mid = state g.S.Store c.read_version_1.new.conn in
    let crls = map seen_unscoped_list c.in_ok-all.all.lists.items in
    let entries = map seen_own c.in_ok-all.all.entries.items in
    let read = c.in_ok-all.ensures.reads (omega (arith, clean, c.move_committed.ensures.crash.clean)) in
    let moved = c.in_err-move_committed.ensures.moves clean in
    rw (p.1, p.2) (keeps_then old mid _ (unchanged_keeps old mid (inl read.0)) moved.0, λ ours held it. moved.1 ours held (subst (λ db. IsOld crls entries db held) (sym read.0.0.now_is) (old_of crls entries old.now held (read.1 (order_of_version_1 old.now (held, it))) it)))

pub returns-clause-crash : goal.returns-clause-crash
returns-clause-crash g c =
    let old = state g.S.Store c.args.conn.now in
    let mid = state g.S.Store c.read_version_1.new.conn in
    let crls = map seen_unscoped_list c.in_ok-all.all.lists.items in
    let entries = map seen_own c.in_ok-all.all.entries.items in
    survives_then old mid (state g.S.Store c.move_committed.new.conn) (λ _. ⊥) (LeavesMoved mid crls entries) (LeavesMigrated old) (λ _ db none. absurd none)
    (λ clean db leaves.
    let read = c.in_ok-all.ensures.reads (omega (arith, clean, c.move_committed.ensures.crash.clean)) in
    (λ ordered. (read.1 ordered).version_1, λ held it. leaves held (subst (λ db. IsOld crls entries db held) (sym read.0.0.now_is) (old_of crls entries old.now held (read.1 (order_of_version_1 old.now (held, it))) it))))
    c.read_version_1.ensures.survives c.move_committed.ensures.crash

pub returns-in_err-move_committed-clause-crash : goal.returns-in_err-move_committed-clause-crash
returns-in_err-move_committed-clause-crash g c =
    let old = state g.S.Store c.args.conn.now in
    let mid = state g.S.Store c.read_version_1.new.conn in
    let crls = map seen_unscoped_list c.in_ok-all.all.lists.items in
    let entries = map seen_own c.in_ok-all.all.entries.items in
    survives_then old mid (state g.S.Store c.move_committed.new.conn) (λ _. ⊥) (LeavesMoved mid crls entries) (LeavesMigrated old) (λ _ db none. absurd none)
    (λ clean db leaves.
    let read = c.in_ok-all.ensures.reads (omega (arith, clean, c.move_committed.ensures.crash.clean)) in
    (λ ordered. (read.1 ordered).version_1, λ held it. leaves held (subst (λ db. IsOld crls entries db held) (sym read.0.0.now_is) (old_of crls entries old.now held (read.1 (order_of_version_1 old.now (held, it))) it))))
    c.read_version_1.ensures.survives c.move_committed.ensures.crash

pub returns-in_err-move_committed-clause-caused : goal.returns-in_err-move_committed-clause-caused
returns-in_err-move_committed-clause-caused g c clean =
    let p = err_from_is_err_and c.from_residual-in_err-move_committed.result c.from_residual-in_err-move_committed.ensures.1 in
    let old = state g.S.Store c.args.conn.now in
    let mid = state g.S.Store c.read_version_1.new.conn in
    let crls = map seen_unscoped_list c.in_ok-all.all.lists.items in
    let entries = map seen_own c.in_ok-all.all.entries.items in
    let middle : HasCleanDisk mid = omega (arith, clean, c.move_committed.ensures.crash.clean) in
    let read = c.in_ok-all.ensures.reads middle in
    rw (p.1, p.2) (λ e ordered fits.
    let has = read.1 ordered in
    let held = has.version_1.0 in
    let was = has.version_1.1 in
    let fit : ListsFit entries = subst ListsFit (has.lists was.contents was.rows was.form).1 (fits held was) in
    inl (later_refuses old mid _ _ _ c.read_version_1.ensures.survives c.move_committed.ensures.crash middle
    (c.in_err-move_committed.ensures.caused clean fit e held (subst (λ db. IsOld crls entries db held) (sym read.0.0.now_is) (old_of crls entries old.now held has was)))))

pub returns-in_err-all-clause-caused : goal.returns-in_err-all-clause-caused
returns-in_err-all-clause-caused g c clean =
    let p = err_from_is_err_and c.from_residual.result c.from_residual.ensures.1 in
    rw (p.1, p.2) (λ e ordered fits. c.in_err-all.ensures.caused clean e ordered)

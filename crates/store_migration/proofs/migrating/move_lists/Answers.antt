use Rattle.std.proofs.Common.{[], map, arith}
use Rattle.std.proofs.lemmas.Result.{err_from_is_err_and}
use Rattle.store_adoption.specs.Seen.{seen_unscoped_list, seen_own}
use Rattle.store_taking.proofs.Laws.{passes_then, stops_then}
use Rattle.store_migration.specs.Moved.{IsOld, HasMoved}
use Rattle.store_migration.proofs.Moving.{stores_pass}
use Rattle.sqlite.specs.Held.{state}
use Rattle.sqlite.specs.State.{HasCleanDisk}
use Rattle.store_migration.proofs.Stopping.{stop_then}
use Rattle.store_migration.proofs.migrating.move_lists.Goals as goal

pub put_lists-requires : goal.put_lists-requires
put_lists-requires g c = record { inside = λ clean. (c.in_ok-prepare.ensures.prepares clean [] []).mode }

pub returns-in_err-prepare-clause-moves : goal.returns-in_err-prepare-clause-moves
returns-in_err-prepare-clause-moves g c clean =
    let p = err_from_is_err_and c.from_residual.result c.from_residual.ensures.1 in
    rw (p.1, p.2) (c.in_err-prepare.ensures.prepares clean (map seen_unscoped_list c.args.all.now.lists.items) (map seen_own c.args.all.now.entries.items))

pub returns-clause-moves : goal.returns-clause-moves
returns-clause-moves g c clean =
    let crls = map seen_unscoped_list c.args.all.now.lists.items in
    let entries = map seen_own c.args.all.now.entries.items in
    stores_pass _ _ (IsOld crls entries) crls entries
    (passes_then _ _ _ (IsOld crls entries) (HasMoved crls entries []) (HasMoved crls entries crls) (c.in_ok-prepare.ensures.prepares (omega (arith, clean, c.put_lists.ensures.survives.clean)) crls entries) (c.in_ok-put_lists.ensures.puts clean))

pub returns-in_err-put_lists-clause-moves : goal.returns-in_err-put_lists-clause-moves
returns-in_err-put_lists-clause-moves g c clean =
    let p = err_from_is_err_and c.from_residual-in_err-put_lists.result c.from_residual-in_err-put_lists.ensures.1 in
    let crls = map seen_unscoped_list c.args.all.now.lists.items in
    let entries = map seen_own c.args.all.now.entries.items in
    rw (p.1, p.2) (stops_then _ _ _ (IsOld crls entries) (HasMoved crls entries []) _ (c.in_ok-prepare.ensures.prepares (omega (arith, clean, c.put_lists.ensures.survives.clean)) crls entries) (c.in_err-put_lists.ensures.puts clean))

pub returns-in_err-prepare-clause-caused : goal.returns-in_err-prepare-clause-caused
returns-in_err-prepare-clause-caused g c fit clean =
    let p = err_from_is_err_and c.from_residual.result c.from_residual.ensures.1 in
    rw (p.1, p.2) (c.in_err-prepare.ensures.caused (map seen_unscoped_list c.args.all.now.lists.items) (map seen_own c.args.all.now.entries.items) clean)

pub returns-in_err-put_lists-clause-caused : goal.returns-in_err-put_lists-clause-caused
returns-in_err-put_lists-clause-caused g c fit clean =
    let p = err_from_is_err_and c.from_residual-in_err-put_lists.result c.from_residual-in_err-put_lists.ensures.1 in
    let crls = map seen_unscoped_list c.args.all.now.lists.items in
    let entries = map seen_own c.args.all.now.entries.items in
    let middle : HasCleanDisk (state g.S.Store c.prepare.new.tx.conn.now) = omega (arith, clean, c.put_lists.ensures.survives.clean) in
    rw (p.1, p.2) (stop_then _ _ _ _ _ c.prepare.ensures.survives c.put_lists.ensures.survives middle (IsOld crls entries) (HasMoved crls entries []) _
    (c.in_ok-prepare.ensures.prepares middle crls entries) (c.in_err-put_lists.ensures.caused fit clean))

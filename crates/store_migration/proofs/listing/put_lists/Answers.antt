use Rattle.std.proofs.Common.{[], IfErr, map, sym, subst, subst₂}
use Rattle.sqlite.specs.Held.{state}
use Rattle.store_adoption.specs.Seen.{seen_unscoped_list, seen_own}
use Rattle.store_taking.specs.Passing.{StepsTo}
use Rattle.store_migration.specs.Grouped.{HasSameLists, seen_unscoped_entry}
use Rattle.store_migration.specs.Moved.{HasMoved}
use Rattle.store_migration.specs.Moves.{StopIsCaused}
use Rattle.store_migration.proofs.listing.put_lists.Goals as goal

pub returns-clause-puts : goal.returns-clause-puts
returns-clause-puts g c clean =
    let entries = map seen_own c.args.all.now.entries.items in
    let same = subst₂ (λ all own. HasSameLists (map seen_unscoped_entry all) (map seen_own own)) (sym c.as_slice-3.ensures.value) c.as_slice.ensures.value c.in_ok-sorted.ensures.same in
    subst (λ lists. StepsTo (state g.S.Store c.args.tx.now.conn.now) (state g.S.Store c.put_each.new.tx.conn.now) (HasMoved (map seen_unscoped_list lists) entries []) (λ done. HasMoved (map seen_unscoped_list lists) entries (map seen_unscoped_list lists)) c.put_each.result) c.as_slice-2.ensures.value
    (c.put_each.ensures.puts clean entries same)

pub returns-clause-caused : goal.returns-clause-caused
returns-clause-caused g c fit clean =
    let entries = map seen_own c.args.all.now.entries.items in
    let same = subst₂ (λ all own. HasSameLists (map seen_unscoped_entry all) (map seen_own own)) (sym c.as_slice-3.ensures.value) c.as_slice.ensures.value c.in_ok-sorted.ensures.same in
    subst (λ lists. IfErr c.put_each.result (StopIsCaused (HasMoved (map seen_unscoped_list lists) entries []) (state g.S.Store c.args.tx.now.conn.now) (state g.S.Store c.put_each.new.tx.conn.now))) c.as_slice-2.ensures.value
    (c.put_each.ensures.caused entries same fit clean)

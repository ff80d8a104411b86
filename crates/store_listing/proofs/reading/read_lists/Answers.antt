use Rattle.std.proofs.Common.{◌≡◌, ◌∙◌, ap, map, Err, arith, rules}
use Rattle.std.proofs.lemmas.Result.{err_from_is_err_and}
use Rattle.sqlite.specs.Held.{state}
use Rattle.sqlite.specs.State.{HasCleanDisk}
use Rattle.store_adoption.proofs.Laws.{later_caused}
use Rattle.store_listing.specs.Counts.{held_count}
use Rattle.store_listing.specs.Listing.{seen_keyed, seen_held_list, with_count}
use Rattle.store_listing.specs.Reads.{CountsEntries, AreHeads, AreLists}
use Rattle.store_listing.proofs.Told.{counts_told}
use Rattle.store_listing.proofs.Composing.{reads_then, reads_both, reads_stop}
use Rattle.store_listing.proofs.reading.read_lists.Goals as goal

pub returns-in_err-counts-clause-reads : goal.returns-in_err-counts-clause-reads
returns-in_err-counts-clause-reads g c clean =
    let p = err_from_is_err_and c.from_residual.result c.from_residual.ensures.1 in
    rw (p.1, p.2) (reads_stop (state g.S.Store c.args.conn.now) (state g.S.Store c.read_counts.new.conn) CountsEntries AreLists _ (c.in_err-counts.ensures.reads clean))

pub returns-in_err-heads-clause-reads : goal.returns-in_err-heads-clause-reads
returns-in_err-heads-clause-reads g c clean =
    let p = err_from_is_err_and c.from_residual-in_err-heads.result c.from_residual-in_err-heads.ensures.1 in
    let mid = state g.S.Store c.read_counts.new.conn in
    let new = state g.S.Store c.read_heads.new.conn in
    let before : HasCleanDisk mid = omega (arith, clean, c.read_heads.ensures.survives.clean) in
    rw (p.1, p.2) (reads_then (state g.S.Store c.args.conn.now) mid new CountsEntries AreLists AreLists c.in_ok-counts.counts (Err _)
    (c.in_ok-counts.ensures.reads before) (reads_stop mid new AreHeads AreLists _ (c.in_err-heads.ensures.reads clean)) (λ it lists s counts all. all))

pub returns-in_err-heads-clause-caused : goal.returns-in_err-heads-clause-caused
returns-in_err-heads-clause-caused g c clean =
    let p = err_from_is_err_and c.from_residual-in_err-heads.result c.from_residual-in_err-heads.ensures.1 in
    let mid = state g.S.Store c.read_counts.new.conn in
    let before : HasCleanDisk mid = omega (arith, clean, c.read_heads.ensures.survives.clean) in
    rw (p.1, p.2) (later_caused (state g.S.Store c.args.conn.now) mid (state g.S.Store c.read_heads.new.conn) _ (c.in_ok-counts.ensures.reads before).0 c.read_counts.ensures.survives c.read_heads.ensures.survives before (c.in_err-heads.ensures.caused clean))

pub returns-clause-reads : goal.returns-clause-reads
returns-clause-reads g c clean =
    let counts = c.in_ok-counts.counts in
    let heads = c.in_ok-heads.heads in
    let lists = c.in_ok-with_counts.field-0 in
    let mid = state g.S.Store c.read_counts.new.conn in
    let before : HasCleanDisk mid = omega (arith, clean, c.read_heads.ensures.survives.clean) in
    let beside : map seen_held_list lists.items ≡ map (with_count (held_count counts)) (map seen_keyed heads.items) = search rules in
    reads_both (state g.S.Store c.args.conn.now) mid (state g.S.Store c.read_heads.new.conn) CountsEntries AreHeads AreLists counts heads lists
    (c.in_ok-counts.ensures.reads before) (c.in_ok-heads.ensures.reads clean)
    (λ it s all are. beside ∙ ap (map (with_count (held_count counts))) are ∙ counts_told it (held_count counts) it.crls s.form.placed.inside all)

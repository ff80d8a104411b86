use Rattle.std.proofs.Common.{Err, arith}
use Rattle.std.proofs.lemmas.Result.{err_from_is_err_and}
use Rattle.sqlite.specs.Held.{state}
use Rattle.sqlite.specs.State.{HasCleanDisk}
use Rattle.sqlite.proofs.StateLemmas.{survives_then}
use Rattle.sqlite.proofs.Callers.{unchanged_then}
use Rattle.store_adoption.proofs.Laws.{later_caused}
use Rattle.store_listing.specs.Listing.{IsListing}
use Rattle.store_listing.specs.Reads.{AreIssuers, AreLists, AreSingles}
use Rattle.store_listing.proofs.Composing.{reads_then, reads_stop}
use Rattle.store_listing.proofs.reading.read_all.Goals as goal

pub returns-in_err-issuers-clause-reads : goal.returns-in_err-issuers-clause-reads
returns-in_err-issuers-clause-reads g c clean =
    let p = err_from_is_err_and c.from_residual.result c.from_residual.ensures.1 in
    rw (p.1, p.2) (reads_stop (state g.S.Store c.args.conn.now) (state g.S.Store c.read_issuers.new.conn) AreIssuers IsListing _ (c.in_err-issuers.ensures.reads clean))

pub returns-in_err-lists-clause-reads : goal.returns-in_err-lists-clause-reads
returns-in_err-lists-clause-reads g c clean =
    let p = err_from_is_err_and c.from_residual-in_err-lists.result c.from_residual-in_err-lists.ensures.1 in
    let mid = state g.S.Store c.read_issuers.new.conn in
    let new = state g.S.Store c.read_lists.new.conn in
    let before : HasCleanDisk mid = omega (arith, clean, c.read_lists.ensures.survives.clean) in
    rw (p.1, p.2) (reads_then (state g.S.Store c.args.conn.now) mid new AreIssuers IsListing IsListing c.in_ok-issuers.issuers (Err _)
    (c.in_ok-issuers.ensures.reads before) (reads_stop mid new AreLists IsListing _ (c.in_err-lists.ensures.reads clean)) (λ it all s issuers listing. listing))

pub returns-in_err-lists-clause-caused : goal.returns-in_err-lists-clause-caused
returns-in_err-lists-clause-caused g c clean =
    let p = err_from_is_err_and c.from_residual-in_err-lists.result c.from_residual-in_err-lists.ensures.1 in
    let mid = state g.S.Store c.read_issuers.new.conn in
    let before : HasCleanDisk mid = omega (arith, clean, c.read_lists.ensures.survives.clean) in
    rw (p.1, p.2) (later_caused (state g.S.Store c.args.conn.now) mid (state g.S.Store c.read_lists.new.conn) _ (c.in_ok-issuers.ensures.reads before).0 c.read_issuers.ensures.survives c.read_lists.ensures.survives before (c.in_err-lists.ensures.caused clean))

pub returns-in_err-singles-clause-reads : goal.returns-in_err-singles-clause-reads
returns-in_err-singles-clause-reads g c clean =
    let p = err_from_is_err_and c.from_residual-in_err-singles.result c.from_residual-in_err-singles.ensures.1 in
    let first = state g.S.Store c.read_issuers.new.conn in
    let mid = state g.S.Store c.read_lists.new.conn in
    let new = state g.S.Store c.read_singles.new.conn in
    let before : HasCleanDisk mid = omega (arith, clean, c.read_singles.ensures.survives.clean) in
    let sooner : HasCleanDisk first = omega (arith, before, c.read_lists.ensures.survives.clean) in
    rw (p.1, p.2) (reads_then (state g.S.Store c.args.conn.now) first new AreIssuers IsListing IsListing c.in_ok-issuers.issuers (Err _)
    (c.in_ok-issuers.ensures.reads sooner)
    (reads_then first mid new AreLists IsListing IsListing c.in_ok-lists.lists (Err _) (c.in_ok-lists.ensures.reads before) (reads_stop mid new AreSingles IsListing _ (c.in_err-singles.ensures.reads clean)) (λ it all s lists listing. listing))
    (λ it all s issuers listing. listing))

pub returns-in_err-singles-clause-caused : goal.returns-in_err-singles-clause-caused
returns-in_err-singles-clause-caused g c clean =
    let p = err_from_is_err_and c.from_residual-in_err-singles.result c.from_residual-in_err-singles.ensures.1 in
    let old = state g.S.Store c.args.conn.now in
    let first = state g.S.Store c.read_issuers.new.conn in
    let mid = state g.S.Store c.read_lists.new.conn in
    let new = state g.S.Store c.read_singles.new.conn in
    let before : HasCleanDisk mid = omega (arith, clean, c.read_singles.ensures.survives.clean) in
    let sooner : HasCleanDisk first = omega (arith, before, c.read_lists.ensures.survives.clean) in
    let same = unchanged_then old first mid (c.in_ok-issuers.ensures.reads sooner).0 (c.in_ok-lists.ensures.reads before).0 in
    let both = survives_then old first mid (λ _. ⊥) (λ _. ⊥) (λ _. ⊥) (λ _ db none. none) (λ _ db none. none) c.read_issuers.ensures.survives c.read_lists.ensures.survives in
    rw (p.1, p.2) (later_caused old mid new _ same both c.read_singles.ensures.survives before (c.in_err-singles.ensures.caused clean))

use Rattle.std.proofs.Common.{to_z, of_z, w64, rules, ◌≡◌}
use Rattle.store_sql.proofs.Refusing.{entries_caused, if_err_then}
use Rattle.store_sql.proofs.Keeping.{keeps_on_error}
use Rattle.store_sql.proofs.entry.entries_between.Goals as goal

pub returns-clause-cause : goal.returns-clause-cause
returns-clause-cause g c clean of2 =
    let e0 : to_z w64 (of_z w64 c.args.places.now.first) ≡ c.args.places.now.first = search rules in
    let e1 : to_z w64 (of_z w64 c.args.places.now.end) ≡ c.args.places.now.end = search rules in
    if_err_then _ _ _ (rw (e0, e1) at (c.query_all.ensures.err clean)) (entries_caused _ _ of2.0 of2.1 c.args.places.now.first c.args.places.now.end)

pub returns-clause-kept : goal.returns-clause-kept
returns-clause-kept g c clean = keeps_on_error _ _ _ _ _ (c.query_all.ensures.err clean)

pub returns-clause-shows : goal.returns-clause-shows
returns-clause-shows g c clean =
    let e0 : to_z w64 (of_z w64 c.args.places.now.first) ≡ c.args.places.now.first = search rules in
    let e1 : to_z w64 (of_z w64 c.args.places.now.end) ≡ c.args.places.now.end = search rules in
    rw (e0, e1) at (c.query_all.ensures.ok clean)

use Rattle.std.proofs.Common.{to_z, of_z, w64, rules, ◌≡◌}
use Rattle.store_sql.proofs.entry.delete_entries.Goals as goal

pub returns-clause-runs : goal.returns-clause-runs
returns-clause-runs g c clean inside =
    let e0 : to_z w64 (of_z w64 c.args.places.now.first) ≡ c.args.places.now.first = search rules in
    let e1 : to_z w64 (of_z w64 c.args.places.now.end) ≡ c.args.places.now.end = search rules in
    rw (e0, e1) at (c.execute.ensures.runs clean inside)

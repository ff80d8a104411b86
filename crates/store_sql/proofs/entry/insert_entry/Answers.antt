use Rattle.std.proofs.Common.{to_z, of_z, w64, rules, ◌≡◌}
use Rattle.store_sql.proofs.entry.insert_entry.Goals as goal

pub returns-clause-runs : goal.returns-clause-runs
returns-clause-runs g c clean inside =
    let e0 : to_z w64 (of_z w64 c.args.entry.now.place) ≡ c.args.entry.now.place = search rules in
    let e1 : to_z w64 (of_z w64 c.args.entry.now.issuer) ≡ c.args.entry.now.issuer = search rules in
    let e2 : to_z w64 (of_z w64 c.args.entry.now.scope) ≡ c.args.entry.now.scope = search rules in
    let e3 : to_z w64 (of_z w64 c.args.entry.now.reason) ≡ c.args.entry.now.reason = search rules in
    rw (e0, e1, e2, e3) at (c.execute.ensures.runs clean inside)

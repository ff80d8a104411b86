use Rattle.std.proofs.Common.{to_z, of_z, w64, rules, ◌≡◌}
use Rattle.store_sql.proofs.crl.insert_crl.Goals as goal

pub returns-clause-runs : goal.returns-clause-runs
returns-clause-runs g c clean inside =
    let e0 : to_z w64 (of_z w64 c.args.key.now.issuer) ≡ c.args.key.now.issuer = search rules in
    let e1 : to_z w64 (of_z w64 c.args.key.now.scope) ≡ c.args.key.now.scope = search rules in
    let e2 : to_z w64 (of_z w64 c.args.cells.now.since) ≡ c.args.cells.now.since = search rules in
    let e3 : to_z w64 (of_z w64 c.args.cells.now.until) ≡ c.args.cells.now.until = search rules in
    rw (e0, e1, e2, e3) at (c.execute.ensures.runs clean inside)

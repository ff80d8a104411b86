use Rattle.std.proofs.Common.{to_z, of_z, w64, rules, ◌≡◌}
use Rattle.store_sql.proofs.crl.delete_crl.Goals as goal

pub returns-clause-runs : goal.returns-clause-runs
returns-clause-runs g c clean inside =
    let e0 : to_z w64 (of_z w64 c.args.key.now.issuer) ≡ c.args.key.now.issuer = search rules in
    let e1 : to_z w64 (of_z w64 c.args.key.now.scope) ≡ c.args.key.now.scope = search rules in
    rw (e0, e1) at (c.execute.ensures.runs clean inside)

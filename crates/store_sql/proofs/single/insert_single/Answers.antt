use Rattle.std.proofs.Common.{to_z, of_z, w64, rules, ◌≡◌}
use Rattle.store_sql.proofs.single.insert_single.Goals as goal

pub returns-clause-runs : goal.returns-clause-runs
returns-clause-runs g c clean inside =
    let e0 : to_z w64 (of_z w64 c.args.key.now.issuer) ≡ c.args.key.now.issuer = search rules in
    let e1 : to_z w64 (of_z w64 c.args.said.now.this_update) ≡ c.args.said.now.this_update = search rules in
    let e2 : to_z w64 (of_z w64 c.args.said.now.produced_at) ≡ c.args.said.now.produced_at = search rules in
    let e3 : to_z w64 (of_z w64 c.args.said.now.since) ≡ c.args.said.now.since = search rules in
    let e4 : to_z w64 (of_z w64 c.args.said.now.until) ≡ c.args.said.now.until = search rules in
    let e5 : to_z w64 (of_z w64 c.args.said.now.status) ≡ c.args.said.now.status = search rules in
    let e6 : to_z w64 (of_z w64 c.args.said.now.reason) ≡ c.args.said.now.reason = search rules in
    rw (e0, e1, e2, e3, e4, e5, e6) at (c.execute.ensures.runs clean inside)
